use mathlib.Core.Path.{◌≡◌, sym, ◌∙◌}
use mathlib.Core.Bool.{true}
use native.Mathlib.Omega.{arith}
use Rattle.lists.specs.LittleEndian.{le_at}
use Rattle.records.specs.Kind.{unit_ok, body_length, record_length, is_for}
use Rattle.records.proofs.KindLaws.{unit-le, for-test}
use Rattle.records.proofs.ReadLaws.{Whole, read-unit, read-no-header, read-kind, read_length, BodyCut, read-no-body, read_whole}
use Rattle.records.proofs.reading.read.Lts.View
use Rattle.records.proofs.reading.read.Tie
use Rattle.records.proofs.reading.read.Reads
use Rattle.records.proofs.reading.read.Goals as goal
use Rattle.records.proofs.reading.read.Goals.{After-body_length-n, After-is_for, Else-length-n, Else-not-is_for, Else-not-unit_ok, Else-s-whole, Then-s-whole}

pub returns-then-not-unit_ok : goal.returns-then-not-unit_ok
returns-then-not-unit_ok c = rw c.from.ensures (sym (read-unit _ _ _ (sym c.unit_ok.ensures ∙ c.if-not-unit_ok.true)))

-- what each place knows, in the definition's own terms, stands before the first answer that needs it
unit_ok_lem : (c : Else-not-unit_ok) → unit_ok c.args.u ≡ true
unit_ok_lem c = sym c.unit_ok.ensures ∙ c.if-not-unit_ok.false

pub returns-then-s-lt-HEADER_LENGTH : goal.returns-then-s-lt-HEADER_LENGTH
returns-then-s-lt-HEADER_LENGTH c = sym (read-no-header _ _ _ (unit_ok_lem (goal.at.returns-then-s-lt-HEADER_LENGTH c).Else-not-unit_ok) c.if-s-lt-HEADER_LENGTH.true)

reader-is : (c : After-is_for) →
    let a = c.args in
    c.is_for.result ≡ is_for a.reader (le_at 2 a.s.now 2)
reader-is c = cc

pub returns-then-not-is_for : goal.returns-then-not-is_for
returns-then-not-is_for c =
    let h = c in
    rw c.from-then-not-is_for.ensures (sym (read-kind _ _ _ (unit_ok_lem (goal.at.returns-then-not-is_for c).Else-not-unit_ok) h.if-s-lt-HEADER_LENGTH.false (sym (reader-is (goal.at.returns-then-not-is_for c).After-is_for) ∙ c.if-not-is_for.true)))

for-reader : (c : Else-not-is_for) →
    let a = c.args in
    is_for a.reader (le_at 2 a.s.now 2) ≡ true
for-reader c = sym (reader-is (View.up-After-is_for Tie.the-claims Reads.Pre Reads.Post c.before.before)) ∙ c.if-not-is_for.false

pub body_length-n-requires : goal.body_length-n-requires
body_length-n-requires c =
    let a = c.args in
    rw c.get-kind.ensures ((unit-le _ (unit_ok_lem (goal.at.body_length-n-requires c).Else-not-unit_ok)).1, for-test a.reader (le_at 2 a.s.now 2) (for-reader (goal.at.body_length-n-requires c).Else-not-is_for))

body_is : (c : After-body_length-n) →
    let a = c.args in
    c.body_length-n.result ≡ body_length a.u (le_at 2 a.s.now 2)
body_is c = cc

pub returns-then-length-n : goal.returns-then-length-n
returns-then-length-n c =
    let b = c in
    let h = c in
    rw c.from-then-length-n.ensures (sym (read_length _ _ _ (unit_ok_lem (goal.at.returns-then-length-n c).Else-not-unit_ok) h.if-s-lt-HEADER_LENGTH.false (for-reader (goal.at.returns-then-length-n c).Else-not-is_for) (λ e. c.if-length-n.true (b.get-length.ensures ∙ e ∙ sym (body_is (goal.at.returns-then-length-n c).After-body_length-n)))))

pub overflow_sub-result-then-s-whole : goal.overflow_sub-result-then-s-whole
overflow_sub-result-then-s-whole c = omega arith

size_is : (c : Else-length-n) →
    let a = c.args in
    le_at 2 a.s.now 0 ≡ body_length a.u (le_at 2 a.s.now 2)
size_is c =
    let b = c in
    sym b.get-length.ensures ∙ c.if-length-n.false ∙ body_is (View.up-After-body_length-n Tie.the-claims Reads.Pre Reads.Post b.before.before)

body-cut : (c : Then-s-whole) →
    let a = c.args in
    BodyCut a.reader a.u a.s.now
unfolding record_length
body-cut c =
    let b = c in
    let h = c in
    record {
      unit = unit_ok_lem (View.up-Else-not-unit_ok Tie.the-claims Reads.Pre Reads.Post h.before.before.before.before.before.before.before.before.before);
      header = h.if-s-lt-HEADER_LENGTH.false;
      kind = for-reader (View.up-Else-not-is_for Tie.the-claims Reads.Pre Reads.Post b.before.before.before.before);
      size = size_is (View.up-Else-length-n Tie.the-claims Reads.Pre Reads.Post c.before.before);
      body = omega (arith, body_is (View.up-After-body_length-n Tie.the-claims Reads.Pre Reads.Post b.before.before.before), c.if-s-whole.true);
    }

pub returns-then-s-whole : goal.returns-then-s-whole
unfolding record_length
returns-then-s-whole c = rw (body_is (goal.at.returns-then-s-whole c).After-body_length-n) (sym (read-no-body _ _ _ (body-cut (goal.at.returns-then-s-whole c).Then-s-whole)))

whole : (c : Else-s-whole) →
    let a = c.args in
    Whole a.reader a.u a.s.now
unfolding record_length
whole c =
    let b = c in
    record {
      unit = unit_ok_lem (View.up-Else-not-unit_ok Tie.the-claims Reads.Pre Reads.Post b.before.before.before.before.before.before.before.before.before);
      kind = for-reader (View.up-Else-not-is_for Tie.the-claims Reads.Pre Reads.Post b.before.before.before.before);
      size = size_is (View.up-Else-length-n Tie.the-claims Reads.Pre Reads.Post c.before.before);
      body = rw (← body_is (View.up-After-body_length-n Tie.the-claims Reads.Pre Reads.Post b.before.before.before)) c.if-s-whole.false;
    }

pub fields-requires : goal.fields-requires
fields-requires c =
    let a = c.args in
    let w = whole c in
    rw c.get-kind.ensures ((unit-le _ w.unit).1, for-test a.reader (le_at 2 a.s.now 2) w.kind, w.body)

pub returns : goal.returns
returns c = let w = read_whole _ _ _ (whole (goal.at.returns c).Else-s-whole) in cc
