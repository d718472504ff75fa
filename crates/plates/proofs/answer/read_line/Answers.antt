use Prim.Native.Nat.{ℕ}
use mathlib.Core.Path.{◌≡◌, sym, ap, ◌∙◌}
use native.Mathlib.Omega.{arith}
use borrow.Author.Rules.{rules}
use borrow.Author.Tests.{eq-eqb, ne_eqb, lt-ltb, le-ltb}
use lib.ListN.{drop}
use lib.Seq.{length-take-le}
use Rattle.std.specs.Prelude.{Result, Err}
use Rattle.text.specs.Line.{space}
use Rattle.text.proofs.FeedPartLaws.{first-length}
use Rattle.plates.specs.declared.Fault.{Fault}
use Rattle.plates.specs.declared.BadLine.{BadLine}
use Rattle.plates.specs.declared.PlateHead.{PlateHead}
use Rattle.plates.specs.Hex.{Hex}
use Rattle.plates.specs.Words.{bad_line}
use Rattle.plates.specs.Plate.{on_hex, plate_of}
use Rattle.plates.specs.Read.{hex_of, on_head, output_of}
use Rattle.plates.proofs.HeadLaws.{headed_by}
use Rattle.plates.proofs.AnswerLaws.{plate-headed, headed-part, unit_fits}
use Rattle.plates.proofs.MapLaws.{mapped-ok, mapped-err}
use Rattle.plates.proofs.answer.read_line.Goals as goal
use Rattle.plates.proofs.answer.read_line.Goals.{After-head_of, After-read_hex}

pub returns-then-n-eq0-clause-value : goal.returns-then-n-eq0-clause-value
unfolding plate_of
returns-then-n-eq0-clause-value c = rw (eq-eqb _ _ c.if-n-eq0.true)

pub returns-then-n-gt-MOST_LINE-clause-value : goal.returns-then-n-gt-MOST_LINE-clause-value
unfolding plate_of
returns-then-n-gt-MOST_LINE-clause-value c = rw (ne_eqb _ _ c.if-n-eq0.false, lt-ltb _ _ c.if-n-gt-MOST_LINE.true)

pub returns-then-line-n-eq13-clause-value : goal.returns-then-line-n-eq13-clause-value
unfolding plate_of
returns-then-line-n-eq13-clause-value c = rw (ne_eqb _ _ c.if-n-eq0.false, le-ltb _ _ c.if-n-gt-MOST_LINE.false, eq-eqb _ _ c.if-line-n-eq13.true)

pub slice_bounds-head_of-end : goal.slice_bounds-head_of-end
slice_bounds-head_of-end c = let l = first-length space c.args.line.now in sym (length-take-le c.part_end-end.result c.args.line.now (omega (arith, c.part_end-end.ensures, l)))

-- what the line gives by its first word
headed : (c : After-head_of) → plate_of c.args.line.now ≡ headed_by c.head_of.result c.part_end-end.result (drop c.part_end-end.result c.args.line.now)
headed c =
    let l = first-length space c.args.line.now in
    plate-headed _ _ c.if-n-eq0.false c.if-n-gt-MOST_LINE.false c.if-line-n-eq13.false c.part_end-end.ensures
    ∙ headed-part c.args.line.now c.part_end-end.result (omega (arith, c.part_end-end.ensures, l)) c.head_of.result c.head_of.ensures

pub returns-in_err-head-clause-value : goal.returns-in_err-head-clause-value
returns-in_err-head-clause-value c =
    let is : c.from_residual.result ≡ Err c.in_err-head.field-0.0 = search rules in
    let m = mapped-err _ c.head_of.result c.map_err.result c.map_err.ensures.cases _ c.in_err-head.was in
    let made : c.in_err-head.field-0.0 ≡ record { fault = m.0; place = 1 } = search rules in
    ap (λ (r : Result (PlateHead × ℕ) BadLine). output_of r c.args.bytes.now) is
    ∙ ap (λ (b : BadLine). bad_line b.fault b.place) made
    ∙ sym (headed (goal.at.returns-in_err-head-clause-value c).After-head_of ∙ ap (λ (h : Result PlateHead Fault). headed_by h c.part_end-end.result (drop c.part_end-end.result c.args.line.now)) (sym m.1))

pub read_hex-requires : goal.read_hex-requires
read_hex-requires c =
    let l = first-length space c.args.line.now in
    (omega (arith, c.part_end-end.ensures, l), c.if-n-gt-MOST_LINE.false, c.requires.1)

-- by its head, and what is read behind it
behind : (c : After-read_hex) → plate_of c.args.line.now ≡ on_hex (hex_of c.read_hex.result c.read_hex.new.bytes) (on_head c.in_ok-head.head)
behind c =
    let head = mapped-ok _ c.head_of.result c.map_err.result c.map_err.ensures.cases _ c.in_ok-head.was in
    headed (goal.at.After-read_hex c).After-head_of
    ∙ ap (λ (h : Result PlateHead Fault). headed_by h c.part_end-end.result (drop c.part_end-end.result c.args.line.now)) (sym head)
    ∙ ap (λ (x : Hex). on_hex x (on_head c.in_ok-head.head)) (sym c.read_hex.ensures.value)

pub returns-in_err-count-clause-value : goal.returns-in_err-count-clause-value
returns-in_err-count-clause-value c =
    let is : c.from_residual-in_err-count.result ≡ Err c.in_err-count.field-0.0 = search rules in
    ap (λ (r : Result (PlateHead × ℕ) BadLine). output_of r c.read_hex.new.bytes) is
    ∙ sym (behind (goal.at.returns-in_err-count-clause-value c).After-read_hex ∙ rw c.in_err-count.was)

pub returns-clause-value : goal.returns-clause-value
returns-clause-value c = sym (behind (goal.at.returns-clause-value c).After-read_hex ∙ rw c.in_ok-count.was)

pub returns-clause-bound : goal.returns-clause-bound
returns-clause-bound c =
    let head = mapped-ok _ c.head_of.result c.map_err.result c.map_err.ensures.cases _ c.in_ok-head.was in
    (c.in_ok-count.ensures.count_bound, unit_fits _ _ (head ∙ c.head_of.ensures))
