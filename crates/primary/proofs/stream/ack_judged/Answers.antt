-- `primary::stream::ack_judged` meets its contract. Assumes nothing.
use mathlib.Core.Path.{◌≡◌, refl, sym, ◌∙◌}
use mathlib.Core.Bool.{true, false}
use Rattle.rules.specs.Reply.{unless_refused}
use Rattle.rules.specs.Stream.{ack_refusal, ack_judged}
use Rattle.rules.specs.PrimaryState.{primary_ok, protected}
use Rattle.rules.proofs.ReplyLaws.{judged-unread, judged-refused, judged-accepted}
use Rattle.rules.proofs.StreamLaws.{ack-range, ack-mode, ack-number}
use Rattle.primary.proofs.stream.ack_judged.Goals as goal
use Rattle.primary.proofs.stream.ack_judged.Goals.{After-read, Else-not-primary_ok}

-- the state is in range past the first test
ok : (c : Else-not-primary_ok) → primary_ok c.args.p ≡ true
ok c = sym c.primary_ok.ensures ∙ c.if-not-primary_ok.false

-- what is judged past the tests of the state, by the record that was read
read : (c : After-read) → ack_judged c.args.p c.args.bytes.now ≡ unless_refused (ack_refusal c.args.p c.read.result) c.read.result
read c =
    let on : protected c.args.p ≡ true = rw c.if-p.false in
    ack-number _ _ (sym c.primary_ok.ensures ∙ c.if-not-primary_ok.false) on c.read.result c.read.ensures (ack_refusal c.args.p c.read.result) refl

pub returns-then-not-primary_ok : goal.returns-then-not-primary_ok
returns-then-not-primary_ok c = rw c.into.ensures (sym (ack-range _ _ (sym c.primary_ok.ensures ∙ c.if-not-primary_ok.true)))

pub returns-then-p : goal.returns-then-p
returns-then-p c =
    let e : protected c.args.p ≡ false = rw c.if-p.true in
    rw c.into-then-p.ensures (sym (ack-mode _ _ (ok (goal.at.returns-then-p c).Else-not-primary_ok) e))

pub returns-in_err-r : goal.returns-in_err-r
returns-in_err-r c =
    judged-unread (ack_refusal c.args.p c.read.result) _ (read (goal.at.returns-in_err-r c).After-read) c.in_err-r.was (rw c.in_err-r.was) c.from_residual.ensures.1

pub returns-in_err-check_ack : goal.returns-in_err-check_ack
returns-in_err-check_ack c =
    judged-refused (ack_refusal c.args.p c.read.result) _ _ _ (read (goal.at.returns-in_err-check_ack c).After-read) (rw c.in_ok-r.was c.check_ack.ensures) c.in_err-check_ack.was c.from_residual-in_err-check_ack.ensures.1

pub returns : goal.returns
returns c =
    sym c.in_ok-r.was ∙ judged-accepted (ack_refusal c.args.p c.read.result) _ _ (read (goal.at.returns c).After-read) (rw c.in_ok-r.was c.check_ack.ensures) c.in_ok-check_ack.was
