-- `trials::turns::take_one` meets its contract. Assumes nothing.
use mathlib.Core.Path.{sym, ap, ◌∙◌}
use mathlib.Core.Bool.{not}
use lib.ListN.{replicate}
use borrow.Author.Tests.{eq-eqb, ne_eqb}
use Rattle.rules.specs.World as call
use Rattle.script.specs.Pair.{Done, most_lent, used_port, perform}
use Rattle.trials.specs.declared.TrialSite.{TrialSite}
use Rattle.trials.specs.Trial.{on, with_taken}
use Rattle.trials.specs.Tick.{may_take, take_turn}
use Rattle.trials.specs.Site.{trial_of, end_of}
use Rattle.trials.proofs.QueueLaws.{step-take-refused}
use Rattle.trials.proofs.CourseLaws.{refused-done, taken-done, turn-made, turn-none}
use Rattle.trials.proofs.turns.take_one.Goals as goal

pub returns-then-step-number : goal.returns-then-step-number
unfolding trial_of perform
returns-then-step-number c =
    let e = c.take-step.ensures in
    turn-none may_take take_turn (trial_of c.args.t) (ap not (eq-eqb _ _ (ap (λ (y : Done). y.outcome.number) (sym e) ∙ c.if-step-number.true ∙ c.number.ensures)))

pub returns-then-step-ne0 : goal.returns-then-step-ne0
unfolding trial_of perform
returns-then-step-ne0 c =
    let e = c.take-step.ensures in
    turn-made may_take take_turn (trial_of c.args.t) (ap not (ne_eqb _ _ (λ z. c.if-step-number.false (ap (λ (y : Done). y.outcome.number) e ∙ z ∙ sym c.number.ensures))))
    (refused-done c.args.t _ _ _ (call.take used_port (replicate most_lent 0)) with_taken e c.if-step-ne0.true (λ m. step-take-refused _ used_port (replicate most_lent 0) m) (ap end_of c.ending.ensures))

pub returns : goal.returns
unfolding trial_of perform
returns c =
    let e = c.take-step.ensures in
    let k = c.taken.ensures in
    turn-made may_take take_turn (trial_of c.args.t) (ap not (ne_eqb _ _ (λ z. c.if-step-number.false (ap (λ (y : Done). y.outcome.number) e ∙ z ∙ sym c.number.ensures))))
    (taken-done c.args.t _ _ _ used_port (replicate most_lent 0) _ _ e c.if-step-ne0.false k.sent_value k.most_value (ap (λ (y : TrialSite). on (trial_of y)) k.value))
