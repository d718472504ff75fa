-- `trials::turns::read_one` meets its contract. Assumes nothing.
use mathlib.Core.Path.{◌≡◌, refl, sym, ap, ◌∙◌}
use mathlib.Core.Bool.{not}
use borrow.Author.Rules.{rules}
use borrow.Author.Tests.{eq-eqb, ne_eqb}
use Rattle.std.specs.Prelude.{Err}
use Rattle.script.specs.Pair.{Done}
use Rattle.trials.specs.Tick.{read_call, reads_on, read_turn}
use Rattle.trials.specs.Site.{trial_of, turn_of}
use Rattle.trials.proofs.CourseLaws.{done-count, must-done, turn-made, turn-none}
use Rattle.trials.proofs.turns.read_one.Goals as goal

pub returns-then-step-eq-CUT_SHORT : goal.returns-then-step-eq-CUT_SHORT
unfolding trial_of
returns-then-step-eq-CUT_SHORT c =
    let e = c.read_link-step.ensures in
    turn-none reads_on read_turn (trial_of c.args.t) (ap not (eq-eqb _ _ (ap (λ (y : Done). y.outcome.number) (sym e) ∙ c.if-step-eq-CUT_SHORT.true)))

pub unless_refused-requires : goal.unless_refused-requires
unless_refused-requires c = done-count _ _ refl _ c.read_link-step.ensures

pub returns-in_err-unless_refused : goal.returns-in_err-unless_refused
unfolding trial_of
returns-in_err-unless_refused c =
    let e = c.read_link-step.ensures in
    let is : c.from_residual.result ≡ Err c.in_err-unless_refused.field-0.0 = search rules in
    ap turn_of is
    ∙ turn-made reads_on read_turn (trial_of c.args.t) (ap not (ne_eqb _ _ (λ z. c.if-step-eq-CUT_SHORT.false (ap (λ (y : Done). y.outcome.number) e ∙ z))))
    (must-done read_call c.args.t _ _ _ e c.in_err-unless_refused.ensures)

pub returns : goal.returns
unfolding trial_of
returns c =
    let e = c.read_link-step.ensures in
    turn-made reads_on read_turn (trial_of c.args.t) (ap not (ne_eqb _ _ (λ z. c.if-step-eq-CUT_SHORT.false (ap (λ (y : Done). y.outcome.number) e ∙ z))))
    (must-done read_call c.args.t _ _ _ e c.in_ok-unless_refused.ensures)
