-- `trials::once::checkpoint` meets its contract. Assumes nothing.
use mathlib.Core.Path.{◌≡◌, refl, sym, ◌∙◌}
use mathlib.Core.Bool.{true, false}
use borrow.Author.Tests.{eq-eqb, ne_eqb}
use Rattle.lists.proofs.TestLaws.{cond-true, cond-false}
use Rattle.rules.specs.World as call
use Rattle.script.specs.Pair.{perform, processor_of}
use Rattle.trials.specs.Tick.{at_interval}
use Rattle.trials.specs.Site.{trial_of}
use Rattle.trials.proofs.CourseLaws.{done-count, must-done}
use Rattle.trials.proofs.once.checkpoint.Goals as goal

pub returns-then-not-is_multiple_of : goal.returns-then-not-is_multiple_of
unfolding trial_of
returns-then-not-is_multiple_of c = sym (cond-false (at_interval (trial_of c.args.t)) _ _ (ne_eqb _ _ (λ z. let e : false ≡ true = c.if-not-is_multiple_of.ensures.1 z in cc)))

pub unless_refused-requires : goal.unless_refused-requires
unfolding perform
unless_refused-requires c = done-count _ _ refl _ c.close.ensures

pub returns : goal.returns
unfolding perform trial_of
returns c =
    must-done (λ u. call.checkpoint (processor_of 1)) _ _ _ _ c.close.ensures c.unless_refused.ensures
    ∙ sym (cond-true (at_interval (trial_of c.args.t)) _ _ (eq-eqb _ _ (c.if-not-is_multiple_of.ensures.0 refl)))
