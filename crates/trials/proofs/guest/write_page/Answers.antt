-- `trials::guest::write_page` meets its contract. Assumes nothing.
use mathlib.Core.Path.{refl}
use mathlib.Core.List.{[], ◌∷◌}
use Rattle.rules.specs.World as call
use Rattle.script.specs.Pair.{perform}
use Rattle.trials.specs.Tick.{filled}
use Rattle.trials.proofs.CourseLaws.{done-count, must-done}
use Rattle.trials.proofs.guest.write_page.Goals as goal

pub unless_refused-requires : goal.unless_refused-requires
unfolding perform
unless_refused-requires c = done-count _ _ refl _ c.write.ensures

pub returns : goal.returns
unfolding perform
returns c = must-done (λ u. call.memory_write c.args.page 0 (filled ∷ [])) _ _ _ _ c.write.ensures c.unless_refused.ensures
