-- `trials::once::flush` meets its contract. Assumes nothing.
use mathlib.Core.Path.{refl}
use Rattle.rules.specs.World as call
use Rattle.trials.specs.Site.{trial_of}
use Rattle.trials.proofs.CourseLaws.{site-count, quiet-done}
use Rattle.trials.proofs.once.flush.Goals as goal

pub with_site-requires : goal.with_site-requires
with_site-requires c = site-count _ _ refl _ c.flushed_all.ensures

pub returns : goal.returns
unfolding trial_of
returns c = quiet-done (λ u. call.flush u.world.standby.state.slots.due) c.args.t _ _ c.flushed_all.ensures c.with_site.ensures
