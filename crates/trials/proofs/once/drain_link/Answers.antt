-- `trials::once::drain_link` meets its contract. Assumes nothing.
use mathlib.Core.Path.{refl}
use lib.ListN.{replicate}
use Rattle.rules.specs.World as call
use Rattle.script.specs.Pair.{link_room}
use Rattle.trials.specs.Site.{trial_of}
use Rattle.trials.proofs.CourseLaws.{site-count, quiet-done}
use Rattle.trials.proofs.once.drain_link.Goals as goal

pub with_site-requires : goal.with_site-requires
with_site-requires c = site-count _ _ refl _ c.drain_bytes.ensures

pub returns : goal.returns
unfolding trial_of
returns c = quiet-done (λ u. call.drain u.rate (replicate (link_room u.world) 0)) c.args.t _ _ c.drain_bytes.ensures c.with_site.ensures
