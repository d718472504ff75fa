-- `trials::guest::write_block` meets its contract. Assumes nothing.
use mathlib.Core.Path.{refl}
use lib.ListN.{replicate}
use Rattle.rules.specs.World as call
use Rattle.script.specs.Pair.{perform}
use Rattle.trials.specs.Tick.{filled}
use Rattle.trials.proofs.CourseLaws.{done-count, must-done}
use Rattle.trials.proofs.guest.write_block.Goals as goal

pub unless_refused-requires : goal.unless_refused-requires
unfolding perform
unless_refused-requires c = done-count _ _ refl _ c.disk.ensures

pub returns : goal.returns
unfolding perform
returns c = must-done (λ u. call.disk_write c.args.block (replicate 64 filled)) _ _ _ _ c.disk.ensures c.unless_refused.ensures
