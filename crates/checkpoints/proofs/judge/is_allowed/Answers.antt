-- `checkpoints::judge::is_allowed` meets its contract. Assumes nothing.
use mathlib.Core.Path.{sym}
use mathlib.Core.Bool.{or-false}
use borrow.Author.Tests.{lt-ltb, le-ltb}
use Rattle.checkpoints.proofs.PlaceLaws.{length-numbers}
use Rattle.checkpoints.proofs.judge.is_allowed.Goals as goal

pub returns-else-blocks-g : goal.returns-else-blocks-g
returns-else-blocks-g c = rw (c.is_in.ensures, lt-ltb _ _ c.if-k-lt-MOST_RECORDS.true, length-numbers c.args.blocks.now, le-ltb _ _ c.if-blocks-g.false) (sym (or-false _))
