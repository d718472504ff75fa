use mathlib.Core.Path.{◌≡◌}
use lib.ListN.{drop}
use Rattle.checkpoints.specs.Scan.{numbers_of}
use Rattle.checkpoints.specs.Form.{marked_all}
use Rattle.checkpoints.proofs.normal.mark_all.Given as goal

abbrev pub invariant-loop-block : goal.invariant-loop-block
invariant-loop-block l = marked_all l.initial.ws (numbers_of l.blocks) ≡ marked_all l.ws (drop l.block-index (numbers_of l.blocks))
