-- `checkpoints::normal::mark_all` meets its contract. Assumes nothing.
use Prim.Native.Nat.{◌+◌}
use mathlib.Core.Path.{sym, ap, ◌∙◌}
use mathlib.Core.List.{List}
use Prim.Native.Nat.{ℕ}
use lib.ListN.{drop}
use Rattle.checkpoints.specs.Scan.{numbers_of}
use Rattle.checkpoints.specs.Form.{marked_all}
use Rattle.checkpoints.proofs.MarkedLaws.{marked_turn, marked-end}
use Rattle.checkpoints.proofs.normal.mark_all.Goals as goal

pub loop-block-preserved : goal.loop-block-preserved
loop-block-preserved c =
    let blocks = c.args.blocks.now in
    let at = c.loop-block in
    at.invariant
    ∙ marked_turn at.ws blocks at.block-index c.loop-block-test.true
    ∙ ap (λ (ws : List ℕ). marked_all ws (drop (at.block-index + 1) (numbers_of blocks))) (sym c.mark.ensures)

pub returns : goal.returns
returns c = let at = c.loop-block in sym (at.invariant ∙ marked-end at.ws c.args.blocks.now at.block-index c.loop-block-test.false)
