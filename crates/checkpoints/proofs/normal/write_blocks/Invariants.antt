-- `checkpoints::normal::write_blocks` meets its contract. Assumes nothing.
-- The loop's invariant: the blocks so far are written.
use mathlib.Core.Path.{◌≡◌}
use mathlib.Core.List.{◌++◌}
use Rattle.lists.specs.Part.{PutDone}
use Rattle.marks.specs.Next.{marked_pages}
use Rattle.checkpoints.specs.Form.{kept_in}
use Rattle.checkpoints.proofs.WrittenLaws.{blocks_of}
use Rattle.checkpoints.proofs.normal.write_blocks.Given as goal

abbrev pub invariant-loop-block : goal.invariant-loop-block
invariant-loop-block l = (marked_pages l.ws l.d ≡ l.yielded ++ l.block-iterator) × PutDone (blocks_of l.u (kept_in l.kept) l.yielded) l.initial.out 0 l.out l.at
