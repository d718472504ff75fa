-- `lists::move_chunk` meets its contract: the array holds the part as it was before the move.
use native.Mathlib.Omega.{arith}
use mathlib.Core.Path.{◌∙◌}
use Rattle.lists.proofs.PartLaws.{part-lent, part-stored, length_part}
use Rattle.lists.proofs.move_chunk.Goals as goal

pub returns : goal.returns
returns c =
    let a = c.args in
    part-stored a.s.now a.to a.n _ _ (c.copy_from_slice-2.ensures.after ∙ c.copy_from_slice.ensures.after ∙ part-lent a.from a.n a.s.now) (length_part a.from a.n a.s.now (omega arith))
