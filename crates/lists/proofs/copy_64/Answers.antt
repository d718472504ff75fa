use native.Mathlib.Omega.{arith}
use mathlib.Core.Path.{◌∙◌}
use lib.ListN.{length-take}
use Rattle.lists.proofs.PartLaws.{put-head}
use Rattle.lists.proofs.copy_64.Goals as goal

pub copy_from_slice-requires-2 : goal.copy_from_slice-requires-2
copy_from_slice-requires-2 c = simp length-take (omega (arith, c.copy_from_slice.ensures.len))

pub returns : goal.returns
returns c = put-head _ _ _ 64 (c.copy_from_slice-2.ensures.after ∙ c.copy_from_slice.ensures.after) (omega arith)
