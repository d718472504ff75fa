use mathlib.Core.Path.{refl}
use Rattle.lists.proofs.PartLaws.{put-head}
use Rattle.lists.proofs.copy_front.Goals as goal

pub returns-in_default-2 : goal.returns-in_default-2
returns-in_default-2 c = put-head _ _ _ _ c.copy_from_slice.ensures.after refl
