use native.Mathlib.Omega.{arith}
use Rattle.lists.proofs.PartLaws.{part-back-front}
use Rattle.lists.proofs.copy_into.Goals as goal

pub returns : goal.returns
returns c = part-back-front _ _ _ _ (omega arith) c.copy_front.ensures
