use Rattle.lists.proofs.PartLaws.{part-lent}
use Rattle.lists.proofs.part_of.Goals as goal

pub returns : goal.returns
returns c = part-lent _ _ _
