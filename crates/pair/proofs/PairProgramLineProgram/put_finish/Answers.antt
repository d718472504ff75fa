-- Nothing is put. Assumes nothing.
use Rattle.lists.proofs.PartLaws.{put-done-none}
use Rattle.pair.proofs.PairProgramLineProgram.put_finish.Goals as goal

pub returns-clause-printed : goal.returns-clause-printed
returns-clause-printed c = put-done-none _ _
