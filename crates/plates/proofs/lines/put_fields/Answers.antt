use Rattle.lists.proofs.PartLaws.{put-done-none}
use Rattle.plates.proofs.lines.put_fields.Goals as goal

pub returns-in-Err-clause-put_done : goal.returns-in-Err-clause-put_done
returns-in-Err-clause-put_done c = rw c.in-Err.is (put-done-none _ _)
