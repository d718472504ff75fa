-- `traces::answer::first_site` meets its contract. Assumes nothing.
use Rattle.traces.proofs.AnswerLaws.{first-is}
use Rattle.traces.proofs.answer.first_site.Goals as goal

pub returns : goal.returns
returns c = first-is _ c.started-site.ensures
