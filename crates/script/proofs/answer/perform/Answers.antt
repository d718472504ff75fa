-- `script::answer::perform` meets its contract. Assumes nothing.
use Rattle.script.specs.Pair.{perform}
use Rattle.script.proofs.answer.perform.Goals as goal

pub returns-in-Other : goal.returns-in-Other
unfolding perform
returns-in-Other c = rw (c.in-Other.is, c.refused.ensures)
