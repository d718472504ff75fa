-- `pages::write` meets its contract. Assumes nothing.
use Rattle.pages.specs.Write.{written}
use Rattle.pages.proofs.write.Goals as goal

pub returns : goal.returns
unfolding written
returns c = c.copy_into.ensures
