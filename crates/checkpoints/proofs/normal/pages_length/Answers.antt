-- `checkpoints::normal::pages_length` meets its contract. Assumes nothing.
use Rattle.checkpoints.proofs.WrittenLaws.{pages-are}
use Rattle.checkpoints.proofs.normal.pages_length.Goals as goal

pub returns : goal.returns
returns c = let a = c.args in pages-are a.u a.wide a.k c.number_end.result c.number_end.ensures
