-- `trials::guest::blocks` meets its contract. Assumes nothing.
use Rattle.trials.specs.Tick.{write_block}
use Rattle.trials.proofs.guest.blocks.Goals as goal

pub returns : goal.returns
returns c = c.each_of.ensures write_block (λ u i r h p. p.1)
