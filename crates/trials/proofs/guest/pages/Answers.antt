-- `trials::guest::pages` meets its contract. Assumes nothing.
use Rattle.trials.specs.Tick.{write_page}
use Rattle.trials.proofs.guest.pages.Goals as goal

pub returns : goal.returns
returns c = c.each_of.ensures write_page (λ u i r h p. p.1)
