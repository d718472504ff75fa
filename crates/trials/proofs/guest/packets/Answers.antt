-- `trials::guest::packets` meets its contract. Assumes nothing.
use Rattle.trials.specs.Tick.{send_packet}
use Rattle.trials.proofs.guest.packets.Goals as goal

pub returns : goal.returns
returns c = c.each_of.ensures send_packet (λ u i r h p. p.1)
