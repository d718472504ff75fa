-- `trials::turns::takes` meets its contract. Assumes nothing.
use Rattle.script.specs.Site.{world_of}
use Rattle.trials.specs.Tick.{may_take, take_turn}
use Rattle.trials.specs.Site.{trial_of}
use Rattle.trials.proofs.turns.takes.Goals as goal

pub returns : goal.returns
unfolding trial_of world_of
returns c = c.repeat.ensures may_take take_turn (λ u r p. p.1)
