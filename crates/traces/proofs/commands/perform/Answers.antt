-- `traces::commands::perform` meets its contract. Assumes nothing.
use Rattle.traces.specs.Command.{traced}
use Rattle.traces.proofs.commands.perform.Goals as goal

pub returns-in-Pair : goal.returns-in-Pair
unfolding traced
returns-in-Pair c = rw c.in-Pair.is c.perform.ensures

pub returns-in-Set : goal.returns-in-Set
unfolding traced
returns-in-Set c = rw c.in-Set.is c.set_byte.ensures

pub returns-in-Tick : goal.returns-in-Tick
unfolding traced
returns-in-Tick c = rw c.in-Tick.is c.primary_tick.ensures
