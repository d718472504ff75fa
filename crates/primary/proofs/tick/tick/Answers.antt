-- `primary::tick::tick` meets its contract. Assumes nothing.
use Rattle.rules.specs.PrimaryTick.{primary_tick_reply}
use Rattle.rules.proofs.ReplyLaws.{check-accepts, check-refuses}
use Rattle.primary.proofs.tick.tick.Goals as goal

pub returns-in-Err : goal.returns-in-Err
unfolding primary_tick_reply
returns-in-Err c = rw c.refused.ensures (check-refuses _ _ _ _ _ c.check_tick.ensures c.in-Err.is)

pub returns : goal.returns
unfolding primary_tick_reply
returns c = rw (c.accepted.ensures, c.tick_state.ensures) (check-accepts _ _ _ _ _ c.check_tick.ensures c.in_default.is)
