-- `primary::sum::sum` meets its contract. Assumes nothing.
use Rattle.records.proofs.RefusalLaws.{number-passed}
use Rattle.rules.specs.Sums.{primary_sum_reply}
use Rattle.rules.proofs.ReplyLaws.{check-accepts, check-refuses}
use Rattle.rules.proofs.PrimaryFacts.{primary-facts}
use Rattle.rules.proofs.SumLaws.{primary-sum-accepted}
use Rattle.primary.proofs.sum.sum.Goals as goal

pub returns-in-Err : goal.returns-in-Err
unfolding primary_sum_reply
returns-in-Err c = rw c.refused.ensures (check-refuses _ _ _ _ _ c.check_sum.ensures c.in-Err.is)

pub rising_sum-requires : goal.rising_sum-requires
rising_sum-requires c =
    let f = primary-sum-accepted _ _ (number-passed _ _ c.check_sum.ensures c.in_default.is) in
    let g = (primary-facts _ f.in_range).settings.shared in
    (g.u-high, g.m-high, f.memory_lent)

pub returns : goal.returns
unfolding primary_sum_reply
returns c = rw (c.accepted.ensures, c.rising_sum.ensures) (check-accepts _ _ _ _ _ c.check_sum.ensures c.in_default.is)
