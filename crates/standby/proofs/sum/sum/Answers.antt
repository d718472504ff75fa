use Rattle.records.proofs.RefusalLaws.{number-passed}
use Rattle.rules.proofs.StandbyFacts.{standby-facts}
use Rattle.rules.proofs.SumLaws.{standby-sum-accepted}
use Rattle.standby.proofs.sum.sum.Goals as goal

pub order_sum-requires : goal.order_sum-requires
order_sum-requires c =
    let f = standby-sum-accepted _ _ _ (number-passed _ _ c.check_sum.ensures c.in_default.is) in
    let g = (standby-facts _ f.in_range).settings.shared in
    (g.u-high, g.m-high, f.memory_lent, f.names)
