-- `sums::order_sum` meets its contract. Assumes nothing.
use Rattle.sums.proofs.PageSumLaws.{Summed}
use Rattle.sums.proofs.order_sum.Given as goal

abbrev pub invariant-loop-p : goal.invariant-loop-p
invariant-loop-p l = Summed l.u l.image l.order l.total l.p-index
