-- `sums::weighted_sum` meets its contract. Assumes nothing.
use Rattle.sums.proofs.PageSumLaws.{Added}
use Rattle.sums.proofs.weighted_sum.Given as goal

abbrev pub invariant-loop-i : goal.invariant-loop-i
invariant-loop-i l = Added l.a l.bytes l.total l.placed l.i
