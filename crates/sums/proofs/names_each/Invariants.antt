-- `sums::names_each` meets its contract. Assumes nothing.
use Rattle.sums.proofs.NamedLaws.{Named}
use Rattle.sums.proofs.names_each.Given as goal

abbrev pub invariant-loop-p : goal.invariant-loop-p
invariant-loop-p l = Named 1024 l.order l.named l.p-index
