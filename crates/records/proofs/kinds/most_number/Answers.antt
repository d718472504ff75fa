use native.Mathlib.Omega.{arith}
use Rattle.records.proofs.kinds.most_number.Goals as goal

pub returns-then-wide : goal.returns-then-wide
returns-then-wide c = (rw c.if-wide.true, omega arith)

pub returns-else-wide : goal.returns-else-wide
returns-else-wide c = (rw c.if-wide.false, omega arith)
