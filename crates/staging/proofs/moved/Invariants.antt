-- `staging::moved` meets its contract. The loop's invariant: i of the numbers behind the first n stand at their new places. Assumes nothing.
use mathlib.Core.Path.{◌≡◌}
use lib.ListN.{length, drop}
use lib.Seq.{paste}
use Rattle.staging.proofs.moved.Given as goal

abbrev pub invariant-loop-i : goal.invariant-loop-i
invariant-loop-i l = (length l.out ≡ length l.numbers) × (l.out ≡ paste l.numbers 0 (drop l.n l.numbers) l.i)
