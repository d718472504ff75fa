-- `staging::numbers_ok` meets its contract. The loop's invariant: what the test says of the first n numbers it says of those left. Assumes nothing.
use mathlib.Core.Path.{◌≡◌}
use lib.ListN.{take, drop}
use Rattle.staging.specs.Slot.{numbers_ok}
use Rattle.staging.proofs.numbers_ok.Given as goal

abbrev pub invariant-loop-i : goal.invariant-loop-i
invariant-loop-i l = (numbers_ok l.d (take l.n l.numbers) ≡ numbers_ok l.d (drop l.i (take l.n l.numbers)))
