-- `staging::place_from` meets its contract. The loop's invariant: none of the numbers passed is n. Assumes nothing.
use mathlib.Core.Path.{◌≡◌}
use Prim.Native.Nat.{◌+◌}
use lib.ListN.{take, drop}
use Rattle.lists.specs.Select.{place_in}
use Rattle.staging.proofs.place_from.Given as goal

abbrev pub invariant-loop-i : goal.invariant-loop-i
invariant-loop-i l = (l.i + place_in l.n (drop l.i (take l.end l.numbers)) ≡ l.from + place_in l.n (drop l.from (take l.end l.numbers)))
