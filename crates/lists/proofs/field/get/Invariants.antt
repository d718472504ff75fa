-- `lists::field::get` meets its contract. The loop's invariant: the number is that of the bytes from i on.
use Prim.Native.Nat.{◌+◌, ◌-◌, ◌≤◌}
use mathlib.Core.Path.{◌≡◌}
use Rattle.lists.specs.LittleEndian.{le_at}
use Rattle.lists.proofs.field.get.Given as goal

abbrev pub invariant-loop-i : goal.invariant-loop-i
invariant-loop-i g l = (l.at ≤ l.i) × (l.number ≡ le_at (l.at + g.row.N - l.i) l.s l.i)
