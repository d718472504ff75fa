-- `lists::remove` meets its contract. The loop's invariant: the first i of the bytes behind the removed ones stand at their new
-- places, or all of them where they are fewer.
use Prim.Native.Nat.{min}
use mathlib.Core.Path.{◌≡◌}
use lib.ListN.{take, drop}
use Rattle.lists.specs.Part.{put}
use Rattle.lists.proofs.remove.Given as goal

abbrev pub invariant-loop-i : goal.invariant-loop-i
invariant-loop-i l = l.s ≡ put l.initial.s l.at (take (min l.i l.count) (drop l.from l.initial.s))
