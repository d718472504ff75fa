-- `MarkedPages::next` meets its contract. The loop's invariant: the pages that are left are those of the start.
use Prim.Native.Nat.{◌-◌, ◌≤◌}
use mathlib.Core.Path.{◌≡◌}
use mathlib.Core.List.{◌∷◌}
use lib.ListN.{length}
use Rattle.marks.specs.Next.{marked_from}
use Rattle.marks.proofs.walk.MarkedPagesIterator.next.Given as goal

abbrev pub invariant-loop-self : goal.invariant-loop-self
invariant-loop-self l = (l.self-inside.base ≤ l.self-inside.m) × (marked_from l.self-inside.base (l.self-inside.word ∷ l.self-inside.words.now) (l.self-inside.m - l.self-inside.base) ≡ l.fn.self)

abbrev pub decreases-loop-self : goal.decreases-loop-self
decreases-loop-self l = length l.self-inside.words.now
