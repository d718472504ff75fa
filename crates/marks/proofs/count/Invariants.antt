-- `marks::count` meets its contract. The loop's invariant: the pages of the words so far are counted.
use Prim.Native.Nat.{◌*◌}
use mathlib.Core.Path.{◌≡◌}
use Rattle.marks.specs.Mark.{count_marks}
use Rattle.marks.proofs.count.Given as goal

abbrev pub invariant-loop-word : goal.invariant-loop-word
invariant-loop-word l = l.n ≡ count_marks l.ws (64 * l.word-index)
