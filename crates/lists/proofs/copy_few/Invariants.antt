-- `lists::copy_few` meets its contract. The loop's invariant: the first i bytes are src's, the others as at entry.
use mathlib.Core.Path.{◌≡◌}
use lib.Seq.{paste}
use Rattle.lists.proofs.copy_few.Given as goal

abbrev pub invariant-loop-i : goal.invariant-loop-i
invariant-loop-i l = l.dst ≡ paste l.initial.dst 0 l.src l.i
