use mathlib.Core.Path.{◌≡◌}
use lib.ListN.{length, take}
use Rattle.lists.specs.Part.{part}
use Rattle.capi.proofs.standby_words.numbers_of.Given as goal

abbrev pub invariant-loop-i : goal.invariant-loop-i
invariant-loop-i l = (length l.numbers ≡ 64) × (take l.i l.numbers ≡ take l.i (part 11 64 l.w))
