-- `primary_words::numbers_of` meets its contract. The loop's invariant: the numbers read. Assumes nothing.
use mathlib.Core.Path.{◌≡◌}
use lib.ListN.{length, take}
use Rattle.lists.specs.Part.{part}
use Rattle.capi.specs.PrimaryWords.{primary_length, written_at}
use Rattle.capi.proofs.primary_words.numbers_of.Given as goal

abbrev pub invariant-loop-i : goal.invariant-loop-i
invariant-loop-i l = (length l.w ≡ primary_length) × (length l.numbers ≡ 64) × (take l.i l.numbers ≡ take l.i (part written_at 64 l.w))
