use mathlib.Core.Path.{◌≡◌}
use lib.ListN.{length, take}
use Rattle.lists.specs.Part.{put}
use Rattle.capi.specs.StandbyWords.{standby_length}
use Rattle.capi.proofs.standby_words.store_numbers.Given as goal

abbrev pub invariant-loop-i : goal.invariant-loop-i
invariant-loop-i l = (length l.w ≡ standby_length) × (l.w ≡ put l.initial.w 11 (take l.i l.numbers))
