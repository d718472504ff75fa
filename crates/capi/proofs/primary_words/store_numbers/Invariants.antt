-- `primary_words::store_numbers` meets its contract. The loop's invariant: the numbers passed are stored. That they
-- fit, their type gives. Assumes nothing.
use mathlib.Core.Path.{◌≡◌}
use mathlib.Core.Bool.{true}
use lib.ListN.{length, take}
use Rattle.lists.specs.Part.{put}
use Rattle.capi.specs.Word.{all_fit16}
use Rattle.capi.specs.PrimaryWords.{primary_length, written_at}
use Rattle.capi.proofs.primary_words.store_numbers.Given as goal

abbrev pub invariant-loop-i : goal.invariant-loop-i
invariant-loop-i l = (length l.w ≡ primary_length) × (l.w ≡ put l.initial.w written_at (take l.i l.numbers)) × (all_fit16 (take l.i l.numbers) ≡ true)
