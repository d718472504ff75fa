-- `primary_words::numbers_fit` meets its contract. The loop's invariant: the bits of the numbers passed and the test of
-- the rest. Assumes nothing.
use mathlib.Core.Path.{◌≡◌}
use mathlib.Core.Bool.{◌&&◌}
use Rattle.capi.specs.Word.{fits16, all_fit16, between}
use Rattle.capi.specs.PrimaryWords.{written_in, primary_length}
use Rattle.capi.proofs.primary_words.numbers_fit.Given as goal

abbrev pub invariant-loop-i : goal.invariant-loop-i
invariant-loop-i l = (fits16 l.numbers && all_fit16 (between l.i primary_length l.w)) ≡ all_fit16 (written_in l.w)
