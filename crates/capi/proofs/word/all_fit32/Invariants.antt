-- `word::all_fit32` meets its contract. The loop's invariant: the words passed and the test of the rest.
-- Assumes nothing.
use mathlib.Core.Path.{◌≡◌}
use mathlib.Core.Bool.{◌&&◌}
use Rattle.capi.specs.Word.{all_fit32, between}
use Rattle.capi.proofs.word.all_fit32.Given as goal

abbrev pub invariant-loop-i : goal.invariant-loop-i
invariant-loop-i l = (l.low && all_fit32 (between l.i l.to l.w)) ≡ all_fit32 (between l.from l.to l.w)
