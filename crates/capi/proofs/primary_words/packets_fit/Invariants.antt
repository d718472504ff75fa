-- `primary_words::packets_fit` meets its contract. The loop's invariant: the bits of the packets passed and the test of
-- the rest. Assumes nothing.
use Prim.Native.Nat.{◌+◌, ◌*◌}
use mathlib.Core.Path.{◌≡◌}
use mathlib.Core.Bool.{◌&&◌}
use Rattle.capi.specs.Word.{fits32, fits16, between}
use Rattle.capi.specs.PrimaryWords.{packets_fit, packets_at, written_at, packets_in}
use Rattle.capi.proofs.primary_words.packets_fit.Given as goal

abbrev pub invariant-loop-i : goal.invariant-loop-i
invariant-loop-i l = (fits32 l.epochs && fits16 l.lengths && fits16 l.ports) && packets_fit (between (packets_at + 3 * l.i) written_at l.w) ≡ packets_fit (packets_in l.w)
