-- `primary_words::packets_of` meets its contract. The loop's invariant: the packets read, and the rest, which fit their
-- fields. Assumes nothing.
use Prim.Native.Nat.{◌+◌, ◌*◌}
use mathlib.Core.Path.{◌≡◌}
use mathlib.Core.List.{◌++◌}
use mathlib.Core.Bool.{true}
use lib.ListN.{length, take}
use Rattle.capi.specs.Word.{between}
use Rattle.capi.specs.PrimaryWords.{primary_length, packets_at, written_at, packets_in, packets_fit, packets_of}
use Rattle.capi.proofs.primary_words.packets_of.Given as goal

abbrev pub invariant-loop-i : goal.invariant-loop-i
invariant-loop-i l = let rest = between (packets_at + 3 * l.i) written_at l.w in
    (length l.w ≡ primary_length) × (length l.packets ≡ 64) × (packets_fit rest ≡ true) × (packets_of (packets_in l.w) ≡ take l.i l.packets ++ packets_of rest)
