-- `text::decimal::digits_of` meets its contract. The loop's invariant: the digits of the rest, in front of those
-- stored, are the digits of n, and the bytes in front of those stored are 0.
use Prim.Native.Nat.{◌^◌, ◌≤◌, ◌<◌}
use mathlib.Core.Path.{◌≡◌}
use mathlib.Core.List.{[]}
use lib.ListN.{length, take, drop, replicate}
use Rattle.text.specs.Decimal.{digits_before}
use Rattle.text.proofs.decimal.digits_of.Given as goal

abbrev pub invariant-loop-rest : goal.invariant-loop-rest
invariant-loop-rest l = (1 ≤ l.start) × (l.start ≤ 20) × (length l.bytes ≡ 20) × (l.rest < 10 ^ l.start) × (digits_before 20 l.n [] ≡ digits_before l.start l.rest (drop l.start l.bytes)) × (take l.start l.bytes ≡ replicate l.start 0)

abbrev pub decreases-loop-rest : goal.decreases-loop-rest
decreases-loop-rest l = l.start
