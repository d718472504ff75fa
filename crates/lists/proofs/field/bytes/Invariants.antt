-- `lists::field::bytes` meets its contract. The loop's invariant: what is left of the number makes the bytes that are left.
use Prim.Native.Nat.{◌-◌}
use mathlib.Core.Path.{◌≡◌}
use mathlib.Core.List.{◌++◌}
use lib.ListN.{length, take}
use Rattle.lists.specs.LittleEndian.{le_bytes}
use Rattle.lists.proofs.field.bytes.Given as goal

abbrev pub invariant-loop-byte : goal.invariant-loop-byte
invariant-loop-byte g l = (length l.byte-items ≡ g.row.N) × (take l.byte-index l.byte-items ++ le_bytes (g.row.N - l.byte-index) l.rest ≡ le_bytes g.row.N l.v)
