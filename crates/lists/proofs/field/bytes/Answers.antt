use native.Mathlib.Omega.{arith}
use Prim.Native.Nat.{◌-◌}
use mathlib.Core.Path.{◌≡◌, ◌∙◌}
use lib.ListN.{length-set, length-replicate}
use Rattle.lists.proofs.LittleEndianLaws.{le_bytes-turn, le_bytes-end}
use Rattle.lists.proofs.field.bytes.Goals as goal

pub loop-byte-init : goal.loop-byte-init
loop-byte-init g c = let e : g.row.N - 0 ≡ g.row.N = omega arith in (length-replicate g.row.N 0, rw e)

pub loop-byte-preserved : goal.loop-byte-preserved
loop-byte-preserved g c =
    let w = c.loop-byte in
    (length-set _ _ _ ∙ w.invariant.0, le_bytes-turn w.byte-items g.row.N w.byte-index w.rest w.invariant.0 (omega arith) ∙ w.invariant.1)

pub returns : goal.returns
returns g c = le_bytes-end _ _ g.row.N c.loop-byte.byte-index c.loop-byte.rest c.loop-byte.invariant.0 (omega arith) c.loop-byte.invariant.1
