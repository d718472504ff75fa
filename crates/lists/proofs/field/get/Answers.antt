use native.Mathlib.Omega.{arith}
use Prim.Native.Nat.{◌+◌, ◌-◌}
use mathlib.Core.Path.{◌≡◌, sym}
use Rattle.lists.proofs.LittleEndianLaws.{le_at-none, le_at-down, le_at-three}
use Rattle.lists.proofs.field.get.Goals as goal

pub loop-i-init : goal.loop-i-init
loop-i-init g c = (omega arith, sym (le_at-none _ _ _ (omega arith)))

pub overflow_mul-number : goal.overflow_mul-number
overflow_mul-number g c = record { fits = omega (arith, le_at-three _ _ _ c.args.s.now (omega arith) c.type_inv.s c.loop-i.invariant.1) }

pub overflow_add-number : goal.overflow_add-number
overflow_add-number g c = record { fits = omega (arith, le_at-three _ _ _ c.args.s.now (omega arith) c.type_inv.s c.loop-i.invariant.1) }

pub loop-i-preserved : goal.loop-i-preserved
loop-i-preserved g c =
    let w = c.loop-i in
    let a = c.args in
    (omega arith, rw (c.from.ensures, w.invariant.1) (sym (le_at-down (a.at + g.row.N - w.i) _ w.i (w.i - 1) a.s.now (omega arith) (omega arith))))

pub returns : goal.returns
returns g c =
    let a = c.args in
    let start : c.loop-i.i ≡ a.at = omega arith in
    let all : a.at + g.row.N - a.at ≡ g.row.N = omega arith in
    rw all at (rw start at c.loop-i.invariant.1)
