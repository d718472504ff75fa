use native.Mathlib.Omega.{arith}
use Rattle.sums.proofs.PageSumLaws.{added_none, added_more, added-all, added-fits, placed-byte}
use Rattle.sums.proofs.weighted_sum.Goals as goal

pub loop-i-init : goal.loop-i-init
loop-i-init c = added_none _ _

pub overflow_add-total : goal.overflow_add-total
overflow_add-total c =
    let at = c.loop-i in
    let byte = (c.type_inv.bytes c.loop-i.i).fits in
    record { fits = omega (arith, at.invariant.total-high, at.invariant.inside, c.requires.0) }

pub overflow_mul-placed : goal.overflow_mul-placed
overflow_mul-placed c =
    let a = c.args in
    let at = c.loop-i in
    let byte = (c.type_inv.bytes c.loop-i.i).fits in
    record { fits = omega (arith, placed-byte a.a a.bytes.now at.total at.placed at.i at.invariant c.loop-i-test.true c.requires.0 byte) }

pub overflow_add-placed : goal.overflow_add-placed
overflow_add-placed c =
    let a = c.args in
    let at = c.loop-i in
    let byte = (c.type_inv.bytes c.loop-i.i).fits in
    record { fits = omega (arith, at.invariant.placed-high, at.invariant.inside, c.requires.0, placed-byte a.a a.bytes.now at.total at.placed at.i at.invariant c.loop-i-test.true c.requires.0 byte) }

pub loop-i-preserved : goal.loop-i-preserved
loop-i-preserved c =
    let a = c.args in
    let at = c.loop-i in
    let byte = (c.type_inv.bytes c.loop-i.i).fits in
    added_more a.a a.bytes.now at.total at.placed at.i at.invariant c.loop-i-test.true c.requires.0 byte

pub overflow_mul-result : goal.overflow_mul-result
overflow_mul-result c =
    let a = c.args in
    let at = c.loop-i in
    record { fits = omega (arith, added-fits a.a a.bytes.now at.total at.placed at.i at.invariant c.requires.0 c.requires.1) }

pub overflow_add-result : goal.overflow_add-result
overflow_add-result c =
    let a = c.args in
    let at = c.loop-i in
    record { fits = omega (arith, added-fits a.a a.bytes.now at.total at.placed at.i at.invariant c.requires.0 c.requires.1, at.invariant.placed-high, at.invariant.inside, c.requires.0) }

pub returns : goal.returns
returns c =
    let a = c.args in
    let at = c.loop-i in
    added-all a.a a.bytes.now at.total at.placed at.i at.invariant c.loop-i-test.false
