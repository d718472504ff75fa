use Prim.Native.Nat.{◌≤◌, ◌<◌}
use mathlib.Core.Path.{refl, sym, ◌∙◌}
use native.Mathlib.Omega.{arith}
use lib.ListN.{length, length-set}
use Rattle.text.proofs.DecimalLaws.{fewer_digits, digits-turn, digits-end, zeros-turn}
use Rattle.text.proofs.decimal.digits_of.Goals as goal

pub loop-rest-init : goal.loop-rest-init
loop-rest-init c = (omega arith, omega arith, refl, omega arith, refl, refl)

pub overflow_sub-start : goal.overflow_sub-start
overflow_sub-start c = omega arith

pub last_digit-requires : goal.last_digit-requires
last_digit-requires c = tt

pub bounds-bytes-start : goal.bounds-bytes-start
bounds-bytes-start c = omega arith

pub loop-rest-smaller : goal.loop-rest-smaller
loop-rest-smaller c = omega arith

pub loop-rest-preserved : goal.loop-rest-preserved
loop-rest-preserved c =
    let at = c.loop-rest in
    let l : 10 ≤ at.rest = omega arith in
    let q = fewer_digits at.start at.rest l at.invariant.3 in
    let h : at.start ≤ length at.bytes = omega arith in
    (omega arith, omega arith, simp length-set at.invariant.2, q.1, at.invariant.4 ∙ digits-turn at.bytes c.last_digit.result at.start at.rest at.invariant.0 h c.last_digit.ensures l, zeros-turn at.start at.bytes c.last_digit.result at.invariant.0 at.invariant.5)

pub overflow_sub-start-2 : goal.overflow_sub-start-2
overflow_sub-start-2 c = omega arith

pub last_digit-requires-2 : goal.last_digit-requires-2
last_digit-requires-2 c = tt

pub bounds-bytes-start-2 : goal.bounds-bytes-start-2
bounds-bytes-start-2 c = omega arith

pub returns : goal.returns
returns c =
    let at = c.loop-rest in
    let l : at.rest < 10 = omega arith in
    let h : at.start ≤ length at.bytes = omega arith in
    sym (at.invariant.4 ∙ digits-end at.bytes c.last_digit-2.result at.start at.rest at.invariant.0 h c.last_digit-2.ensures l)

pub invariant_of-result : goal.invariant_of-result
invariant_of-result c =
    let at = c.loop-rest in
    (omega arith, simp length-set at.invariant.2, zeros-turn at.start at.bytes c.last_digit-2.result at.invariant.0 at.invariant.5)
