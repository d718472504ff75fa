use mathlib.Core.Path.{◌≡◌, sym}
use native.Mathlib.Omega.{arith}
use Rattle.sums.specs.Sum.{rising}
use Rattle.sums.proofs.SumLaws.{sum_low, rising_none, rising-more}
use Rattle.sums.proofs.PageSumLaws.{page-lent}
use Rattle.sums.proofs.rising_sum.Goals as goal

pub loop-p-init : goal.loop-p-init
loop-p-init c = sym (rising_none _ _)

pub page_sum-requires : goal.page_sum-requires
page_sum-requires c =
    let s = c in
    page-lent s.args.u s.args.m c.loop-p.p _ s.requires.0 s.requires.1 s.requires.2 c.loop-p-test.true

pub overflow_add-total : goal.overflow_add-total
overflow_add-total c =
    let a = c.args in
    let at = c.loop-p in
    record { fits = omega (arith, at.invariant, sum_low a.u a.image.now (rising at.p), c.page_sum.ensures) }

pub loop-p-preserved : goal.loop-p-preserved
loop-p-preserved c =
    let a = c.args in
    let at = c.loop-p in
    rw (at.invariant, c.page_sum.ensures) (sym (rising-more a.u a.image.now at.p))

pub returns : goal.returns
returns c =
    let e : c.loop-p.p ≡ c.args.m = omega arith in
    rw e at c.loop-p.invariant
