use native.Mathlib.Omega.{arith}
use Rattle.sums.proofs.OrderLaws.{names-facts, names-below, below-get_d}
use Rattle.sums.proofs.PageSumLaws.{page-lent, summed-none, summed-more, summed-all}
use Rattle.sums.proofs.order_sum.Goals as goal

pub loop-p-init : goal.loop-p-init
loop-p-init c = summed-none _ _ _

pub page_sum-requires : goal.page_sum-requires
page_sum-requires c =
    let s = c in
    let a = s.args in
    let at = c.loop-p in
    let below = below-get_d a.m a.order.now at.p-index (names-below a.m a.order.now (names-facts a.m a.order.now s.requires.3)) c.loop-p-test.true in
    page-lent a.u a.m _ _ s.requires.0 s.requires.1 s.requires.2 below

pub overflow_add-total : goal.overflow_add-total
overflow_add-total c = record { fits = omega (arith, c.loop-p.invariant.low, c.page_sum.ensures) }

pub loop-p-preserved : goal.loop-p-preserved
loop-p-preserved c =
    let a = c.args in
    let at = c.loop-p in
    rw c.page_sum.ensures (summed-more a.u a.image.now a.order.now at.total at.p-index at.invariant c.loop-p-test.true)

pub returns : goal.returns
returns c =
    let a = c.args in
    let at = c.loop-p in
    summed-all a.u a.image.now a.order.now at.total at.p-index at.invariant c.loop-p-test.false
