use mathlib.Core.Path.{◌≡◌, refl, sym, ◌∙◌}
use native.Mathlib.Omega.{arith}
use borrow.Author.Rules.{rules}
use Rattle.lists.proofs.PageLaws.{page-end}
use Rattle.staging.proofs.StoreLaws.{stored-none, stored_more}
use Rattle.staging.proofs.store.Goals as goal

pub loop-i-init : goal.loop-i-init
loop-i-init c = (refl, sym (stored-none _ _ _ _))

pub store_block-requires : goal.store_block-requires
store_block-requires c =
    let w = c.loop-i in
    let f = c.requires in
    let a = c.args in
    (omega (arith, f.in_disk w.i (omega arith), w.invariant.0), omega (arith, page-end w.i a.count a.u (omega arith), f.in_slots))

pub loop-i-preserved : goal.loop-i-preserved
loop-i-preserved c =
    let w = c.loop-i in
    let a = c.args in
    let e = rw w.invariant.1 at c.store_block.ensures in
    (search rules, e ∙ sym (stored_more a.u a.k.numbers a.slots.now a.disk.now w.i))

pub shape_of-disk : goal.shape_of-disk
shape_of-disk c = c.loop-i.invariant.0

pub returns : goal.returns
returns c =
    let w = c.loop-i in
    let e : w.i ≡ c.args.count = omega arith in
    rw e at w.invariant.1
