use mathlib.Core.Path.{◌≡◌, ◌∙◌, sym}
use mathlib.Core.List.{[], ◌∷◌, ◌++◌, append_assoc, append-nil}
use Prim.Native.Nat.{◌+◌, ◌*◌, ◌^◌, ◌≤◌, ◌<◌}
use native.Mathlib.Omega.{arith}
use lib.ListN.{length}
use Rattle.lists.proofs.PartLaws.{put-done-none}
use Rattle.lists.proofs.PageLaws.{page-end}
use Rattle.records.specs.Kind.{page_kind, number_width, record_length}
use Rattle.marks.specs.Next.{marked_pages}
use Rattle.marks.proofs.WalkLaws.{PageOf, page-of}
use Rattle.pages.proofs.DirtyLaws.{next-room, next-done, all-done}
use Rattle.pages.proofs.write_dirty.Goals as goal
use Rattle.pages.proofs.write_dirty.Goals.{In-Some}

pub loop-page-init : goal.loop-page-init
loop-page-init c = (sym (c.into_iter-page-iterator.ensures.into_iter_gives ∙ c.marked-page-items.ensures), put-done-none c.args.out.now 0)

-- the page of a turn
this : (c : In-Some) → PageOf c.args.dirty.now c.args.m c.loop-page.yielded c.in-Some.page
this c = page-of c.args.dirty.now c.args.m c.loop-page.yielded c.next.new.self c.in-Some.page (rw c.in-Some.ensures.steps at c.loop-page.invariant.0)

-- its record has room, in the width that is asked for
requires : (c : In-Some) → let a = c.args in let at = c.loop-page in
    (at.at + record_length a.u (page_kind a.wide) ≤ length at.out) × (c.in-Some.page * a.u + a.u ≤ length a.memory.now) × (c.in-Some.page < 256 ^ number_width a.wide) × (a.u + (4 + number_width a.wide) < 2 ^ 16)
requires c =
    let a = c.args in
    let at = c.loop-page in
    let page = this c in
    let room = next-room a.memory.now a.dirty.now a.wide a.u a.epoch a.m a.out.now c.requires.0 c.requires.3 at.yielded at.out at.at c.in-Some.page page at.invariant.1 in
    (omega (arith, room), omega (arith, page-end c.in-Some.page a.m a.u page.within, c.requires.0), omega (arith, page.within, c.requires.1), c.requires.2)

pub write_one-at-requires : goal.write_one-at-requires
write_one-at-requires c = rw c.if-wide.true at (requires (goal.at.write_one-at-requires c).In-Some)

pub write_one-at-requires-else-wide : goal.write_one-at-requires-else-wide
write_one-at-requires-else-wide c = rw c.if-wide.false at (requires (goal.at.write_one-at-requires-else-wide c).In-Some)

-- the pages so far, with this one
more : (c : In-Some) → marked_pages c.args.dirty.now c.args.m ≡ (c.loop-page.yielded ++ c.in-Some.page ∷ []) ++ c.next.new.self
more c = rw append_assoc (rw c.in-Some.ensures.steps at c.loop-page.invariant.0)

pub loop-page-preserved-then-wide : goal.loop-page-preserved-then-wide
loop-page-preserved-then-wide c =
    let a = c.args in
    let at = c.loop-page in
    let turn = (goal.at.loop-page-preserved-then-wide c).In-Some in
    (more turn, next-done a.memory.now a.dirty.now a.wide a.u a.epoch a.m a.out.now c.requires.0 c.requires.3 at.yielded at.out at.at c.in-Some.page (this turn) at.invariant.1 _ _ (rw c.if-wide.true c.write_one-at.ensures))

pub loop-page-preserved : goal.loop-page-preserved
loop-page-preserved c =
    let a = c.args in
    let at = c.loop-page in
    let turn = (goal.at.loop-page-preserved c).In-Some in
    (more turn, next-done a.memory.now a.dirty.now a.wide a.u a.epoch a.m a.out.now c.requires.0 c.requires.3 at.yielded at.out at.at c.in-Some.page (this turn) at.invariant.1 _ _ (rw c.if-wide.false c.write_one-at-else-wide.ensures))

pub returns : goal.returns
returns c =
    let a = c.args in
    let at = c.loop-page in
    let all = rw (c.in-None.ensures.steps.0, append-nil) at at.invariant.0 in
    all-done a.memory.now a.dirty.now a.wide a.u a.epoch a.m a.out.now c.requires.0 c.requires.3 at.yielded at.out at.at (sym all) at.invariant.1
