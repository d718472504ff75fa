use mathlib.Core.Path.{sym, ◌∙◌}
use mathlib.Core.List.{append_assoc, append-nil}
use native.Mathlib.Omega.{arith}
use Rattle.lists.proofs.PartLaws.{put-done-none}
use Rattle.marks.proofs.WalkLaws.{PageOf, page-of}
use Rattle.checkpoints.specs.Form.{kept_in}
use Rattle.checkpoints.proofs.PlaceLaws.{length-numbers}
use Rattle.checkpoints.proofs.WrittenLaws.{is-kept, next-room, next-done, all-done}
use Rattle.checkpoints.proofs.normal.write_blocks.Goals as goal
use Rattle.checkpoints.proofs.normal.write_blocks.Goals.{In-Some}

pub loop-block-init : goal.loop-block-init
loop-block-init c = (sym (c.into_iter-block-iterator.ensures.into_iter_gives ∙ c.marked-block-items.ensures), put-done-none c.args.out.now 0)

-- the block of a turn
this : (c : In-Some) → PageOf c.args.ws.now c.args.d c.loop-block.yielded c.in-Some.block
this c = page-of c.args.ws.now c.args.d c.loop-block.yielded c.next.new.self c.in-Some.block (rw c.in-Some.ensures.steps at c.loop-block.invariant.0)

pub write_one-at-requires : goal.write_one-at-requires
write_one-at-requires c =
    let a = c.args in
    let t = kept_in a.kept in
    let at = c.loop-block in
    let block = this (goal.at.write_one-at-requires c).In-Some in
    let f = c.requires.0 in
    let kept = is-kept a.u a.d t a.ws.now a.out.now f c.requires.1 c.requires.2 at.yielded at.out at.at c.in-Some.block block at.invariant.1 in
    let room = next-room a.u a.d t a.ws.now a.out.now f c.requires.1 c.requires.2 at.yielded at.out at.at c.in-Some.block block at.invariant.1 in
    (room, f.unit, omega (arith, block.within, f.disk), omega (arith, f.slots, f.numbers, length-numbers a.kept.blocks.now), kept, f.inside c.in-Some.block block.within kept)

pub loop-block-preserved : goal.loop-block-preserved
loop-block-preserved c =
    let a = c.args in
    let t = kept_in a.kept in
    let at = c.loop-block in
    let block = this (goal.at.loop-block-preserved c).In-Some in (
      rw append_assoc (rw c.in-Some.ensures.steps at at.invariant.0),
      next-done a.u a.d t a.ws.now a.out.now c.requires.0 c.requires.1 c.requires.2 at.yielded at.out at.at c.in-Some.block block at.invariant.1 _ _ c.write_one-at.ensures,
    )

pub returns : goal.returns
returns c =
    let a = c.args in
    let t = kept_in a.kept in
    let at = c.loop-block in
    let all = rw (c.in-None.ensures.steps.0, append-nil) at at.invariant.0 in
    all-done a.u a.d t a.ws.now a.out.now c.requires.0 c.requires.1 c.requires.2 at.yielded at.out at.at (sym all) at.invariant.1
