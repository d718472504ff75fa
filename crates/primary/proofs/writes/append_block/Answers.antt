-- `primary::writes::append_block` meets its contract: there is room for the BLOCK, so it is written. Assumes nothing.
use borrow.Author.Rules.{rules}
use mathlib.Core.Path.{◌≡◌, sym, ◌∙◌}
use mathlib.Core.Bool.{true}
use Prim.Native.Nat.{◌+◌, ◌≤◌}
use native.Mathlib.Omega.{arith}
use lib.ListN.{length}
use borrow.Author.Tests.{lt-ltb}
use Rattle.lists.proofs.TestLaws.{join, cond-false}
use Rattle.records.specs.Write.{unit_fits, block_record}
use Rattle.records.specs.Kind.{BLOCK}
use Rattle.records.proofs.FrameLaws.{length-unit}
use Rattle.records.proofs.WriteLaws.{written-done}
use Rattle.primary.proofs.writes.append_block.Goals as goal
use Rattle.primary.proofs.writes.append_block.Goals.{Else-alone}

-- the BLOCK fits behind what is waiting
room : (c : Else-alone) → let a = c.args in a.waiting + (length a.bytes.now + 10) ≤ length a.stream.now
room c = c.requires.2 c.if-alone.false

pub slice_bounds-write_block-count : goal.slice_bounds-write_block-count
slice_bounds-write_block-count c = let h = room (goal.at.slice_bounds-write_block-count c).Else-alone in omega arith

pub slice_bounds-write_block-start : goal.slice_bounds-write_block-start
slice_bounds-write_block-start c = let h = room (goal.at.slice_bounds-write_block-start c).Else-alone in search rules

pub returns : goal.returns
returns c =
    let a = c.args in
    let h = room (goal.at.returns c).Else-alone in
    let s = a.stream.now in
    let bs = a.bytes.now in
    let fits : unit_fits 2 a.block bs ≡ true = join _ _ (lt-ltb _ _ c.requires.0) (lt-ltb _ _ c.requires.1) in
    (written-done (unit_fits 2 a.block bs) (block_record a.epoch a.block bs) s c.write_block.new.out a.waiting c.write_block.result fits
    (omega (arith, length-unit BLOCK 2 a.epoch a.block bs)) c.write_block.ensures).bytes
    ∙ sym (cond-false _ _ _ c.if-alone.false)
