-- `checkpoints::normal::write_one` meets its contract. Assumes nothing.
use mathlib.Core.Path.{◌≡◌, sym, ap, ◌∙◌}
use Prim.Native.Nat.{ℕ, ◌+◌, ◌-◌, ◌≤◌, ◌<◌}
use native.Mathlib.Omega.{arith}
use lib.ListN.{length, get_or, get_or-map}
use borrow.Author.Rules.{rules}
use borrow.Rule.Slice.PartMut.{put_mid}
use Rattle.lists.specs.Part.{part, PutDone}
use Rattle.lists.proofs.PartLaws.{length_part}
use Rattle.checkpoints.specs.declared.KeptBlock.{KeptBlock}
use Rattle.checkpoints.specs.Scan.{first_of, numbers_of, places_of, slot_in}
use Rattle.checkpoints.specs.Form.{kept_in, kept_block, place_of_block}
use Rattle.checkpoints.proofs.PlaceLaws.{length-numbers, slot-again, slot-searched}
use Rattle.checkpoints.proofs.WrittenLaws.{block_written, length-block}
use Rattle.checkpoints.proofs.normal.write_one.Goals as goal
use Rattle.checkpoints.proofs.normal.write_one.Goals.{After-place_in-slot, After-write_block}

-- where its last bytes begin: it came, so its slot is one of those counted
slot : (c : After-place_in-slot) → c.place_in-slot.result ≡ slot_in c.args.kept.counts.blocks (numbers_of c.args.kept.blocks.now) c.args.n
slot c = c.place_in-slot.ensures ∙ slot-searched c.args.n c.args.kept.blocks.now c.args.kept.counts.blocks

counted : (c : After-place_in-slot) → c.place_in-slot.result < length c.args.kept.blocks.now
counted c =
    let k = c.args.kept in
    let many = length-numbers k.blocks.now in
    omega (arith, slot c, slot-again k.counts.blocks (numbers_of k.blocks.now) c.args.n (omega (arith, many, c.requires.3)) c.requires.4, c.requires.3)

place : (c : After-place_in-slot) → (get_or c.args.kept.blocks.now c.place_in-slot.result (record { number = 0; place = 0 })).place ≡ place_of_block (kept_in c.args.kept) c.args.n
place c = sym (get_or-map (λ (b : KeptBlock). b.place) c.args.kept.blocks.now _ (record { number = 0; place = 0 })) ∙ ap (λ i. get_or (places_of c.args.kept.blocks.now) i 0) (slot c)

-- and stand in the file
inside : (c : After-place_in-slot) → (get_or c.args.kept.blocks.now c.place_in-slot.result (record { number = 0; place = 0 })).place + c.args.u ≤ length c.args.kept.file.now
inside c = rw (place c) c.requires.5

pub offset_bounds-kept-slot : goal.offset_bounds-kept-slot
offset_bounds-kept-slot c = let h = counted (goal.at.offset_bounds-kept-slot c).After-place_in-slot in search rules

pub bounds-kept-slot : goal.bounds-kept-slot
bounds-kept-slot c = counted (goal.at.bounds-kept-slot c).After-place_in-slot

pub part_of-body-requires : goal.part_of-body-requires
part_of-body-requires c = inside (goal.at.part_of-body-requires c).After-place_in-slot

-- its BLOCK is written
abbrev from : After-write_block → ℕ
from c = (get_or c.args.kept.blocks.now c.place_in-slot.result (record { number = 0; place = 0 })).place

written : (c : After-write_block) → from c ≡ place_of_block (kept_in c.args.kept) c.args.n → from c + c.args.u ≤ length c.args.kept.file.now → let a = c.args in
    PutDone (kept_block a.u (kept_in a.kept) a.n) a.out.now a.at (put_mid a.at (length a.out.now - a.at) a.out.now c.write_block.new.out) (a.at + c.write_block.result)
written c e h =
    let a = c.args in
    rw (← e)
    (block_written a.kept.file.now a.out.now c.part_of-body.result.now c.write_block.new.out a.at c.write_block.result (from c) a.u (first_of a.kept.counts) a.n
    c.requires.0 c.requires.1 c.requires.2 h c.part_of-body.ensures (rw c.epoch.ensures at c.write_block.ensures))

pub returns : goal.returns
returns c = let w = (goal.at.returns c).After-place_in-slot in written (goal.at.returns c).After-write_block (place w) (inside w)

pub overflow_add-result : goal.overflow_add-result
overflow_add-result c =
    let a = c.args in
    let t = kept_in a.kept in
    let w = (goal.at.overflow_add-result c).After-place_in-slot in
    let d = written (goal.at.overflow_add-result c).After-write_block (place w) (inside w) in
    record { fits = omega (arith, d.position, length-block a.u (first_of a.kept.counts) a.n (part (place_of_block t a.n) a.u a.kept.file.now) (length_part (place_of_block t a.n) a.u a.kept.file.now c.requires.5), c.requires.0) }
