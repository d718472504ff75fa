-- `checkpoints::scan::keep_block` meets its contract. Assumes nothing.
use mathlib.Core.Path.{◌≡◌, ap, ◌∙◌}
use Prim.Native.Nat.{ℕ, ◌<◌}
use lib.Dec.{ltb}
use lib.ListN.{length, set}
use borrow.Author.Rules.{rules}
use Rattle.std.proofs.lemmas.List.{map-set}
use Rattle.checkpoints.specs.declared.KeptBlock.{KeptBlock}
use Rattle.checkpoints.specs.Scan.{numbers_of, places_of, slot_in}
use Rattle.checkpoints.proofs.PlaceLaws.{slot-searched}
use Rattle.checkpoints.proofs.scan.keep_block.Goals as goal
use Rattle.checkpoints.proofs.scan.keep_block.Goals.{After-place_in-slot}

slot : (c : After-place_in-slot) → c.place_in-slot.result ≡ slot_in c.args.count (numbers_of c.args.blocks.now) c.args.number
slot c = c.place_in-slot.ensures ∙ slot-searched c.args.number c.args.blocks.now c.args.count

inside : (c : After-place_in-slot) → c.place_in-slot.result < length c.args.blocks.now
inside c = rw (slot c) c.requires.1

pub offset_bounds-blocks-slot : goal.offset_bounds-blocks-slot
offset_bounds-blocks-slot c = let h = inside (goal.at.offset_bounds-blocks-slot c).After-place_in-slot in search rules

pub bounds-blocks-slot : goal.bounds-blocks-slot
bounds-blocks-slot c = inside (goal.at.bounds-blocks-slot c).After-place_in-slot

pub returns : goal.returns
returns c =
    let a = c.args in
    let e = slot (goal.at.returns c).After-place_in-slot in (
      ap (λ (i : ℕ). ltb i a.count) e,
      map-set (λ (b : KeptBlock). b.number) a.blocks.now _ _ ∙ ap (λ (i : ℕ). set (numbers_of a.blocks.now) i a.number) e,
      map-set (λ (b : KeptBlock). b.place) a.blocks.now _ _ ∙ ap (λ (i : ℕ). set (places_of a.blocks.now) i a.place) e,
    )
