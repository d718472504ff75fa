use mathlib.Core.Path.{◌≡◌}
use lib.Dec.{ltb}
use lib.ListN.{length}
use borrow.Author.Rules.{rules}
use Rattle.staging.specs.Slot.{is_staged}
use Rattle.staging.proofs.BlockLaws.{slot-tells}
use Rattle.standby.proofs.effects.with_block.Goals as goal

pub returns : goal.returns
returns c =
    let a = c.args in
    let f = c.requires in
    let array : length a.s.slots.numbers ≡ 64 = search rules in
    let again : ltb a.slot a.s.slots.staged ≡ is_staged a.s.slots a.block = rw f.3 (slot-tells a.s.slots a.block array f.0.due_high f.0.few) in
    rw (c.with_block-slots.ensures, c.blocks_with.ensures, again)
