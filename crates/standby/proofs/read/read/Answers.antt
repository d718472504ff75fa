use mathlib.Core.Path.{◌≡◌}
use lib.ListN.{length}
use Rattle.standby.proofs.FitsLaws.{judged-fits}
use borrow.Author.Rules.{rules}
use Rattle.standby.proofs.read.read.Goals as goal
use Rattle.standby.proofs.read.read.Goals.{Start}

-- the array has an entry for each slot
array : (c : Start) → length c.args.s.slots.numbers ≡ 64
array c = search rules

pub slot_of-slot-requires : goal.slot_of-slot-requires
slot_of-slot-requires c = rw c.judged-r.ensures (judged-fits _ _ _ (array (goal.at.slot_of-slot-requires c).Start)).0

pub read_state-state-requires : goal.read_state-state-requires
read_state-state-requires c = (rw c.judged-r.ensures (judged-fits _ _ _ (array (goal.at.read_state-state-requires c).Start)).1, c.slot_of-slot.ensures)

pub apply-requires : goal.apply-requires
apply-requires c = (rw c.judged-r.ensures (judged-fits _ _ _ (array (goal.at.apply-requires c).Start)).2, c.slot_of-slot.ensures)
