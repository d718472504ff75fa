-- What staging a block requires of the slots, and a store and a flush of the lent lengths. Assumes nothing.
use Rattle.std.specs.Prelude.{ℕ, ◌+◌, ◌*◌, ◌≤◌, ◌<◌, List, get_or}
use Rattle.settings.specs.Range.{most_slots}
use Rattle.staging.specs.declared.Slots.{Slots}
use Rattle.staging.specs.Slot.{slot_for}

-- there is a slot for block n, reused or free
pub record StageFits (k : Slots) (n : ℕ) : Type 0 where
  pub due_high : k.due ≤ k.staged
  pub few : k.staged ≤ most_slots
  pub slot_low : slot_for k n < most_slots

-- the bytes of the first count slots stand in the lent slots, and the place of each block in the lent disk
pub record StoreFits (u : ℕ) (numbers : List ℕ) (count slots disk : ℕ) : Type 0 where
  pub few : count ≤ most_slots
  pub in_slots : count * u ≤ slots
  pub in_disk : (i : ℕ) → i < count → get_or numbers i 0 * u + u ≤ disk

-- so do those of all staged blocks, and the places of the due ones: a flush may store each of these, and moves the others
pub record FlushFits (u : ℕ) (k : Slots) (slots disk : ℕ) : Type 0 where
  pub few : k.staged ≤ most_slots
  pub due_high : k.due ≤ k.staged
  pub in_slots : k.staged * u ≤ slots
  pub in_disk : (i : ℕ) → i < k.due → get_or k.numbers i 0 * u + u ≤ disk
