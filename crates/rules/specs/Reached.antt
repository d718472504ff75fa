-- What holds of a state after an accepted start and after every call: number 1's ranges, and what they do not list; and
-- that no call leaves the ranges. Assumes nothing.
use Rattle.std.specs.Prelude.{◌-◌, ◌≤◌, ◌≡◌, true, length}
use Rattle.lists.specs.Select.{NoRepeats}
use Rattle.records.specs.Kind.{processor_bytes}
use Rattle.settings.specs.Range.{most_packets, most_allowance, most_slots}
use Rattle.staging.specs.Slot.{fresh_numbers}
use Rattle.rules.specs.declared.Primary.{Primary}
use Rattle.rules.specs.declared.Standby.{Standby}
use Rattle.rules.specs.PrimaryState.{primary_ok, written_numbers}
use Rattle.rules.specs.StandbyState.{standby_ok}
use Rattle.rules.specs.World.{World, Call}
use Rattle.rules.specs.Step.{step}

-- of a primary its ranges, and that its arrays have 64 entries: their types say so, a list's does not
pub record PrimaryInRange (p : Primary) : Type 0 where
  pub in_range : primary_ok p ≡ true
  pub packets : length p.queue.packets ≡ most_packets
  pub numbers : length p.numbers ≡ most_allowance

pub record PrimaryReached (p : Primary) : Type 0 where
  pub range : PrimaryInRange p
  -- the blocks of the open epoch are different ones, and it has at least as many BLOCKs
  pub different : NoRepeats (written_numbers p)
  pub records_high : p.blocks ≤ p.records

-- of a standby its ranges, and the length of its array
pub record StandbyInRange (s : Standby) : Type 0 where
  pub in_range : standby_ok s ≡ true
  pub numbers : length s.slots.numbers ≡ most_slots

pub record StandbyReached (s : Standby) : Type 0 where
  pub range : StandbyInRange s
  pub staged_processor : length s.pending ≡ processor_bytes
  pub processor : length s.processor ≡ processor_bytes
  -- pages came in rising order, below M
  pub pages_below : s.pages ≤ s.next
  pub next_below : s.next ≤ s.settings.m
  -- the blocks of the epoch are the staged ones that are not due, different ones, and it has at least as many BLOCKs
  pub not_due : s.blocks ≡ s.slots.staged - s.slots.due
  pub different : NoRepeats (fresh_numbers s.slots)
  pub records_high : s.blocks ≤ s.records

-- number 1's ranges hold after a call, accepted or refused, if they held before it: of any states, also those that no
-- run reaches, and so after every list of calls. Beside the ranges only the lengths of the arrays are asked and kept,
-- which their types give
pub record StaysInRange (w : World) (c : Call) : Type 0 where
  pub primary : PrimaryInRange w.primary.state → PrimaryInRange (step w c).next.primary.state
  pub standby : StandbyInRange w.standby.state → StandbyInRange (step w c).next.standby.state
