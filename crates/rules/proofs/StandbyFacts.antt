-- What the range of the standby's state says, by name, and back; its staged blocks, or its detector and mode, replaced.
-- Assumes nothing.
use mathlib.Core.Path.{◌≡◌}
use mathlib.Core.Bool.{true}
use Prim.Native.Nat.{ℕ, ◌-◌, ◌≤◌}
use lib.Dec.{leb}
use lib.ListN.{length}
use borrow.Author.Tests.{leb-true, le-leb}
use Rattle.lists.specs.Select.{NoRepeats}
use Rattle.lists.proofs.TestLaws.{both, join}
use Rattle.settings.specs.Range.{standby_settings_ok, most_records, most_slots}
use Rattle.settings.proofs.RangeLaws.{StandbySettingsFacts, standby-settings-facts}
use Rattle.staging.specs.declared.Slots.{Slots}
use Rattle.staging.specs.Slot.{slots_ok, fresh_numbers}
use Rattle.staging.proofs.SlotLaws.{SlotsTests, slots-tests}
use Rattle.rules.specs.declared.Standby.{Standby}
use Rattle.detector.specs.declared.Detector.{Detector}
use Rattle.detector.specs.Range.{detector_ok}
use Rattle.detector.specs.Tick.{reset}
use Rattle.rules.specs.declared.Mode.{Mode}
use Rattle.rules.specs.StandbyState.{is_receiving, standby_ok, with_slots_blocks, with_detector, with_no_ticks, with_mode}
use Rattle.rules.specs.Reached.{StandbyInRange, StandbyReached}
use Rattle.rules.proofs.DetectorFacts.{DetectorFacts, detector-facts, detector-of, reset-facts}

-- ---- test by test
pub record StandbyTests (s : Standby) : Type 0 where
  pub settings-ok : standby_settings_ok s.settings ≡ true
  pub slots-ok : slots_ok s.slots s.settings.s s.settings.d ≡ true
  pub blocks-high : s.blocks ≤ s.settings.b
  pub records-high : s.records ≤ most_records
  pub pages-high : s.pages ≤ s.settings.m
  pub detector-ok : detector_ok s.detector (is_receiving s.mode) ≡ true

-- ---- as facts; the number of each staged block is in staging's `slots-facts`, which wants the array's length
pub record StandbyFacts (s : Standby) : Type 0 where
  pub settings : StandbySettingsFacts s.settings
  pub slots : SlotsTests s.slots s.settings.s s.settings.d
  pub blocks-high : s.blocks ≤ s.settings.b
  pub records-high : s.records ≤ most_records
  pub pages-high : s.pages ≤ s.settings.m
  pub detector : DetectorFacts s.detector (is_receiving s.mode)

module _ (s : Standby) where
  pub standby-tests : standby_ok s ≡ true → StandbyTests s
  unfolding standby_ok
  standby-tests e =
      let d = both _ (detector_ok s.detector (is_receiving s.mode)) e in
      let p = both _ (leb s.pages s.settings.m) d.0 in
      let r = both _ (leb s.records most_records) p.0 in
      let b = both _ (leb s.blocks s.settings.b) r.0 in
      let k = both _ (slots_ok s.slots s.settings.s s.settings.d) b.0 in
      record {
        settings-ok = k.0;
        slots-ok = k.1;
        blocks-high = leb-true s.blocks s.settings.b b.1;
        records-high = leb-true s.records most_records r.1;
        pages-high = leb-true s.pages s.settings.m p.1;
        detector-ok = d.1;
      }

  pub standby-tested : StandbyTests s → standby_ok s ≡ true
  unfolding standby_ok
  standby-tested f =
      join _ _
      (join _ _
      (join _ _
      (join _ _ (join _ _ f.settings-ok f.slots-ok) (le-leb s.blocks s.settings.b f.blocks-high))
      (le-leb s.records most_records f.records-high))
      (le-leb s.pages s.settings.m f.pages-high))
      f.detector-ok

  pub standby-facts : standby_ok s ≡ true → StandbyFacts s
  standby-facts e =
      let t = standby-tests e in
      record {
        settings = standby-settings-facts s.settings t.settings-ok;
        slots = slots-tests s.slots s.settings.s s.settings.d t.slots-ok;
        blocks-high = t.blocks-high;
        records-high = t.records-high;
        pages-high = t.pages-high;
        detector = detector-facts s.detector (is_receiving s.mode) t.detector-ok;
      }

-- ---- the staged blocks and the epoch's counts of them replaced: the state stays in range, and reached
module _ (s : Standby) (slots : Slots) (blocks records : ℕ) where
  pub in-range-slots : StandbyInRange s → slots_ok slots s.settings.s s.settings.d ≡ true → length slots.numbers ≡ most_slots
      → blocks ≤ s.settings.b → records ≤ most_records → StandbyInRange (with_slots_blocks s slots blocks records)
  in-range-slots r ok array high few =
      let f = standby-tests s r.in_range in
      record {
        in_range = standby-tested (with_slots_blocks s slots blocks records)
            (record { settings-ok = f.settings-ok; slots-ok = ok; blocks-high = high; records-high = few; pages-high = f.pages-high; detector-ok = f.detector-ok });
        numbers = array;
      }

  pub reached-slots : StandbyReached s → StandbyInRange (with_slots_blocks s slots blocks records) → blocks ≡ slots.staged - slots.due → NoRepeats (fresh_numbers slots) → blocks ≤ records
      → StandbyReached (with_slots_blocks s slots blocks records)
  reached-slots r range e different high =
      record {
        range = range;
        staged_processor = r.staged_processor;
        processor = r.processor;
        pages_below = r.pages_below;
        next_below = r.next_below;
        not_due = e;
        different = different;
        records_high = high;
      }

-- ---- the detector and the mode replaced
module _ (s : Standby) (d : Detector) (mode : Mode) (ok : detector_ok d (is_receiving mode) ≡ true) where
  pub watched-in-range : StandbyInRange s → StandbyInRange (with_mode (with_detector s d) mode)
  watched-in-range r =
      let t = standby-tests s r.in_range in
      record {
        in_range = standby-tested (with_mode (with_detector s d) mode)
            (record { settings-ok = t.settings-ok; slots-ok = t.slots-ok; blocks-high = t.blocks-high; records-high = t.records-high; pages-high = t.pages-high; detector-ok = ok });
        numbers = r.numbers;
      }

  pub watched-reached : StandbyReached s → StandbyReached (with_mode (with_detector s d) mode)
  watched-reached r =
      record {
        range = watched-in-range r.range;
        staged_processor = r.staged_processor;
        processor = r.processor;
        pages_below = r.pages_below;
        next_below = r.next_below;
        not_due = r.not_due;
        different = r.different;
        records_high = r.records_high;
      }

-- no tick counted
module _ (s : Standby) where
  reset-ok : StandbyInRange s → detector_ok (reset s.detector) (is_receiving s.mode) ≡ true
  reset-ok r = detector-of _ _ (reset-facts s.detector (is_receiving s.mode) (standby-facts s r.in_range).detector)

  pub reset-in-range : StandbyInRange s → StandbyInRange (with_no_ticks s)
  reset-in-range r = watched-in-range s (reset s.detector) s.mode (reset-ok r) r

  pub reset-reached : StandbyReached s → StandbyReached (with_no_ticks s)
  reset-reached r = watched-reached s (reset s.detector) s.mode (reset-ok r.range) r
