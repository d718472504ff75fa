-- The standby's state: its ranges (number 1) and its parts replaced. Assumes nothing.
use Rattle.std.specs.Prelude.{ℕ, ◌*◌, Bool, true, false, ◌&&◌, List, leb}
use Rattle.settings.specs.Range.{standby_settings_ok, most_records}
use Rattle.marks.specs.Mark.{words_for}
use Rattle.staging.specs.declared.Slots.{Slots}
use Rattle.staging.specs.Slot.{slots_ok}
use Rattle.detector.specs.declared.Detector.{Detector}
use Rattle.detector.specs.Tick.{reset}
use Rattle.rules.specs.declared.Mode.{Mode}
use Rattle.rules.specs.declared.Mode.TheVariants.{Receiving, TakingOver, Active}
use Rattle.rules.specs.declared.Standby.{Standby}
use Rattle.detector.specs.Range.{detector_ok}

abbrev pub is_receiving : Mode → Bool
is_receiving Receiving = true
is_receiving TakingOver = false
is_receiving Active = false

abbrev pub is_taking_over : Mode → Bool
is_taking_over Receiving = false
is_taking_over TakingOver = true
is_taking_over Active = false

abbrev pub is_active : Mode → Bool
is_active Receiving = false
is_active TakingOver = false
is_active Active = true

-- number 1 of a state, exactly as document 01 lists it, and document 02 for BLOCK records (Job 9)
unfoldable pub standby_ok : Standby → Bool
standby_ok s =
    standby_settings_ok s.settings
    && slots_ok s.slots s.settings.s s.settings.d
    && leb s.blocks s.settings.b
    && leb s.records most_records
    && leb s.pages s.settings.m
    && detector_ok s.detector (is_receiving s.mode)

-- "Lent lengths are exact"
abbrev pub memory_length : Standby → ℕ
memory_length s = s.settings.m * s.settings.u

abbrev pub disk_length : Standby → ℕ
disk_length s = s.settings.d * s.settings.u

abbrev pub slots_length : Standby → ℕ
slots_length s = s.settings.s * s.settings.u

abbrev pub marks_length : Standby → ℕ
marks_length s = words_for s.settings.m

-- ---- the parts replaced
abbrev pub with_pages_next : Standby → ℕ → ℕ → Standby
with_pages_next s pages next =
    record { settings = s.settings; detector = s.detector; mode = s.mode; received = s.received; slots = s.slots; blocks = s.blocks; records = s.records; pages = pages; next = next; seen = s.seen; pending = s.pending; processor = s.processor }

abbrev pub with_slots_blocks : Standby → Slots → (blocks records : ℕ) → Standby
with_slots_blocks s slots blocks records =
    record { settings = s.settings; detector = s.detector; mode = s.mode; received = s.received; slots = slots; blocks = blocks; records = records; pages = s.pages; next = s.next; seen = s.seen; pending = s.pending; processor = s.processor }

abbrev pub with_pending_seen : Standby → List ℕ → Standby
with_pending_seen s processor =
    record { settings = s.settings; detector = s.detector; mode = s.mode; received = s.received; slots = s.slots; blocks = s.blocks; records = s.records; pages = s.pages; next = s.next; seen = true; pending = processor; processor = s.processor }

-- the epoch's counts, next page and STATE seen, as they are before its first record
abbrev pub with_no_records : Standby → Standby
with_no_records s =
    record { settings = s.settings; detector = s.detector; mode = s.mode; received = s.received; slots = s.slots; blocks = 0; records = 0; pages = 0; next = 0; seen = false; pending = s.pending; processor = s.processor }

abbrev pub with_received_slots_processor : Standby → ℕ → Slots → List ℕ → Standby
with_received_slots_processor s received slots processor =
    record { settings = s.settings; detector = s.detector; mode = s.mode; received = received; slots = slots; blocks = s.blocks; records = s.records; pages = s.pages; next = s.next; seen = s.seen; pending = s.pending; processor = processor }

abbrev pub with_detector : Standby → Detector → Standby
with_detector s detector =
    record { settings = s.settings; detector = detector; mode = s.mode; received = s.received; slots = s.slots; blocks = s.blocks; records = s.records; pages = s.pages; next = s.next; seen = s.seen; pending = s.pending; processor = s.processor }

-- no tick counted
abbrev pub with_no_ticks : Standby → Standby
with_no_ticks s = with_detector s (reset s.detector)

abbrev pub with_mode : Standby → Mode → Standby
with_mode s mode =
    record { settings = s.settings; detector = s.detector; mode = mode; received = s.received; slots = s.slots; blocks = s.blocks; records = s.records; pages = s.pages; next = s.next; seen = s.seen; pending = s.pending; processor = s.processor }
