-- The primary's state: its ranges (number 1) and its parts replaced. Assumes nothing.
use Rattle.std.specs.Prelude.{ℕ, ◌*◌, Bool, ◌&&◌, not, List, leb, ltb, take}
use Rattle.lists.specs.Select.{is_in}
use Rattle.settings.specs.Range.{primary_settings_ok, most_records}
use Rattle.queue.specs.declared.Queue.{Queue}
use Rattle.queue.specs.Held.{queue_ok}
use Rattle.marks.specs.Mark.{words_for}
use Rattle.detector.specs.declared.Detector.{Detector}
use Rattle.rules.specs.declared.Primary.{Primary}
use Rattle.detector.specs.Range.{detector_ok}

-- protection is on: the primary is not alone
abbrev pub protected : Primary → Bool
protected p = not p.alone

-- the numbers of the open epoch's different blocks, in the order first written; alone none is added
abbrev pub written_numbers : Primary → List ℕ
written_numbers p = take p.blocks p.numbers

-- this one is among them
abbrev pub is_written : Primary → ℕ → Bool
is_written p block = is_in block (written_numbers p)

-- number 1 of a state, exactly as document 01 lists it, and document 02 for held ports (Job 6) and BLOCK records (Job
-- 9)
unfoldable pub primary_ok : Primary → Bool
primary_ok p =
    primary_settings_ok p.settings
    && queue_ok p.queue p.epoch p.settings.q
    && ltb p.acknowledged p.epoch
    && leb p.waiting p.settings.l
    && leb p.blocks p.settings.b
    && leb p.records most_records
    && detector_ok p.detector (protected p)

-- "Lent lengths are exact"
abbrev pub memory_length : Primary → ℕ
memory_length p = p.settings.m * p.settings.u

abbrev pub disk_length : Primary → ℕ
disk_length p = p.settings.d * p.settings.u

abbrev pub marks_length : Primary → ℕ
marks_length p = words_for p.settings.m

-- ---- the parts replaced
abbrev pub with_blocks_waiting : Primary → (blocks records : ℕ) → (numbers : List ℕ) → (waiting : ℕ) → Primary
with_blocks_waiting p blocks records numbers waiting =
    record { settings = p.settings; detector = p.detector; epoch = p.epoch; acknowledged = p.acknowledged; alone = p.alone; blocks = blocks; records = records; waiting = waiting; queue = p.queue; numbers = numbers }

abbrev pub with_queue : Primary → Queue → Primary
with_queue p queue =
    record { settings = p.settings; detector = p.detector; epoch = p.epoch; acknowledged = p.acknowledged; alone = p.alone; blocks = p.blocks; records = p.records; waiting = p.waiting; queue = queue; numbers = p.numbers }

-- another open epoch, of which no block is written yet: of the numbers, which stay, none counts
abbrev pub with_epoch_waiting : Primary → (epoch waiting : ℕ) → Primary
with_epoch_waiting p epoch waiting =
    record { settings = p.settings; detector = p.detector; epoch = epoch; acknowledged = p.acknowledged; alone = p.alone; blocks = 0; records = 0; waiting = waiting; queue = p.queue; numbers = p.numbers }

abbrev pub with_waiting : Primary → ℕ → Primary
with_waiting p waiting =
    record { settings = p.settings; detector = p.detector; epoch = p.epoch; acknowledged = p.acknowledged; alone = p.alone; blocks = p.blocks; records = p.records; waiting = waiting; queue = p.queue; numbers = p.numbers }

abbrev pub with_acknowledged_detector : Primary → ℕ → Detector → Primary
with_acknowledged_detector p acknowledged detector =
    record { settings = p.settings; detector = detector; epoch = p.epoch; acknowledged = acknowledged; alone = p.alone; blocks = p.blocks; records = p.records; waiting = p.waiting; queue = p.queue; numbers = p.numbers }

abbrev pub with_detector_alone_waiting : Primary → Detector → Bool → ℕ → Primary
with_detector_alone_waiting p detector alone waiting =
    record { settings = p.settings; detector = detector; epoch = p.epoch; acknowledged = p.acknowledged; alone = alone; blocks = p.blocks; records = p.records; waiting = waiting; queue = p.queue; numbers = p.numbers }
