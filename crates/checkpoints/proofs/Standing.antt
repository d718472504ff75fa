-- What relates a standby that receives a checkpoint to what is known of its records, and to what they do: before any
-- record, and after each. Assumes nothing.
use Prim.Native.Nat.{ℕ, ◌+◌, ◌*◌, ◌≤◌, ◌<◌}
use mathlib.Core.Path.{◌≡◌, refl, sym, ◌∙◌, subst}
use mathlib.Core.Bool.{true, false≢true}
use mathlib.Core.List.{List, []}
use native.Mathlib.Omega.{arith}
use lib.ListN.{length, take, length-take, drop_of_length-le}
use Rattle.lists.specs.Select.{NoRepeats}
use Rattle.records.specs.Message.{Message, page, block, state, commit, ack}
use Rattle.settings.specs.declared.StandbySettings.{StandbySettings}
use Rattle.marks.specs.Mark.{words_for}
use Rattle.pages.specs.Dirty.{installed}
use Rattle.staging.specs.declared.Slots.{Slots}
use Rattle.staging.specs.Slot.{fresh_numbers}
use Rattle.staging.specs.SlotList.{slot_list, store_all}
use Rattle.rules.specs.StandbyState.{is_receiving}
use Rattle.rules.specs.Reached.{StandbyInRange}
use Rattle.rules.specs.World.{StandbyEnd}
use Rattle.runs.specs.Plain.{Checkpoint}
use Rattle.runs.proofs.Effects.{effects, All}
use Rattle.checkpoints.specs.declared.FileSettings.{FileSettings}
use Rattle.checkpoints.specs.Judge.{Known, none_known}
use Rattle.checkpoints.specs.Received.{Awaits, disk_stored}

-- of a standby's settings those of its files
abbrev pub file_settings : StandbySettings → FileSettings
file_settings x = record { u = x.u; m = x.m; d = x.d; b = x.b }

-- a PAGE inside memory, a BLOCK inside the disk
abbrev pub Inside : StandbySettings → Message → Type 0
Inside x (page e p bs) = (p < x.m) × (length bs ≡ x.u)
Inside x (block e n bs) = (n < x.d) × (length bs ≡ x.u)
Inside x (state e bs) = Unit {0}
Inside x (commit e p b) = Unit {0}
Inside x (ack e) = Unit {0}

-- while it receives epoch r + 1: its counts are those known, and what it staged is what the records so far, `ms`, do
-- to `base`
pub record Standing (x : StandbySettings) (base : Checkpoint) (r : ℕ) (k : Known) (ms : List Message) (e : StandbyEnd) : Type 0 where
  pub settings : e.state.settings ≡ x
  pub range : StandbyInRange e.state
  pub receiving : is_receiving e.state.mode ≡ true
  pub received : e.state.received ≡ r
  pub epoch : k.begun ≡ true → k.epoch ≡ r + 1
  pub numbers : fresh_numbers e.state.slots ≡ k.numbers
  pub blocks : e.state.blocks ≡ length k.numbers
  pub records : e.state.records ≡ k.records
  pub pages : e.state.pages ≡ k.pages
  pub next : e.state.next ≡ k.next
  pub seen : e.state.seen ≡ k.seen
  pub pages_low : k.pages ≤ k.next
  pub no_pages : k.pages ≡ 0 → k.next ≡ 0
  pub different : NoRepeats (fresh_numbers e.state.slots)
  pub memory : length e.memory ≡ x.m * x.u
  pub disk : length e.disk ≡ x.d * x.u
  pub staged_pages : length e.staged_pages ≡ x.m * x.u
  pub staged_marks : length e.staged_marks ≡ words_for x.m
  pub staged_blocks : length e.staged_blocks ≡ x.s * x.u
  pub inside : All (Inside x) ms
  pub memory_is : installed e.memory e.staged_pages e.staged_marks x.u x.m ≡ (effects x.u base ms).memory
  pub disk_is : store_all x.u e.disk (slot_list x.u e.state.slots e.staged_blocks) ≡ (effects x.u base ms).disk
  pub processor_is : e.state.seen ≡ true → e.state.pending ≡ (effects x.u base ms).processor

-- once it has accepted the COMMIT of epoch r + 1
pub record Taken (x : StandbySettings) (base : Checkpoint) (r : ℕ) (ms : List Message) (e : StandbyEnd) : Type 0 where
  pub received : e.state.received ≡ r + 1
  pub inside : All (Inside x) ms
  pub memory_is : e.memory ≡ (effects x.u base ms).memory
  pub processor_is : e.state.processor ≡ (effects x.u base ms).processor
  pub disk_is : disk_stored e ≡ (effects x.u base ms).disk

-- the images that it has before the first record, those staged installed and stored
abbrev pub base_of : StandbyEnd → Checkpoint
base_of e =
    let x = e.state.settings in
    record {
      memory = installed e.memory e.staged_pages e.staged_marks x.u x.m;
      disk = store_all x.u e.disk (slot_list x.u e.state.slots e.staged_blocks);
      processor = [];
      packets = [];
    }

-- all due: none is of the epoch
fresh-none : (k : Slots) → k.staged ≡ k.due → fresh_numbers k ≡ []
fresh-none k e = drop_of_length-le (take k.staged k.numbers) {i = k.due} (omega (arith, length-take k.staged k.numbers))

-- the settings of a file are those of the standby that awaits it
pub awaits-settings : (g : FileSettings) (e : StandbyEnd) → Awaits g e → g ≡ file_settings e.state.settings
awaits-settings g e a = rw (a.unit, a.pages_m, a.blocks_d, a.allowance) refl

-- before the first record
pub awaits-standing : (g : FileSettings) (e : StandbyEnd) → Awaits g e → Standing e.state.settings (base_of e) e.state.received none_known [] e
awaits-standing g e a =
    let none = fresh-none e.state.slots a.all_due in
    record {
      settings = refl;
      range = a.range;
      receiving = a.receiving;
      received = refl;
      epoch = λ z. absurd (false≢true z);
      numbers = none;
      blocks = a.no_blocks;
      records = a.no_records;
      pages = a.no_pages;
      next = a.no_next;
      seen = a.not_seen;
      pages_low = omega arith;
      no_pages = λ z. refl;
      different = subst NoRepeats (sym none) tt;
      memory = a.memory;
      disk = a.disk;
      staged_pages = a.staged_pages;
      staged_marks = a.staged_marks;
      staged_blocks = a.staged_blocks;
      inside = tt;
      memory_is = refl;
      disk_is = refl;
      processor_is = λ z. absurd (false≢true (sym a.not_seen ∙ z));
    }
