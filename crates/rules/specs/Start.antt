-- Start: both ends in one call, lent every buffer of both. Assumes nothing.
use Rattle.std.specs.Prelude.{ℕ, ◌*◌, Bool, false, ◌&&◌, List, [], ◌∷◌, eqb, replicate}
use Rattle.lists.specs.Refusal.{Test, test, refusal, pick}
use Rattle.records.specs.Kind.{processor_bytes}
use Rattle.records.specs.Area.{area_length}
use Rattle.settings.specs.declared.Settings.{Settings}
use Rattle.records.specs.Number.{out_of_range}
use Rattle.settings.specs.Range.{settings_ok, of_primary, of_standby, most_allowance}
use Rattle.marks.specs.Mark.{words_for, cleared}
use Rattle.queue.specs.Held.{empty_queue}
use Rattle.staging.specs.Slot.{empty_slots}
use Rattle.rules.specs.declared.Mode.TheVariants.{Receiving}
use Rattle.rules.specs.declared.Primary.{Primary}
use Rattle.rules.specs.declared.Standby.{Standby}
use Rattle.rules.specs.declared.StartLent.{StartLent}
use Rattle.rules.specs.declared.Started.{Started}

-- "Lent lengths are exact"
unfoldable pub start_lent_ok : Settings → StartLent → Bool
start_lent_ok g l =
    let p = l.primary in
    let s = l.standby in
    eqb p.memory (g.m * g.u) && eqb p.disk (g.d * g.u) && eqb p.dirty (words_for g.m)
    && eqb p.held g.q && eqb p.stream g.l
    && eqb s.memory (g.m * g.u) && eqb s.disk (g.d * g.u)
    && eqb s.pages (g.m * g.u) && eqb s.marks (words_for g.m) && eqb s.blocks (g.s * g.u)
    && eqb s.area area_length

-- 1
abbrev pub start_tests : Settings → StartLent → List Test
start_tests g l = test out_of_range (settings_ok g && start_lent_ok g l) ∷ []

unfoldable pub start_refusal : Settings → StartLent → ℕ
start_refusal g l = refusal (start_tests g l)

-- "opens epoch 1; this is checkpoint 0, already received and acknowledged"
abbrev pub opened_primary : Settings → Primary
opened_primary g =
    record { settings = of_primary g; detector = record { patience = g.t; count = 0 }; epoch = 1; acknowledged = 0; alone = false; blocks = 0; records = 0; waiting = 0; queue = empty_queue; numbers = replicate most_allowance 0 }

abbrev pub opened_standby : Settings → List ℕ → Standby
opened_standby g processor =
    record { settings = of_standby g; detector = record { patience = g.t; count = 0 }; mode = Receiving; received = 0; slots = empty_slots; blocks = 0; records = 0; pages = 0; next = 0; seen = false; pending = replicate processor_bytes 0; processor = processor }

-- "A refused start gives the state with every setting 0": wholly zero
abbrev pub no_primary : Primary
no_primary =
    record { settings = record { u = 0; m = 0; d = 0; b = 0; q = 0; l = 0 }; detector = record { patience = 0; count = 0 }; epoch = 0; acknowledged = 0; alone = false; blocks = 0; records = 0; waiting = 0; queue = empty_queue; numbers = replicate most_allowance 0 }

abbrev pub no_standby : Standby
no_standby =
    record { settings = record { u = 0; m = 0; d = 0; b = 0; s = 0 }; detector = record { patience = 0; count = 0 }; mode = Receiving; received = 0; slots = empty_slots; blocks = 0; records = 0; pages = 0; next = 0; seen = false; pending = replicate processor_bytes 0; processor = replicate processor_bytes 0 }

unfoldable pub started : Settings → StartLent → List ℕ → Started
started g l processor =
    let number = start_refusal g l in
    record { primary = pick number (opened_primary g) no_primary; standby = pick number (opened_standby g processor) no_standby; number = number }

-- the buffers: "copies the primary's memory, processor state and disk to the standby, clears both ends' M marks and the
-- record area"; the others stay
unfoldable pub start_copy : Settings → StartLent → List ℕ → List ℕ → List ℕ
start_copy g l image old = pick (start_refusal g l) image old

unfoldable pub start_marks : Settings → StartLent → List ℕ → List ℕ
start_marks g l marks = pick (start_refusal g l) (cleared marks g.m) marks

unfoldable pub start_area : Settings → StartLent → List ℕ → List ℕ
start_area g l area = pick (start_refusal g l) (replicate area_length 0) area
