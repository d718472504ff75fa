-- The standby's tick, activation, and the guest's writes once it is active. Assumes nothing.
use Rattle.rules.specs.declared.Reply.{Reply}
use Rattle.std.specs.Prelude.{ℕ, ◌*◌, Bool, true, cond, ◌&&◌, List, [], ◌∷◌, ltb, eqb, length}
use Rattle.lists.specs.Refusal.{Test, test, refusal, pick}
use Rattle.lists.specs.Part.{put}
use Rattle.lists.specs.Page as lists
use Rattle.records.specs.Write.{activation_record}
use Rattle.records.specs.Area.{area_length}
use Rattle.records.specs.Number.{out_of_range, no_such_unit, bad_size, wrong_mode, blocks_due}
use Rattle.marks.specs.Mark.{cleared}
use Rattle.staging.specs.Slot.{only_due}
use Rattle.detector.specs.Tick.{ticked, expired}
use Rattle.rules.specs.declared.Mode.TheVariants.{TakingOver, Active}
use Rattle.rules.specs.declared.Standby.{Standby}
use Rattle.rules.specs.StandbyState.{standby_ok, is_receiving, is_taking_over, is_active, marks_length, with_slots_blocks, with_no_records, with_detector, with_mode}
use Rattle.pages.specs.Write.{inside_page, written}
use Rattle.rules.specs.Reply.{reply_of}

-- ---- tick: 1
abbrev pub standby_tick_tests : Standby → ℕ → List Test
standby_tick_tests s marks = test out_of_range (standby_ok s && eqb marks (marks_length s)) ∷ []

unfoldable pub standby_tick_refusal : Standby → ℕ → ℕ
standby_tick_refusal s marks = refusal (standby_tick_tests s marks)

-- "staged pages and blocks not yet due are dropped": the state; the marks are cleared beside it
abbrev pub dropped : Standby → Standby
dropped s = with_no_records (with_slots_blocks s (only_due s.slots) 0 0)

-- this tick is the one at which the standby takes over
abbrev pub takes_over : Standby → Bool
takes_over s = is_receiving s.mode && expired (ticked s.detector true)

-- "counts while receiving"; "At T it takes over"
unfoldable pub standby_tick_state : Standby → Standby
standby_tick_state s =
    let s' = with_detector s (ticked s.detector true) in
    cond (is_receiving s.mode) (cond (takes_over s) (with_mode (dropped s') TakingOver) s') s

unfoldable pub standby_tick_reply : Standby → ℕ → Reply Standby
standby_tick_reply s marks = reply_of (standby_tick_refusal s marks) s (standby_tick_state s) 0

unfoldable pub standby_tick_marks : Standby → List ℕ → List ℕ
standby_tick_marks s marks =
    pick (standby_tick_refusal s (length marks)) (cond (takes_over s) (cleared marks s.settings.m) marks) marks

-- ---- activation: 1 13 20
abbrev pub activation_tests : Standby → ℕ → List Test
activation_tests s area =
    test out_of_range (standby_ok s && eqb area area_length)
    ∷ test wrong_mode (is_taking_over s.mode)
    ∷ test blocks_due (eqb s.slots.due 0)
    ∷ []

unfoldable pub activation_refusal : Standby → ℕ → ℕ
activation_refusal s area = refusal (activation_tests s area)

unfoldable pub activation_reply : Standby → ℕ → Reply Standby
activation_reply s area = reply_of (activation_refusal s area) s (with_mode s Active) s.received

-- "activation writes the record with the last received epoch"
unfoldable pub activation_area : Standby → List ℕ → List ℕ
activation_area s area = pick (activation_refusal s (length area)) (put area 0 (activation_record s.received)) area

-- ---- the guest's writes: 1 13 2 3, of a page or block of U bytes: what is lent, how many there are, which one, and
-- whether the bytes have their size
abbrev pub active_write_tests : Standby → ℕ → ℕ → ℕ → Bool → List Test
active_write_tests s lent units unit sized =
    test out_of_range (standby_ok s && eqb lent (units * s.settings.u))
    ∷ test wrong_mode (is_active s.mode)
    ∷ test no_such_unit (ltb unit units)
    ∷ test bad_size sized
    ∷ []

-- ---- memory write
unfoldable pub active_memory_write_refusal : Standby → ℕ → ℕ → ℕ → ℕ → ℕ
active_memory_write_refusal s memory page offset n = refusal (active_write_tests s memory s.settings.m page (inside_page s.settings.u offset n))

unfoldable pub active_memory_write_reply : Standby → ℕ → ℕ → ℕ → ℕ → Reply Standby
active_memory_write_reply s memory page offset n =
    reply_of (active_memory_write_refusal s memory page offset n) s s s.received

unfoldable pub active_memory_write_memory : Standby → List ℕ → ℕ → ℕ → List ℕ → List ℕ
active_memory_write_memory s memory page offset bytes =
    pick (active_memory_write_refusal s (length memory) page offset (length bytes)) (written s.settings.u memory page offset bytes) memory

-- ---- disk write
unfoldable pub active_disk_write_refusal : Standby → ℕ → ℕ → ℕ → ℕ
active_disk_write_refusal s disk block n = refusal (active_write_tests s disk s.settings.d block (eqb n s.settings.u))

unfoldable pub active_disk_write_reply : Standby → ℕ → ℕ → ℕ → Reply Standby
active_disk_write_reply s disk block n = reply_of (active_disk_write_refusal s disk block n) s s s.received

unfoldable pub active_disk_write_disk : Standby → List ℕ → ℕ → List ℕ → List ℕ
active_disk_write_disk s disk block bytes =
    pick (active_disk_write_refusal s (length disk) block (length bytes)) (lists.with_page s.settings.u disk block bytes) disk
