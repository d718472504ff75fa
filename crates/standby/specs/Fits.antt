-- What the effects of a judged record require: its bytes are there, and the state and the lent buffers have room. Assumes nothing.
use Rattle.std.specs.Prelude.{ℕ, ◌+◌, ◌*◌, ◌^◌, ◌≤◌, ◌<◌, ◌≡◌, Result}
use Rattle.records.specs.declared.Cursor.{Cursor}
use Rattle.records.specs.declared.Record.{Record}
use Rattle.records.specs.declared.Unread.{Unread}
use Rattle.records.specs.Cases.{on_block, by_kind}
use Rattle.records.specs.Kind.{processor_bytes}
use Rattle.settings.specs.Range.{most_slots}
use Rattle.staging.specs.Slot.{slot_for}
use Rattle.staging.specs.Fits.{StageFits}
use Rattle.rules.specs.declared.Standby.{Standby}
use Rattle.rules.specs.declared.ReadLent.{ReadLent}
use Rattle.rules.specs.StandbyState.{memory_length}

-- a field of size bytes inside n
pub record FieldFits (n size : ℕ) (c : Cursor) : Type 0 where
  pub span : c.end ≡ c.start + size
  pub inside : c.end ≤ n

-- the slot of a BLOCK; others need none
abbrev pub slot_of : Standby → Result Record Unread → ℕ
slot_of s r = on_block r (λ e n c. slot_for s.slots n) 0

abbrev pub SlotFits : Standby → Result Record Unread → Type 0
SlotFits s r = on_block r (λ e n c. (s.slots.due ≤ s.slots.staged) × (s.slots.staged ≤ most_slots)) (Unit {0})

-- the counts of the state have room for one more
abbrev pub StateFits : Standby → ℕ → Result Record Unread → Type 0
StateFits s n r =
    by_kind r
    (λ e p c. (s.pages + 1 < 2 ^ 64) × (p + 1 < 2 ^ 64))
    (λ e b c. StageFits s.slots b × (s.blocks + 1 < 2 ^ 64) × (s.records + 1 < 2 ^ 64))
    (λ e c. FieldFits n processor_bytes c)
    (λ e p b c. Unit {0})
    (Unit {0})

-- the lent buffers hold what the record brings
abbrev pub BuffersFit : Standby → ReadLent → ℕ → Result Record Unread → Type 0
BuffersFit s l n r =
    by_kind r
    (λ e p c. (p * s.settings.u + s.settings.u ≤ l.pages) × FieldFits n s.settings.u c)
    (λ e b c. (slot_for s.slots b * s.settings.u + s.settings.u ≤ l.blocks) × FieldFits n s.settings.u c)
    (λ e c. Unit {0})
    (λ e p b c. (l.memory ≡ memory_length s) × (l.pages ≡ memory_length s) × (8 ≤ l.reply))
    (Unit {0})
