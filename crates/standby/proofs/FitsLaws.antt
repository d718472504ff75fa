-- What holds of a state in its ranges, as the calls use it, and that what the effects of a judged record require holds
-- of it. Assumes nothing.
use Rattle.std.specs.Prelude.{Result, Ok, Err}
use mathlib.Core.Path.{◌≡◌}
use mathlib.Core.List.{List}
use mathlib.Core.Bool.{true}
use Prim.Native.Nat.{ℕ, ◌*◌, ◌^◌, ◌≤◌, ◌<◌}
use native.Mathlib.Omega.{arith}
use lib.ListN.{length}
use Rattle.lists.proofs.PageLaws.{page-end}
use Rattle.records.specs.declared.Cursor.{Cursor}
use Rattle.records.specs.declared.Record.{Record}
use Rattle.records.specs.declared.Unread.{Unread}
use Rattle.records.specs.declared.Record.TheVariants.{Page, Block, State, Commit, Ack}
use Rattle.records.specs.declared.Reader.{Reader}
use Rattle.records.proofs.ReadLaws.{RecordFacts}
use Rattle.settings.specs.Range.{most_slots}
use Rattle.settings.proofs.RangeLaws.{bytes_le, memory-bytes, disk-bytes, slots-bytes}
use Rattle.staging.specs.Slot.{slot_for}
use Rattle.staging.proofs.BlockLaws.{slot-fits, stage-fits}
use Rattle.rules.specs.declared.Standby.{Standby}
use Rattle.rules.specs.declared.ReadLent.{ReadLent}
use Rattle.rules.specs.StandbyState.{standby_ok}
use Rattle.rules.specs.Judge.{judged}
use Rattle.rules.specs.Read.{bytes_at}
use Rattle.rules.proofs.ReadLaws.{bytes-length}
use Rattle.rules.proofs.StandbyFacts.{StandbyTests, standby-tests, StandbyFacts, standby-facts}
use Rattle.rules.proofs.JudgeLaws.{JudgedFacts, judged-facts}
use Rattle.standby.specs.Fits.{FieldFits, SlotFits, StateFits, BuffersFit}

-- ---- of a state in its ranges: no product wraps, and the counts are few
module _ (s : Standby) (ok : standby_ok s ≡ true) where
  pub pages_few : s.settings.m ≤ 65536
  pages_few = (standby-facts s ok).settings.shared.m-high

  pub memory_fits : s.settings.m * s.settings.u < 2 ^ 64
  memory_fits = omega (arith, memory-bytes (standby-facts s ok).settings.shared)

  pub disk_fits : s.settings.d * s.settings.u < 2 ^ 64
  disk_fits = omega (arith, disk-bytes (standby-facts s ok).settings.shared)

  pub slots_fit : s.settings.s * s.settings.u < 2 ^ 64
  slots_fit = let f = (standby-facts s ok).settings in omega (arith, slots-bytes f.shared f.slots)

  pub blocks_few : s.settings.d ≤ 65536
  blocks_few = omega (arith, (standby-facts s ok).settings.shared.d-high)

  pub slots_within : (s.slots.due ≤ s.slots.staged) × (s.slots.staged ≤ most_slots)
  slots_within = let f = standby-facts s ok in (f.slots.due_high, omega (arith, f.slots.staged-high, f.settings.slots.s-high))

  pub units_fit : (units : ℕ) → units ≤ 65536 → units * s.settings.u < 2 ^ 64
  units_fit units h = omega (arith, bytes_le 65536 _ _ (standby-facts s ok).settings.shared.u-high h)

-- ---- what the effects of a judged record require
-- the field has its size
pub field-length : (bytes : List ℕ) (size : ℕ) (c : Cursor) → FieldFits (length bytes) size c → length (bytes_at c bytes) ≡ size
field-length bytes size c f = bytes-length c bytes size f.span f.inside

field_fits : {for : Reader} {u kind size : ℕ} {bytes : List ℕ} {c : Cursor} → RecordFacts for u bytes kind size c → FieldFits (length bytes) size c
field_fits f = record { span = f.span; inside = f.inside }

module _ (s : Standby) (l : ReadLent) (bytes : List ℕ) (array : length s.slots.numbers ≡ most_slots) where
  -- of a BLOCK
  module _ (e n : ℕ) (c : Cursor) (f : JudgedFacts s l bytes (Ok (Block e n c))) where
    tests : StandbyTests s
    tests = standby-tests s f.ready.ok

    facts : StandbyFacts s
    facts = standby-facts s f.ready.ok

    slot_low : slot_for s.slots n < s.settings.s
    slot_low = slot-fits s.slots n s.settings.s s.settings.d array facts.settings.slots.s-high tests.slots-ok f.tests.slot-free

  slot-of-fits : (r : Result Record Unread) → JudgedFacts s l bytes r → SlotFits s r
  slot-of-fits (Ok (Page w e p c)) f = tt
  slot-of-fits (Ok (Block e n c)) f =
      let t = facts e n c f in
      (t.slots.due_high, omega (arith, t.slots.staged-high, t.settings.slots.s-high))
  slot-of-fits (Ok (State e c)) f = tt
  slot-of-fits (Ok (Commit w e p b c)) f = tt
  slot-of-fits (Ok (Ack e c)) f = tt
  slot-of-fits (Err u) f = tt

  state-fits : (r : Result Record Unread) → JudgedFacts s l bytes r → StateFits s (length bytes) r
  state-fits (Ok (Page w e p c)) f =
      let t = standby-facts s f.ready.ok in
      let g = t.settings.shared in
      let h = f.tests.page-low in
      let k = t.pages-high in
      (omega arith, omega arith)
  state-fits (Ok (Block e n c)) f =
      let t = facts e n c f in (
        stage-fits s.slots n s.settings.s s.settings.d array t.settings.slots.s-high (tests e n c f).slots-ok (slot_low e n c f),
        omega (arith, t.blocks-high, t.settings.shared.b-high),
        omega (arith, t.records-high),
      )
  state-fits (Ok (State e c)) f = field_fits f.field
  state-fits (Ok (Commit w e p b c)) f = tt
  state-fits (Ok (Ack e c)) f = tt
  state-fits (Err u) f = tt

  buffers-fit : (r : Result Record Unread) → JudgedFacts s l bytes r → BuffersFit s l (length bytes) r
  buffers-fit (Ok (Page w e p c)) f =
      let h = page-end p s.settings.m s.settings.u f.tests.page-low in
      let k = f.ready.lent.pages-is in
      (omega arith, field_fits f.field)
  buffers-fit (Ok (Block e n c)) f =
      let h = page-end (slot_for s.slots n) s.settings.s s.settings.u (slot_low e n c f) in
      let k = f.ready.lent.blocks_is in
      (omega arith, field_fits f.field)
  buffers-fit (Ok (State e c)) f = tt
  buffers-fit (Ok (Commit w e p b c)) f = (f.ready.lent.memory-is, f.ready.lent.pages-is, f.tests.room)
  buffers-fit (Ok (Ack e c)) f = tt
  buffers-fit (Err u) f = tt

  -- exactly what the effects require
  pub judged-fits : SlotFits s (judged s l bytes) × StateFits s (length bytes) (judged s l bytes) × BuffersFit s l (length bytes) (judged s l bytes)
  judged-fits =
      let f = judged-facts s l bytes in
      (slot-of-fits (judged s l bytes) f, state-fits (judged s l bytes) f, buffers-fit (judged s l bytes) f)
