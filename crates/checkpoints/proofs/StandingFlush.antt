-- A flush at a standby that receives a checkpoint is accepted, and keeps it in line with what is known. Assumes
-- nothing.
use Prim.Native.Nat.{ℕ}
use mathlib.Core.Path.{◌≡◌, refl, sym, ap, ap₂, ◌∙◌, subst}
use mathlib.Core.List.{List}
use native.Mathlib.Omega.{arith}
use lib.ListN.{length, take, drop, take-append-drop}
use borrow.Author.Tests.{eq-eqb}
use Rattle.lists.specs.Select.{NoRepeats}
use Rattle.records.specs.Message.{Message}
use Rattle.settings.specs.declared.StandbySettings.{StandbySettings}
use Rattle.staging.specs.declared.Slots.{Slots}
use Rattle.staging.specs.Slot.{flush_count, flushed, flushed_bytes, stored}
use Rattle.staging.specs.SlotList.{Staged, slot_list, store_all}
use Rattle.staging.specs.Fits.{FlushFits}
use Rattle.staging.proofs.BlockLaws.{fresh-flushed}
use Rattle.staging.proofs.StoreLaws.{length-stored, store-of-flush}
use Rattle.staging.proofs.ListLaws.{length-bytes, list-flushed}
use Rattle.staging.proofs.FlushLaws.{store-all-append, stored-slots}
use Rattle.rules.specs.StandbyState.{with_slots_blocks}
use Rattle.rules.specs.Flush.{flush_refusal, flush_reply, flush_staged_blocks, flush_disk}
use Rattle.rules.specs.World.{StandbyEnd, World}
use Rattle.rules.specs.World as call
use Rattle.rules.specs.Step.{at_standby, step}
use Rattle.rules.proofs.FlushLaws.{FlushAccepted, flush-accepts, flush-room, flushed-in-range}
use Rattle.runs.specs.Plain.{Checkpoint}
use Rattle.checkpoints.specs.Judge.{Known}
use Rattle.checkpoints.proofs.Standing.{Standing}

-- the standby after a flush of n
abbrev pub flush_end : StandbyEnd → ℕ → StandbyEnd
flush_end e n =
    let s = e.state in
    let count = flush_count s.slots n in
    record {
      state = with_slots_blocks s (flushed s.slots count) s.blocks s.records;
      memory = e.memory;
      disk = stored s.settings.u s.slots.numbers e.staged_blocks e.disk count;
      staged_pages = e.staged_pages;
      staged_marks = e.staged_marks;
      staged_blocks = flushed_bytes s.settings.u s.slots count e.staged_blocks;
      area = e.area;
    }

-- some stored, and the rest stored after them
stored-rest : (u : ℕ) (disk : List ℕ) (l : List Staged) (n : ℕ) → store_all u (store_all u disk (take n l)) (drop n l) ≡ store_all u disk l
stored-rest u disk l n = sym (store-all-append u disk (take n l) (drop n l)) ∙ ap (store_all u disk) (take-append-drop n l)

module _ (base : Checkpoint) (r : ℕ) (k : Known) (ms : List Message) (e : StandbyEnd) (h : Standing e.state.settings base r k ms e) (n : ℕ) where
  abbrev x : StandbySettings
  x = e.state.settings

  abbrev slots : Slots
  slots = e.state.slots

  -- its tests hold
  lent : FlushAccepted e.state (length e.staged_blocks) (length e.disk)
  lent = record { in_range = h.range.in_range; slots_lent = h.staged_blocks; disk_lent = h.disk }

  -- it is accepted
  pub flush-none-refused : flush_refusal e.state (length e.staged_blocks) (length e.disk) ≡ 0
  flush-none-refused = flush-accepts e.state (length e.staged_blocks) (length e.disk) lent

  -- the staged blocks stand in their buffer, and those due on the disk
  fits : FlushFits x.u slots (length e.staged_blocks) (length e.disk)
  fits = flush-room e.state (length e.staged_blocks) (length e.disk) h.range.numbers lent

  -- the disk with all staged blocks is as before
  staged-disk : store_all x.u (flush_end e n).disk (slot_list x.u (flush_end e n).state.slots (flush_end e n).staged_blocks)
      ≡ store_all x.u e.disk (slot_list x.u slots e.staged_blocks)
  staged-disk =
      let c = flush_count slots n in
      ap₂ (λ (d : List ℕ) (l : List Staged). store_all x.u d l)
      (stored-slots x.u slots e.staged_blocks e.disk h.range.numbers fits.few c (omega (arith, fits.due_high)))
      (list-flushed x.u slots e.staged_blocks h.range.numbers c (omega (arith, fits.due_high)) fits.few fits.in_slots)
      ∙ stored-rest x.u e.disk (slot_list x.u slots e.staged_blocks) c

  -- all stays in line
  pub flush-standing : Standing e.state.settings base r k ms (flush_end e n)
  flush-standing =
      let c = flush_count slots n in
      let fresh = fresh-flushed slots c h.range.numbers fits.due_high fits.few (omega arith) in
      record {
        settings = refl;
        range = flushed-in-range e.state c (omega arith) h.range;
        receiving = h.receiving;
        received = h.received;
        epoch = h.epoch;
        numbers = fresh ∙ h.numbers;
        blocks = h.blocks;
        records = h.records;
        pages = h.pages;
        next = h.next;
        seen = h.seen;
        pages_low = h.pages_low;
        no_pages = h.no_pages;
        different = subst NoRepeats (sym fresh) h.different;
        memory = h.memory;
        disk = length-stored x.u slots.numbers e.staged_blocks e.disk c (store-of-flush x.u slots n (length e.staged_blocks) (length e.disk) fits) ∙ h.disk;
        staged_pages = h.staged_pages;
        staged_marks = h.staged_marks;
        staged_blocks = length-bytes x.u slots e.staged_blocks h.range.numbers c (omega (arith, fits.due_high)) fits.few fits.in_slots ∙ h.staged_blocks;
        inside = h.inside;
        memory_is = h.memory_is;
        disk_is = staged-disk ∙ h.disk_is;
        processor_is = h.processor_is;
      }

-- the world after it
pub flush-step : (w : World) (n : ℕ) → flush_refusal w.standby.state (length w.standby.staged_blocks) (length w.standby.disk) ≡ 0
    → (step w (call.flush n)).next ≡ at_standby w (flush_end w.standby n)
unfolding step flush_reply flush_staged_blocks flush_disk
flush-step w n z = rw (eq-eqb _ _ z)
