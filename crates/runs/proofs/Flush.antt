-- An accepted flush keeps the invariant. Assumes nothing.
use Prim.Native.Nat.{ℕ}
use mathlib.Core.Path.{◌≡◌, sym, ap, ap₂, ◌∙◌, subst}
use mathlib.Core.List.{List}
use native.Mathlib.Omega.{arith}
use lib.ListN.{length, take, drop, take-append-drop}
use borrow.Author.Tests.{eq-eqb}
use Rattle.settings.specs.declared.Settings.{Settings}
use Rattle.staging.specs.declared.Slots.{Slots}
use Rattle.staging.specs.Slot.{flush_count, flushed, flushed_bytes, stored}
use Rattle.staging.specs.SlotList.{Staged, slot_list, due_list, store_all}
use Rattle.staging.specs.Fits.{FlushFits}
use Rattle.staging.proofs.StoreLaws.{stored-none, length-stored, store-of-flush}
use Rattle.staging.proofs.ListLaws.{take-due-list, length-bytes, list-flushed, due-flushed}
use Rattle.staging.proofs.FlushLaws.{store-all-append, stored-slots}
use Rattle.rules.specs.StandbyState.{with_slots_blocks}
use Rattle.rules.specs.Flush.{flush_reply, flush_staged_blocks, flush_disk}
use Rattle.rules.specs.World as call
use Rattle.rules.specs.Step.{at_standby, step}
use Rattle.rules.proofs.FlushLaws.{flushed-reached}
use Rattle.runs.specs.Plain.{plain_accepted, plain_step}
use Rattle.runs.specs.Run.{Both, steps, run_call}
use Rattle.runs.proofs.Invariant.{Inv}
use Rattle.runs.proofs.KeptLaws.{standby-u, slots-fit, standby-inv}
use Rattle.runs.proofs.Frame.{Accepted, KeepsAccepted}

-- some stored, and the rest stored after them
stored-rest : (u : ℕ) (disk : List ℕ) (l : List Staged) (n : ℕ) → store_all u (store_all u disk (take n l)) (drop n l) ≡ store_all u disk l
stored-rest u disk l n = sym (store-all-append u disk (take n l) (drop n l)) ∙ ap (store_all u disk) (take-append-drop n l)

module _ (n : ℕ) where
  -- the pair after it; v is the standby's U
  abbrev pub after : ℕ → Both → Both
  after v b =
      let e = b.world.standby in
      let k = e.state.slots in
      let c = flush_count k n in
      record {
        world = at_standby b.world (record {
          state = with_slots_blocks e.state (flushed k c) e.state.blocks e.state.records;
          memory = e.memory;
          disk = stored v k.numbers e.staged_blocks e.disk c;
          staged_pages = e.staged_pages;
          staged_marks = e.staged_marks;
          staged_blocks = flushed_bytes v k c e.staged_blocks;
          area = e.area;
        });
        plain = b.plain;
      }

  pub after_is : (u : ℕ) (b : Both) → Accepted b (call.flush n) → run_call steps u b (call.flush n) ≡ after b.world.standby.state.settings.u b
  unfolding step flush_reply flush_staged_blocks flush_disk plain_step plain_accepted
  after_is u b e = rw (eq-eqb _ _ e)

  module _ (g : Settings) (b : Both) (i : Inv g b) where
    abbrev slots : Slots
    slots = b.world.standby.state.slots

    fits : FlushFits g.u b.world.standby.state.slots (length b.world.standby.staged_blocks) (length b.world.standby.disk)
    fits = slots-fit g b.world.standby i.holds.standby_kept

    stored_is : stored g.u slots.numbers b.world.standby.staged_blocks b.world.standby.disk (flush_count slots n)
        ≡ store_all g.u b.world.standby.disk (take (flush_count slots n) (slot_list g.u slots b.world.standby.staged_blocks))
    stored_is =
        stored-slots g.u slots b.world.standby.staged_blocks b.world.standby.disk i.holds.standby_kept.reached.range.numbers fits.few (flush_count slots n) (omega (arith, fits.due_high))

    -- the disk with all staged blocks, and with all due ones, is as before
    staged-disk : store_all g.u (stored g.u slots.numbers b.world.standby.staged_blocks b.world.standby.disk (flush_count slots n))
        (slot_list g.u (flushed slots (flush_count slots n)) (flushed_bytes g.u slots (flush_count slots n) b.world.standby.staged_blocks))
        ≡ store_all g.u b.world.standby.disk (slot_list g.u slots b.world.standby.staged_blocks)
    staged-disk =
        let e = b.world.standby in
        let c = flush_count slots n in
        ap₂ (λ (d : List ℕ) (l : List Staged). store_all g.u d l) stored_is
        (list-flushed g.u slots e.staged_blocks i.holds.standby_kept.reached.range.numbers c (omega (arith, fits.due_high)) fits.few fits.in_slots)
        ∙ stored-rest g.u e.disk (slot_list g.u slots e.staged_blocks) c

    due-disk : store_all g.u (stored g.u slots.numbers b.world.standby.staged_blocks b.world.standby.disk (flush_count slots n))
        (due_list g.u (flushed slots (flush_count slots n)) (flushed_bytes g.u slots (flush_count slots n) b.world.standby.staged_blocks))
        ≡ store_all g.u b.world.standby.disk (due_list g.u slots b.world.standby.staged_blocks)
    due-disk =
        let e = b.world.standby in
        let c = flush_count slots n in
        ap₂ (λ (d : List ℕ) (l : List Staged). store_all g.u d l)
        (stored_is ∙ ap (store_all g.u e.disk) (sym (take-due-list g.u slots e.staged_blocks c (omega arith))))
        (due-flushed g.u slots e.staged_blocks i.holds.standby_kept.reached.range.numbers c (omega (arith, fits.due_high)) fits.few fits.in_slots)
        ∙ stored-rest g.u e.disk (due_list g.u slots e.staged_blocks) c

    -- nothing is due: nothing is stored
    none-stored : slots.due ≡ 0 → stored g.u slots.numbers b.world.standby.staged_blocks b.world.standby.disk (flush_count slots n) ≡ b.world.standby.disk
    none-stored z = let c : flush_count slots n ≡ 0 = omega arith in rw c (stored-none g.u slots.numbers b.world.standby.staged_blocks b.world.standby.disk)

    after-inv : Inv g (after g.u b)
    unfolding flushed
    after-inv =
        let e = b.world.standby in
        let c = flush_count slots n in
        let k = i.holds.standby_kept in
        let t = i.holds.taker in
        let s = e.state in
        standby-inv g b i (after g.u b).world.standby b.plain.activated b.plain.standby_memory b.plain.standby_disk
        (record {
          received_is = t.received_is;
          mode_is = t.mode_is;
          processor_is = t.processor_is;
          memory_is = t.memory_is;
          disk_is = λ z. due-disk ∙ t.disk_is z;
          staged_memory = t.staged_memory;
          staged_disk = λ z. staged-disk ∙ t.staged_disk z;
          staged_processor = t.staged_processor;
          active_memory = t.active_memory;
          active_disk = λ z. none-stored (t.settled z) ∙ t.active_disk z;
          settled = λ z. let d = t.settled z in omega arith;
          area_is = t.area_is;
        })
        (record {
          settings = k.settings;
          patience = k.patience;
          reached = flushed-reached s c (omega arith) k.reached;
          memory = k.memory;
          disk = length-stored g.u slots.numbers e.staged_blocks e.disk c (store-of-flush g.u slots n (length e.staged_blocks) (length e.disk) fits) ∙ k.disk;
          staged_pages = k.staged_pages;
          staged_marks = k.staged_marks;
          staged_blocks = length-bytes g.u slots e.staged_blocks k.reached.range.numbers c (omega (arith, fits.due_high)) fits.few fits.in_slots ∙ k.staged_blocks;
          area = k.area;
        })

pub flush-keeps : (g : Settings) (n : ℕ) → KeepsAccepted g (call.flush n)
flush-keeps g n b i e =
    subst (Inv g) (sym (after_is n g.u b e ∙ ap (λ (v : ℕ). after n v b) (standby-u g b.world.standby i.holds.standby_kept))) (after-inv n g b i)
