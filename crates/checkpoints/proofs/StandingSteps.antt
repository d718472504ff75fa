-- Each accepted record, and each flush, keeps a standby that receives a checkpoint in line with what is known, and a
-- COMMIT ends it. Assumes nothing.
use Prim.Native.Nat.{ℕ, ◌+◌, ◌*◌, ◌/◌, ◌≤◌, ◌<◌}
use mathlib.Core.Path.{◌≡◌, refl, sym, ap, ◌∙◌, subst}
use mathlib.Core.Bool.{Bool, true, false, cond}
use mathlib.Core.List.{List, [], ◌∷◌, ◌++◌}
use native.Mathlib.Omega.{arith}
use lib.ListN.{length, length-append}
use Rattle.lists.specs.Select.{is_in, NoRepeats}
use Rattle.lists.specs.Page.{with_page}
use Rattle.lists.proofs.PageLaws.{page-end, length-with-page}
use Rattle.lists.proofs.SelectLaws.{with_number, no-repeats-with}
use Rattle.records.specs.Message.{Message, page, block, state, commit}
use Rattle.settings.specs.declared.StandbySettings.{StandbySettings}
use Rattle.marks.specs.Mark.{with_mark}
use Rattle.marks.proofs.MarkLaws.{words-cover, length-with_mark}
use Rattle.staging.specs.Slot.{fresh_numbers, slot_for, with_block_bytes, all_due}
use Rattle.staging.specs.SlotList.{store_all}
use Rattle.staging.proofs.BlockLaws.{slot-fits, stage-fits, fresh-with-block}
use Rattle.staging.proofs.ListLaws.{due-all-due}
use Rattle.staging.proofs.AgainLaws.{store-with-block}
use Rattle.rules.specs.Blocks.{blocks_with}
use Rattle.rules.specs.StandbyState.{with_pages_next, with_pending_seen}
use Rattle.rules.specs.Read.{staged_state}
use Rattle.rules.specs.World.{StandbyEnd}
use Rattle.rules.proofs.JudgeLaws.{PageTests, BlockTests, StateTests, CommitTests}
use Rattle.rules.proofs.StandbyFacts.{standby-tests, standby-facts, reset-in-range}
use Rattle.rules.proofs.ReadLaws.{page-in-range, block-in-range, state-in-range}
use Rattle.runs.specs.Plain.{Checkpoint}
use Rattle.runs.proofs.Effects.{effect, effects, effects-append, all_append}
use Rattle.runs.proofs.StagedPages.{installed-more}
use Rattle.runs.proofs.ReadStaged.{staged_end}
use Rattle.runs.proofs.ReadCommit.{commit_end}
use Rattle.checkpoints.specs.Judge.{Known, with_page as known_page, with_block as known_block, with_state as known_state}
use Rattle.checkpoints.proofs.Standing.{Inside, Standing, Taken}

-- the standby after a PAGE, a BLOCK, a STATE
abbrev pub page_end : StandbyEnd → (p : ℕ) → List ℕ → StandbyEnd
page_end e p bs =
    staged_end e (with_pages_next e.state (e.state.pages + 1) (p + 1)) (with_page e.state.settings.u e.staged_pages p bs) (with_mark e.staged_marks p) e.staged_blocks

abbrev pub block_end : StandbyEnd → (n : ℕ) → List ℕ → StandbyEnd
block_end e n bs =
    staged_end e (staged_state e.state n) e.staged_pages e.staged_marks (with_block_bytes e.state.settings.u e.state.slots n e.staged_blocks bs)

abbrev pub state_end : StandbyEnd → List ℕ → StandbyEnd
state_end e bs = staged_end e (with_pending_seen e.state bs) e.staged_pages e.staged_marks e.staged_blocks

-- the epoch known with one record more
first-is : (begun : Bool) (known epoch v : ℕ) → (begun ≡ true → known ≡ v) → epoch ≡ v → cond begun known epoch ≡ v
first-is true known epoch v f h = f refl
first-is false known epoch v f h = h

-- one block more in what is known, and counted
blocks-with : (n : ℕ) (ns : List ℕ) (blocks : ℕ) → blocks ≡ length ns → blocks_with (is_in n ns) blocks ≡ length (with_number n ns)
blocks-with n ns blocks h = go (is_in n ns)
  where
    go : (b : Bool) → cond b blocks (blocks + 1) ≡ length (cond b ns (ns ++ (n ∷ [])))
    go true = h
    go false = simp length-append (omega arith)

module _ (base : Checkpoint) (r : ℕ) (k : Known) (ms : List Message) (e : StandbyEnd) (h : Standing e.state.settings base r k ms e) where
  abbrev x : StandbySettings
  x = e.state.settings

  -- what the records do with this one: to all, to memory, to the disk, to the processor state
  done : (y : Message) → effect x.u (effects x.u base ms) y ≡ effects x.u base (ms ++ (y ∷ []))
  done y = sym (effects-append x.u base ms (y ∷ []))

  memory_done : (y : Message) → (effect x.u (effects x.u base ms) y).memory ≡ (effects x.u base (ms ++ (y ∷ []))).memory
  memory_done y = ap (λ (c : Checkpoint). c.memory) (done y)

  disk-done : (y : Message) → (effect x.u (effects x.u base ms) y).disk ≡ (effects x.u base (ms ++ (y ∷ []))).disk
  disk-done y = ap (λ (c : Checkpoint). c.disk) (done y)

  processor-done : (y : Message) → (effect x.u (effects x.u base ms) y).processor ≡ (effects x.u base (ms ++ (y ∷ []))).processor
  processor-done y = ap (λ (c : Checkpoint). c.processor) (done y)

  -- a PAGE that is accepted
  pub page-standing : (epoch p : ℕ) (bs : List ℕ) → PageTests e.state epoch p → length bs ≡ e.state.settings.u
      → Standing e.state.settings base r (known_page k epoch p) (ms ++ (page epoch p bs ∷ [])) (page_end e p bs)
  page-standing epoch p bs f whole =
      let y = page epoch p bs in
      let room : p * x.u + x.u ≤ length e.staged_pages = omega (arith, page-end p x.m x.u f.page-low, h.staged_pages) in
      let word : p / 64 < length e.staged_marks = rw h.staged_marks (words-cover x.m p f.page-low) in
      record {
        settings = refl;
        range = reset-in-range _ (page-in-range e.state h.range epoch p f);
        receiving = h.receiving;
        received = h.received;
        epoch = λ z. first-is k.begun k.epoch epoch (r + 1) h.epoch (f.epoch-next ∙ ap (λ (v : ℕ). v + 1) h.received);
        numbers = h.numbers;
        blocks = h.blocks;
        records = h.records;
        pages = ap (λ (v : ℕ). v + 1) h.pages;
        next = refl;
        seen = h.seen;
        pages_low = omega (arith, f.not-below, h.pages);
        no_pages = λ z. absurd (omega arith);
        different = h.different;
        memory = h.memory;
        disk = h.disk;
        staged_pages = length-with-page x.u p e.staged_pages bs whole room ∙ h.staged_pages;
        staged_marks = length-with_mark e.staged_marks p ∙ h.staged_marks;
        staged_blocks = h.staged_blocks;
        inside = all_append (Inside x) ms (y ∷ []) h.inside ((f.page-low, whole), tt);
        memory_is =
            installed-more e.memory e.staged_pages e.staged_marks x.u x.m h.memory h.staged_pages p bs f.page-low word whole
            ∙ ap (λ (l : List ℕ). with_page x.u l p bs) h.memory_is
            ∙ memory_done y;
        disk_is = h.disk_is ∙ disk-done y;
        processor_is = λ z. h.processor_is z ∙ processor-done y;
      }

  -- a BLOCK that is accepted
  pub block-standing : (epoch n : ℕ) (bs : List ℕ) → BlockTests e.state epoch n → length bs ≡ e.state.settings.u
      → Standing e.state.settings base r (known_block k epoch n) (ms ++ (block epoch n bs ∷ [])) (block_end e n bs)
  unfolding with_block_bytes
  block-standing epoch n bs f whole =
      let y = block epoch n bs in
      let s = e.state in
      let few = (standby-facts s h.range.in_range).settings.slots.s-high in
      let ok = (standby-tests s h.range.in_range).slots-ok in
      let array = h.range.numbers in
      let low = slot-fits s.slots n x.s x.d array few ok f.slot-free in
      let fits = stage-fits s.slots n x.s x.d array few ok low in
      let room : slot_for s.slots n * x.u + x.u ≤ length e.staged_blocks = omega (arith, page-end (slot_for s.slots n) x.s x.u low, h.staged_blocks) in
      let fresh = fresh-with-block s.slots n array fits.due_high fits.few fits.slot_low in
      record {
        settings = refl;
        range = reset-in-range _ (block-in-range s h.range epoch n f);
        receiving = h.receiving;
        received = h.received;
        epoch = λ z. first-is k.begun k.epoch epoch (r + 1) h.epoch (f.epoch-next ∙ ap (λ (v : ℕ). v + 1) h.received);
        numbers = fresh ∙ ap (with_number n) h.numbers;
        blocks = ap (λ (l : List ℕ). blocks_with (is_in n l) s.blocks) h.numbers ∙ blocks-with n k.numbers s.blocks h.blocks;
        records = ap (λ (v : ℕ). v + 1) h.records;
        pages = h.pages;
        next = h.next;
        seen = h.seen;
        pages_low = h.pages_low;
        no_pages = h.no_pages;
        different = subst NoRepeats (sym fresh) (no-repeats-with n (fresh_numbers s.slots) h.different);
        memory = h.memory;
        disk = h.disk;
        staged_pages = h.staged_pages;
        staged_marks = h.staged_marks;
        staged_blocks = length-with-page x.u (slot_for s.slots n) e.staged_blocks bs whole room ∙ h.staged_blocks;
        inside = all_append (Inside x) ms (y ∷ []) h.inside ((f.block-low, whole), tt);
        memory_is = h.memory_is ∙ memory_done y;
        disk_is =
            store-with-block x.u x.d n bs f.block-low whole e.disk h.disk s.slots x.s e.staged_blocks array few ok h.staged_blocks h.different low
            ∙ ap (λ (l : List ℕ). with_page x.u l n bs) h.disk_is
            ∙ disk-done y;
        processor_is = λ z. h.processor_is z ∙ processor-done y;
      }

  -- a STATE that is accepted
  pub state-standing : (epoch : ℕ) (bs : List ℕ) → StateTests e.state epoch
      → Standing e.state.settings base r (known_state k epoch) (ms ++ (state epoch bs ∷ [])) (state_end e bs)
  state-standing epoch bs f =
      let y = state epoch bs in
      record {
        settings = refl;
        range = reset-in-range _ (state-in-range e.state h.range bs);
        receiving = h.receiving;
        received = h.received;
        epoch = λ z. first-is k.begun k.epoch epoch (r + 1) h.epoch (f.epoch-next ∙ ap (λ (v : ℕ). v + 1) h.received);
        numbers = h.numbers;
        blocks = h.blocks;
        records = h.records;
        pages = h.pages;
        next = h.next;
        seen = refl;
        pages_low = h.pages_low;
        no_pages = h.no_pages;
        different = h.different;
        memory = h.memory;
        disk = h.disk;
        staged_pages = h.staged_pages;
        staged_marks = h.staged_marks;
        staged_blocks = h.staged_blocks;
        inside = all_append (Inside x) ms (y ∷ []) h.inside (tt, tt);
        memory_is = h.memory_is ∙ memory_done y;
        disk_is = h.disk_is ∙ disk-done y;
        processor_is = λ z. processor-done y;
      }

  -- a COMMIT that is accepted ends the checkpoint
  pub commit-taken : (reply epoch p b : ℕ) → CommitTests e.state reply epoch p b
      → Taken e.state.settings base r (ms ++ (commit epoch p b ∷ [])) (commit_end e epoch e.state.settings)
  unfolding all_due
  commit-taken reply epoch p b f =
      let y = commit epoch p b in
      let s = e.state in
      let t = standby-facts s h.range.in_range in
      record {
        received = f.epoch-next ∙ ap (λ (v : ℕ). v + 1) h.received;
        inside = all_append (Inside x) ms (y ∷ []) h.inside (tt, tt);
        memory_is = h.memory_is ∙ memory_done y;
        processor_is = h.processor_is f.after-state ∙ processor-done y;
        disk_is =
            ap (store_all x.u e.disk) (due-all-due x.u s.slots e.staged_blocks (omega (arith, h.range.numbers, t.slots.staged-high, t.settings.slots.s-high)))
            ∙ h.disk_is
            ∙ disk-done y;
      }
