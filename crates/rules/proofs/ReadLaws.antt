-- What a read keeps: a state stays in range, and reached, whatever record is judged, and what is cut short or refused
-- changes nothing. Assumes nothing.
use Rattle.std.specs.Prelude.{Result, Ok, Err}
use mathlib.Core.Path.{◌≡◌, refl, sym, ap, ◌∙◌, subst}
use mathlib.Core.Bool.{true}
use mathlib.Core.Logic.{⊎_elim}
use mathlib.Core.List.{List}
use Prim.Native.Nat.{ℕ, ◌+◌, ◌-◌, ◌≤◌, ◌<◌}
use native.Mathlib.Omega.{arith}
use lib.ListN.{length, get_or}
use Rattle.lists.specs.Select.{NoRepeats}
use Rattle.lists.proofs.TestLaws.{by-test, cond-true, cond-false}
use Rattle.lists.proofs.SelectLaws.{no-repeats-with}
use Rattle.lists.proofs.PartLaws.{length_part}
use Rattle.records.specs.Kind.{processor_bytes}
use Rattle.records.specs.declared.Cursor.{Cursor}
use Rattle.records.specs.declared.Record.{Record}
use Rattle.records.specs.declared.Unread.{Unread}
use Rattle.records.specs.declared.Record.TheVariants.{Page, Block, State, Commit, Ack}
use Rattle.records.specs.declared.Unread.TheVariants.{Short, Refused}
use Rattle.records.proofs.ReadLaws.{found-cases, FieldsFit, read_fits}
use Rattle.settings.specs.Range.{most_epoch}
use Rattle.staging.specs.declared.Slots.{Slots}
use Rattle.staging.specs.Slot.{fresh_numbers, is_staged, with_block, all_due}
use Rattle.staging.proofs.SlotLaws.{slots-all-due}
use Rattle.staging.proofs.BlockLaws.{with-block-again, with-block-next, array-with-block, fresh-with-block, slot-fits, stage-fits, slots-with-block, fresh-all-due}
use Rattle.detector.specs.Tick.{reset}
use Rattle.rules.specs.declared.Standby.{Standby}
use Rattle.rules.specs.declared.ReadLent.{ReadLent}
use Rattle.rules.specs.Blocks.{blocks_with}
use Rattle.rules.specs.StandbyState.{is_receiving, with_pages_next, with_pending_seen, with_no_ticks}
use Rattle.rules.specs.Reply.{number_of, value_of, used_of, answer_of}
use Rattle.rules.specs.Judge.{reader_of, judged}
use Rattle.rules.specs.Read.{bytes_at, sealed_state, installed_state, staged_state, read_state, memory_after, staged_pages_after, staged_marks_after, staged_blocks_after, reply_after, read_reply}
use Rattle.rules.specs.Reached.{StandbyInRange, StandbyReached}
use Rattle.rules.proofs.BlocksLaws.{blocks-high, blocks-of-records}
use Rattle.rules.proofs.StandbyFacts.{standby-tests, standby-tested, standby-facts, in-range-slots, reached-slots, reset-in-range, reset-reached}
use Rattle.rules.proofs.ReplyLaws.{answer-found}
use Rattle.rules.proofs.JudgeLaws.{PageTests, BlockTests, JudgedFacts, judged-cases, judged-facts}

-- the field of bytes of a record has its size
pub bytes-length : (c : Cursor) (bytes : List ℕ) (size : ℕ) → c.end ≡ c.start + size → c.end ≤ length bytes → length (bytes_at c bytes) ≡ size
bytes-length c bytes size span inside =
    let e : c.end - c.start ≡ size = omega arith in
    length_part c.start (c.end - c.start) bytes (omega arith) ∙ e

-- ---- the state stays in range, by the record that is accepted
module _ (s : Standby) (h : StandbyInRange s) where
  -- a page is not below those received, so that with it they are at most M
  pub page-in-range : (e p : ℕ) → PageTests s e p → StandbyInRange (with_pages_next s (s.pages + 1) (p + 1))
  page-in-range e p f =
      let t = standby-tests s h.in_range in
      record {
        in_range = standby-tested (with_pages_next s (s.pages + 1) (p + 1))
            (record { settings-ok = t.settings-ok; slots-ok = t.slots-ok; blocks-high = t.blocks-high; records-high = t.records-high; pages-high = omega (arith, f.not-below, f.page-low); detector-ok = t.detector-ok });
        numbers = h.numbers;
      }

  pub block-in-range : (e n : ℕ) → BlockTests s e n → StandbyInRange (staged_state s n)
  block-in-range e n f =
      let t = standby-tests s h.in_range in
      let g = standby-facts s h.in_range in
      let high = g.settings.slots.s-high in
      let low = slot-fits s.slots n s.settings.s s.settings.d h.numbers high t.slots-ok f.slot-free in
      in-range-slots s (with_block s.slots n) (blocks_with (is_staged s.slots n) s.blocks) (s.records + 1) h
      (slots-with-block s.slots n s.settings.s s.settings.d h.numbers high t.slots-ok low f.block-low)
      (array-with-block s.slots n h.numbers)
      (blocks-high (is_staged s.slots n) s.settings.b s.blocks s.records f.allowed t.blocks-high) (omega (arith, f.allowed.records-low))

  pub state-in-range : (processor : List ℕ) → StandbyInRange (with_pending_seen s processor)
  state-in-range processor =
      let t = standby-tests s h.in_range in
      record {
        in_range = standby-tested (with_pending_seen s processor)
            (record { settings-ok = t.settings-ok; slots-ok = t.slots-ok; blocks-high = t.blocks-high; records-high = t.records-high; pages-high = t.pages-high; detector-ok = t.detector-ok });
        numbers = h.numbers;
      }

  pub commit-in-range : (epoch : ℕ) → StandbyInRange (installed_state (sealed_state s) epoch)
  unfolding all_due
  commit-in-range epoch =
      let t = standby-tests s h.in_range in
      record {
        in_range = standby-tested (installed_state (sealed_state s) epoch)
            (record {
              settings-ok = t.settings-ok;
              slots-ok = slots-all-due s.slots s.settings.s s.settings.d t.slots-ok;
              blocks-high = omega arith;
              records-high = omega arith;
              pages-high = omega arith;
              detector-ok = t.detector-ok;
            });
        numbers = h.numbers;
      }

-- ---- and reached

-- the epoch's blocks stay those that are not due
counts-with-block : (k : Slots) (n blocks : ℕ) → k.due ≤ k.staged → blocks ≡ k.staged - k.due → blocks_with (is_staged k n) blocks ≡ (with_block k n).staged - (with_block k n).due
counts-with-block k n blocks high e =
    ⊎_elim
    (λ z. cond-true (is_staged k n) blocks (blocks + 1) z ∙ e ∙ sym (ap (λ (x : Slots). x.staged - x.due) (with-block-again k n z)))
    (λ z. cond-false (is_staged k n) blocks (blocks + 1) z ∙ omega arith ∙ sym (ap (λ (x : Slots). x.staged - x.due) (with-block-next k n z)))
    (by-test (is_staged k n))

module _ (s : Standby) (h : StandbyReached s) where
  pub page-reached : (e p : ℕ) → PageTests s e p → StandbyReached (with_pages_next s (s.pages + 1) (p + 1))
  page-reached e p f =
      record {
        range = page-in-range s h.range e p f;
        staged_processor = h.staged_processor;
        processor = h.processor;
        pages_below = omega (arith, f.not-below);
        next_below = omega (arith, f.page-low);
        not_due = h.not_due;
        different = h.different;
        records_high = h.records_high;
      }

  pub block-reached : (e n : ℕ) → BlockTests s e n → StandbyReached (staged_state s n)
  block-reached e n f =
      let k = s.slots in
      let t = standby-tests s h.range.in_range in
      let g = standby-facts s h.range.in_range in
      let high = g.settings.slots.s-high in
      let low = slot-fits k n s.settings.s s.settings.d h.range.numbers high t.slots-ok f.slot-free in
      let fits = stage-fits k n s.settings.s s.settings.d h.range.numbers high t.slots-ok low in
      reached-slots s (with_block k n) (blocks_with (is_staged k n) s.blocks) (s.records + 1) h (block-in-range s h.range e n f)
      (counts-with-block k n s.blocks fits.due_high h.not_due)
      (subst NoRepeats (sym (fresh-with-block k n h.range.numbers fits.due_high fits.few fits.slot_low)) (no-repeats-with n (fresh_numbers k) h.different))
      (blocks-of-records (is_staged k n) s.blocks s.records h.records_high)

  pub state-reached : (processor : List ℕ) → length processor ≡ processor_bytes → StandbyReached (with_pending_seen s processor)
  state-reached processor size =
      record {
        range = state-in-range s h.range processor;
        staged_processor = size;
        processor = h.processor;
        pages_below = h.pages_below;
        next_below = h.next_below;
        not_due = h.not_due;
        different = h.different;
        records_high = h.records_high;
      }

  pub commit-reached : (epoch : ℕ) → StandbyReached (installed_state (sealed_state s) epoch)
  unfolding all_due
  commit-reached epoch =
      record {
        range = commit-in-range s h.range epoch;
        staged_processor = h.staged_processor;
        processor = h.staged_processor;
        pages_below = omega arith;
        next_below = omega arith;
        not_due = omega arith;
        different = subst NoRepeats (sym (fresh-all-due s.slots)) tt;
        records_high = omega arith;
      }

-- ---- a fact of the state is kept by a read, where each accepted record keeps it, and so does the count returned to 0
module _ (P : Standby → Type 0) (resets : (s : Standby) → P s → P (with_no_ticks s)) (s : Standby) (h : P s)
    (page : (e p : ℕ) → PageTests s e p → P (with_pages_next s (s.pages + 1) (p + 1)))
    (block : (e n : ℕ) → BlockTests s e n → P (staged_state s n))
    (state : (processor : List ℕ) → length processor ≡ processor_bytes → P (with_pending_seen s processor))
    (commit : (epoch : ℕ) → P (installed_state (sealed_state s) epoch))
    (l : ReadLent) (bytes : List ℕ) where
  record-kept : (r : Result Record Unread) → JudgedFacts s l bytes r → P (read_state s bytes r)
  record-kept (Ok (Page w e p c)) f = resets _ (page e p f.tests)
  record-kept (Ok (Block e n c)) f = resets _ (block e n f.tests)
  record-kept (Ok (State e c)) f = resets _ (state (bytes_at c bytes) (bytes-length c bytes processor_bytes f.field.span f.field.inside))
  record-kept (Ok (Commit w e p b c)) f = resets _ (commit e)
  record-kept (Ok (Ack e c)) f = absurd f
  record-kept (Err (Short n)) f = h
  record-kept (Err (Refused n)) f = h

  read_kept : P (read_reply s l bytes).state
  unfolding read_reply
  read_kept = record-kept (judged s l bytes) (judged-facts s l bytes)

module _ (s : Standby) (l : ReadLent) (bytes : List ℕ) where
  pub read-in-range : StandbyInRange s → StandbyInRange (read_reply s l bytes).state
  read-in-range h = read_kept StandbyInRange reset-in-range s h (page-in-range s h) (block-in-range s h) (λ processor size. state-in-range s h processor) (commit-in-range s h) l bytes

  pub read-reached : StandbyReached s → StandbyReached (read_reply s l bytes).state
  read-reached h = read_kept StandbyReached reset-reached s h (page-reached s h) (block-reached s h) (state-reached s h) (commit-reached s h) l bytes

  pub read-mode : (read_reply s l bytes).state.mode ≡ s.mode
  read-mode = read_kept (λ (x : Standby). x.mode ≡ s.mode) (λ x e. e) s refl (λ e p f. refl) (λ e n f. refl) (λ processor size. refl) (λ epoch. refl) l bytes

-- ---- "returns to 0 at each accepted record of kinds 1 to 4": of every state, whatever was lent
module _ (s : Standby) (l : ReadLent) (bytes : List ℕ) where
  pub record-resets : number_of (read_reply s l bytes).answer ≡ 0 → (read_reply s l bytes).state.detector ≡ reset s.detector
  unfolding read_reply
  record-resets = go (judged s l bytes) (judged-facts s l bytes)
    where
      go : (r : Result Record Unread) → JudgedFacts s l bytes r → number_of (answer_of r) ≡ 0 → (read_state s bytes r).detector ≡ reset s.detector
      go (Ok (Page w e p c)) f z = refl
      go (Ok (Block e n c)) f z = refl
      go (Ok (State e c)) f z = refl
      go (Ok (Commit w e p b c)) f z = refl
      go (Ok (Ack e c)) f z = absurd f
      go (Err (Short n)) f z = absurd (omega arith)
      go (Err (Refused n)) f z = absurd (omega arith)

  -- and only a standby that receives accepts one
  pub read-receives : number_of (read_reply s l bytes).answer ≡ 0 → is_receiving s.mode ≡ true
  unfolding read_reply
  read-receives =
      judged-cases s l bytes (λ (r : Result Record Unread). number_of (answer_of r) ≡ 0 → is_receiving s.mode ≡ true) (λ n h z. absurd (omega arith)) (λ ready z _. ready.receiving)

-- ---- after the last epoch there is no next one: no record is accepted
module _ (s : Standby) (l : ReadLent) (bytes : List ℕ) (low : (j : ℕ) → get_or bytes j 0 < 256) where
  fields_fit : FieldsFit (judged s l bytes)
  fields_fit = judged-cases s l bytes FieldsFit (λ n h. tt) (λ ready z. read_fits (reader_of s) s.settings.u bytes low)

  pub last-epoch : s.received ≡ most_epoch → number_of (answer_of (judged s l bytes)) ≡ 0 → ⊥
  last-epoch e z = go (judged s l bytes) (judged-facts s l bytes) fields_fit z
    where
      go : (r : Result Record Unread) → JudgedFacts s l bytes r → FieldsFit r → number_of (answer_of r) ≡ 0 → ⊥
      go (Ok (Page w n p c)) f k z = let h = f.tests.epoch-next in omega arith
      go (Ok (Block n b c)) f k z = let h = f.tests.epoch-next in omega arith
      go (Ok (State n c)) f k z = let h = f.tests.epoch-next in omega arith
      go (Ok (Commit w n p b c)) f k z = let h = f.tests.epoch-next in omega arith
      go (Ok (Ack n c)) f k z = f
      go (Err (Short n)) f k z = omega arith
      go (Err (Refused n)) f k z = omega arith

-- ---- "A record cut short or refused uses 0 and changes nothing"
pub record NothingRead (s : Standby) (bytes memory pages marks blocks reply : List ℕ) (r : Result Record Unread) : Type 0 where
  pub state-same : read_state s bytes r ≡ s
  pub memory-same : memory_after s memory pages marks r ≡ memory
  pub pages-same : staged_pages_after s bytes pages r ≡ pages
  pub marks-same : staged_marks_after s marks r ≡ marks
  pub blocks_same : staged_blocks_after s bytes blocks r ≡ blocks
  pub reply-same : reply_after reply r ≡ reply
  pub value-zero : value_of (answer_of r) ≡ 0
  pub used-zero : used_of (answer_of r) ≡ 0

module _ (s : Standby) (bytes memory pages marks blocks reply : List ℕ) where
  nothing-short : (n : ℕ) → NothingRead s bytes memory pages marks blocks reply (Err (Short n))
  nothing-short n = record { state-same = refl; memory-same = refl; pages-same = refl; marks-same = refl; blocks_same = refl; reply-same = refl; value-zero = refl; used-zero = refl }

  nothing-refused : (n : ℕ) → NothingRead s bytes memory pages marks blocks reply (Err (Refused n))
  nothing-refused n = record { state-same = refl; memory-same = refl; pages-same = refl; marks-same = refl; blocks_same = refl; reply-same = refl; value-zero = refl; used-zero = refl }

  -- whatever has another number than 0
  pub nothing_read : (r : Result Record Unread) → (number_of (answer_of r) ≡ 0 → ⊥) → NothingRead s bytes memory pages marks blocks reply r
  nothing_read =
      found-cases (λ r. (number_of (answer_of r) ≡ 0 → ⊥) → NothingRead s bytes memory pages marks blocks reply r)
      (λ r h z. absurd (z (ap number_of (answer-found r h)))) (λ n z. nothing-short n) (λ n z. nothing-refused n)
