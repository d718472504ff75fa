-- What the record that a read judged has, by its kind: everything that its effects ask. Assumes nothing.
use Rattle.std.specs.Prelude.{Result, Ok, Err}
use mathlib.Core.Path.{◌≡◌, refl, ap}
use mathlib.Core.Bool.{Bool, true, false, cond, ◌&&◌, ◌||◌, not}
use mathlib.Core.List.{List, [], ◌∷◌}
use Prim.Native.Nat.{ℕ, ◌+◌, ◌≤◌, ◌<◌}
use native.Mathlib.Omega.{arith}
use lib.Dec.{leb, ltb, eqb}
use borrow.Author.Tests.{not-true, leb-true, le-leb, ltb-true, ltb-false, lt-ltb, eqb-true, eq-eqb}
use Rattle.lists.specs.Refusal.{test, refusal}
use Rattle.lists.proofs.TestLaws.{both, join, unless, or-unless, and-false, accepted, accepts}
use Rattle.records.specs.Kind.{BLOCK, STATE, body_length, record_length, processor_bytes}
use Rattle.records.specs.Number.{out_of_range, no_such_unit, bad_epoch, out_of_order, wrong_mode, allowance_used, slots_full}
use Rattle.records.specs.Cases.{by_kind, on_found}
use Rattle.records.specs.Read.{read_record, kind_of}
use Rattle.records.specs.declared.Cursor.{Cursor}
use Rattle.records.specs.declared.Record.{Record}
use Rattle.records.specs.declared.Unread.{Unread}
use Rattle.records.specs.declared.Record.TheVariants.{Page, Block, State, Commit, Ack}
use Rattle.records.specs.declared.Unread.TheVariants.{Short, Refused}
use Rattle.records.proofs.ReadLaws.{RecordFacts, ReadFacts, refused-number, read-facts}
use Rattle.staging.specs.Slot.{is_staged}
use Rattle.rules.specs.declared.Standby.{Standby}
use Rattle.rules.specs.declared.ReadLent.{ReadLent}
use Rattle.rules.specs.Blocks.{block_allowed}
use Rattle.rules.specs.StandbyState.{is_receiving, standby_ok, memory_length, marks_length, slots_length}
use Rattle.rules.specs.Reply.{unless_refused}
use Rattle.rules.specs.Judge.{is_next, page_tests, block_tests, state_tests, commit_tests, read_lent_ok, free_for, page_refusal, block_refusal, state_refusal, commit_refusal, record_refusal, reader_of, judged}
use Rattle.rules.proofs.BlocksLaws.{BlockRoom, block_room, block-allowed}
use Rattle.rules.proofs.ReplyLaws.{unless-cases}

-- ---- "Lent lengths are exact"
pub record ReadLentFacts (s : Standby) (l : ReadLent) : Type 0 where
  pub memory-is : l.memory ≡ memory_length s
  pub pages-is : l.pages ≡ memory_length s
  pub marks-is : l.marks ≡ marks_length s
  pub blocks_is : l.blocks ≡ slots_length s

module _ (s : Standby) (l : ReadLent) where
  pub read-lent-facts : read_lent_ok s l ≡ true → ReadLentFacts s l
  unfolding read_lent_ok
  read-lent-facts e =
      let b = both _ (eqb l.blocks (slots_length s)) e in
      let k = both _ (eqb l.marks (marks_length s)) b.0 in
      let p = both (eqb l.memory (memory_length s)) (eqb l.pages (memory_length s)) k.0 in
      record { memory-is = eqb-true _ _ p.0; pages-is = eqb-true _ _ p.1; marks-is = eqb-true _ _ k.1; blocks_is = eqb-true _ _ b.1 }

  pub read-lent-of : ReadLentFacts s l → read_lent_ok s l ≡ true
  unfolding read_lent_ok
  read-lent-of f =
      join _ _
      (join _ _ (join _ _ (eq-eqb _ _ f.memory-is) (eq-eqb _ _ f.pages-is)) (eq-eqb _ _ f.marks-is))
      (eq-eqb _ _ f.blocks_is)

-- ---- the tests of each kind, by name
pub record PageTests (s : Standby) (e p : ℕ) : Type 0 where
  pub page-low : p < s.settings.m
  pub epoch-next : e ≡ s.received + 1
  pub rising : s.next ≤ p
  pub not-below : s.pages ≤ p
  pub before-state : s.seen ≡ false

pub record BlockTests (s : Standby) (e n : ℕ) : Type 0 where
  pub block-low : n < s.settings.d
  pub epoch-next : e ≡ s.received + 1
  pub before-pages : s.next ≡ 0
  pub no-pages : s.pages ≡ 0
  pub before-state : s.seen ≡ false
  pub allowed : BlockRoom (is_staged s.slots n) s.settings.b s.blocks s.records
  pub slot-free : is_staged s.slots n ≡ false → 0 < free_for s

pub record StateTests (s : Standby) (e : ℕ) : Type 0 where
  pub epoch-next : e ≡ s.received + 1
  pub first : s.seen ≡ false

pub record CommitTests (s : Standby) (reply e p b : ℕ) : Type 0 where
  pub room : 8 ≤ reply
  pub epoch-next : e ≡ s.received + 1
  pub after-state : s.seen ≡ true
  pub pages-same : p ≡ s.pages
  pub records-same : b ≡ s.records

module _ (s : Standby) where
  pub page-accepted : (e p : ℕ) → page_refusal s e p ≡ 0 → PageTests s e p
  unfolding page_refusal
  page-accepted e p z =
      let a = accepted (page_tests s e p) refl z in
      let o = both (leb s.next p && leb s.pages p) (not s.seen) a.1.1.0 in
      let r = both (leb s.next p) (leb s.pages p) o.0 in
      record { page-low = ltb-true _ _ a.0; epoch-next = eqb-true _ _ a.1.0; rising = leb-true _ _ r.0; not-below = leb-true _ _ r.1; before-state = not-true s.seen o.1 }

  pub block-accepted : (e n : ℕ) → block_refusal s (free_for s) e n ≡ 0 → BlockTests s e n
  unfolding block_refusal
  block-accepted e n z =
      let a = accepted (block_tests s (free_for s) e n) refl z in
      let o = both (eqb s.next 0 && eqb s.pages 0) (not s.seen) a.1.1.0 in
      let r = both (eqb s.next 0) (eqb s.pages 0) o.0 in
      record {
        block-low = ltb-true _ _ a.0;
        epoch-next = eqb-true _ _ a.1.0;
        before-pages = eqb-true _ _ r.0;
        no-pages = eqb-true _ _ r.1;
        before-state = not-true s.seen o.1;
        allowed = block_room (is_staged s.slots n) s.settings.b s.blocks s.records a.1.1.1.0;
        slot-free = λ e. ltb-true _ _ (unless (is_staged s.slots n) _ a.1.1.1.1.0 e);
      }

  pub state-accepted : (e : ℕ) → state_refusal s e ≡ 0 → StateTests s e
  unfolding state_refusal
  state-accepted e z =
      let a = accepted (state_tests s e) refl z in
      record { epoch-next = eqb-true _ _ a.0; first = not-true s.seen a.1.0 }

  pub commit-accepted : (reply e p b : ℕ) → commit_refusal s reply e p b ≡ 0 → CommitTests s reply e p b
  unfolding commit_refusal record_length body_length
  commit-accepted reply e p b z =
      let a = accepted (commit_tests s reply e p b) refl z in
      let n = both (eqb p s.pages) (eqb b s.records) a.1.1.1.0 in
      record {
        room = leb-true _ _ a.0;
        epoch-next = eqb-true _ _ a.1.0;
        after-state = a.1.1.0;
        pages-same = eqb-true _ _ n.0;
        records-same = eqb-true _ _ n.1;
      }

  -- and back: what has its kind's tests is accepted
  pub page-accepts : (e p : ℕ) → PageTests s e p → page_refusal s e p ≡ 0
  unfolding page_refusal
  page-accepts e p f =
      accepts (page_tests s e p) (
        lt-ltb _ _ f.page-low,
        (eq-eqb _ _ f.epoch-next, (join _ _ (join _ _ (le-leb _ _ f.rising) (le-leb _ _ f.not-below)) (ap not f.before-state), tt)),
      )

  pub block-accepts : (e n : ℕ) → BlockTests s e n → block_refusal s (free_for s) e n ≡ 0
  unfolding block_refusal
  block-accepts e n f =
      accepts (block_tests s (free_for s) e n) (
        lt-ltb _ _ f.block-low,
        (
          eq-eqb _ _ f.epoch-next,
          (
            join _ _ (join _ _ (eq-eqb _ _ f.before-pages) (eq-eqb _ _ f.no-pages)) (ap not f.before-state),
            (
              block-allowed (is_staged s.slots n) s.settings.b s.blocks s.records f.allowed,
              (or-unless (is_staged s.slots n) _ (λ e. lt-ltb _ _ (f.slot-free e)), tt),
            ),
          ),
        ),
      )

  pub state-accepts : (e : ℕ) → StateTests s e → state_refusal s e ≡ 0
  unfolding state_refusal
  state-accepts e f = accepts (state_tests s e) (eq-eqb _ _ f.epoch-next, (ap not f.first, tt))

  pub commit-accepts : (reply e p b : ℕ) → CommitTests s reply e p b → commit_refusal s reply e p b ≡ 0
  unfolding commit_refusal record_length body_length
  commit-accepts reply e p b f =
      accepts (commit_tests s reply e p b) (
        le-leb _ _ f.room,
        (eq-eqb _ _ f.epoch-next, (f.after-state, (join _ _ (eq-eqb _ _ f.pages-same) (eq-eqb _ _ f.records-same), tt))),
      )

  -- 17 is given only where "S blocks staged": never with a slot free, nor "where a slot is reused"
  pub block-full : (e n : ℕ) → block_refusal s (free_for s) e n ≡ slots_full → (is_staged s.slots n ≡ false) × (free_for s ≡ 0)
  unfolding block_refusal
  block-full e n z =
      let r = go (ltb n s.settings.d) (is_next s e) (eqb s.next 0 && eqb s.pages 0 && not s.seen) (block_allowed (is_staged s.slots n) s.settings.b s.blocks s.records) (is_staged s.slots n) (ltb 0 (free_for s)) z in
      (r.0, omega (arith, ltb-false 0 (free_for s) r.1))
    where
      go : (a b c d f g : Bool) → refusal (test no_such_unit a ∷ test bad_epoch b ∷ test out_of_order c ∷ test allowance_used d ∷ test slots_full (f || g) ∷ []) ≡ slots_full → (f ≡ false) × (g ≡ false)
      go false b c d f g h = absurd (omega arith)
      go true false c d f g h = absurd (omega arith)
      go true true false d f g h = absurd (omega arith)
      go true true true false f g h = absurd (omega arith)
      go true true true true true g h = absurd (omega arith)
      go true true true true false true h = absurd (omega arith)
      go true true true true false false h = (refl, refl)

-- ---- the record judged
pub record ReadReady (s : Standby) (l : ReadLent) : Type 0 where
  pub ok : standby_ok s ≡ true
  pub lent : ReadLentFacts s l
  pub receiving : is_receiving s.mode ≡ true

-- an accepted record: the state and what is lent, its kind's tests, its field of bytes (of size bytes)
pub record Accepted (s : Standby) (l : ReadLent) (bytes : List ℕ) (kind size : ℕ) (c : Cursor) (Tests : Type 0) : Type 0 where
  pub ready : ReadReady s l
  pub tests : Tests
  pub field : RecordFacts (reader_of s) s.settings.u bytes kind size c

-- what is judged is such a record, or cut short, or refused with a number
abbrev pub JudgedFacts : Standby → ReadLent → List ℕ → Result Record Unread → Type 0
JudgedFacts s l bytes r =
    by_kind r
    (λ e p c. Accepted s l bytes (kind_of r) s.settings.u c (PageTests s e p))
    (λ e n c. Accepted s l bytes BLOCK s.settings.u c (BlockTests s e n))
    (λ e c. Accepted s l bytes STATE processor_bytes c (StateTests s e))
    (λ e p b c. Accepted s l bytes (kind_of r) 0 c (CommitTests s l.reply e p b))
    (on_found r ⊥ (λ n. ReadReady s l) (λ n. 0 < n))

module _ (s : Standby) (l : ReadLent) (bytes : List ℕ) where
  record-facts : ReadReady s l → (r : Result Record Unread) → ReadFacts (reader_of s) s.settings.u bytes r → record_refusal s l.reply r ≡ 0 → JudgedFacts s l bytes r
  record-facts ready (Ok (Page w e p c)) f z = record { ready = ready; tests = page-accepted s e p z; field = f }
  record-facts ready (Ok (Block e n c)) f z = record { ready = ready; tests = block-accepted s e n z; field = f }
  record-facts ready (Ok (State e c)) f z = record { ready = ready; tests = state-accepted s e z; field = f }
  record-facts ready (Ok (Commit w e p b c)) f z = record { ready = ready; tests = commit-accepted s l.reply e p b z; field = f }
  record-facts ready (Ok (Ack e c)) f z = absurd (omega arith)
  record-facts ready (Err (Short n)) f z = ready
  record-facts ready (Err (Refused n)) f z = (refused-number s.settings.u n f).0

  -- each answer in its order
  pub judged-range : standby_ok s ≡ false → judged s l bytes ≡ Err (Refused out_of_range)
  unfolding judged
  judged-range a = rw a

  pub judged-lent : read_lent_ok s l ≡ false → judged s l bytes ≡ Err (Refused out_of_range)
  unfolding judged
  judged-lent b = rw (b, and-false (standby_ok s))

  module _ (ok : standby_ok s ≡ true) (lent : read_lent_ok s l ≡ true) where
    pub judged-mode : is_receiving s.mode ≡ false → judged s l bytes ≡ Err (Refused wrong_mode)
    unfolding judged
    judged-mode k = rw (ok, lent, k)

    pub judged-number : is_receiving s.mode ≡ true → (r : Result Record Unread) → r ≡ read_record (reader_of s) s.settings.u bytes
        → (n : ℕ) → n ≡ record_refusal s l.reply r → judged s l bytes ≡ unless_refused n r
    unfolding judged
    judged-number k r e n h = rw (ok, lent, k, ← e, ← h)

  -- a fact of what is judged holds of refusals, and of the record found where that is accepted
  pub judged-cases : (P : Result Record Unread → Type 0) → ((n : ℕ) → 0 < n → P (Err (Refused n)))
      → (ReadReady s l → record_refusal s l.reply (read_record (reader_of s) s.settings.u bytes) ≡ 0 → P (read_record (reader_of s) s.settings.u bytes))
      → P (judged s l bytes)
  unfolding judged
  judged-cases P refusals taken =
      let r = read_record (reader_of s) s.settings.u bytes in
      let n = record_refusal s l.reply r in
      go (standby_ok s) (read_lent_ok s l) (is_receiving s.mode)
      (λ a b k. unless-cases n r P (taken (record { ok = a; lent = read-lent-facts s l b; receiving = k })) (λ z. refusals n (omega arith)))
    where
      go : (a b k : Bool) {r : Result Record Unread} → (a ≡ true → b ≡ true → k ≡ true → P r) → P (cond (a && b) (cond k r (Err (Refused wrong_mode))) (Err (Refused out_of_range)))
      go false b k f = refusals out_of_range (omega arith)
      go true false k f = refusals out_of_range (omega arith)
      go true true false f = refusals wrong_mode (omega arith)
      go true true true f = f refl refl refl

  -- the law of acceptance
  pub judged-facts : JudgedFacts s l bytes (judged s l bytes)
  judged-facts =
      judged-cases (JudgedFacts s l bytes) (λ n h. h)
      (λ ready z. record-facts ready (read_record (reader_of s) s.settings.u bytes) (read-facts (reader_of s) s.settings.u bytes) z)
