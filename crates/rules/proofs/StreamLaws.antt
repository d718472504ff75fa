-- Laws of drain and ACK: what acceptance says, each answer of the judged ACK, and that the ranges are kept. Assumes nothing.
use Rattle.std.specs.Prelude.{Result, Ok, Err}
use mathlib.Core.Path.{◌≡◌, refl, subst}
use mathlib.Core.Bool.{Bool, true, false, cond}
use mathlib.Core.List.{List}
use Prim.Native.Nat.{ℕ, ◌-◌, ◌<◌}
use native.Mathlib.Omega.{arith}
use lib.Dec.{ltb, eqb}
use borrow.Author.Tests.{ltb-true, eqb-true}
use Rattle.lists.proofs.TestLaws.{both, accepted}
use Rattle.records.specs.declared.Cursor.{Cursor}
use Rattle.records.specs.declared.Record.{Record}
use Rattle.records.specs.declared.Unread.{Unread}
use Rattle.records.specs.declared.Record.TheVariants.{Page, Block, State, Commit, Ack}
use Rattle.records.specs.declared.Unread.TheVariants.{Short, Refused}
use Rattle.records.specs.declared.Reader.TheVariants as reader
use Rattle.records.specs.Cases.{on_ack, on_found}
use Rattle.records.specs.Read.{read_record}
use Rattle.records.specs.Number.{out_of_range, wrong_mode}
use Rattle.records.proofs.ReadLaws.{on-ack}
use Rattle.detector.specs.Tick.{reset}
use Rattle.rules.specs.declared.Primary.{Primary}
use Rattle.rules.specs.PrimaryState.{primary_ok, protected, with_waiting, with_acknowledged_detector}
use Rattle.rules.specs.Reply.{unless_refused}
use Rattle.rules.specs.Stream.{drain_tests, ack_tests, drain_refusal, drain_count, ack_refusal, ack_judged, ack_reply}
use Rattle.rules.specs.Reached.{PrimaryInRange, PrimaryReached}
use Rattle.rules.proofs.DetectorFacts.{reset-facts}
use Rattle.rules.proofs.PrimaryFacts.{primary-facts, primary-of}
use Rattle.rules.proofs.ReplyLaws.{unless-cases}

-- ---- drain
pub record DrainFacts (p : Primary) (stream : ℕ) : Type 0 where
  pub ok : primary_ok p ≡ true
  pub stream-is : stream ≡ p.settings.l

module _ (p : Primary) (stream : ℕ) where
  pub drain-accepted : drain_refusal p stream ≡ 0 → DrainFacts p stream
  unfolding drain_refusal
  drain-accepted e =
      let h = accepted (drain_tests p stream) refl e in
      let r = both (primary_ok p) (eqb stream p.settings.l) h.0 in
      record { ok = r.0; stream-is = eqb-true stream p.settings.l r.1 }

-- ---- ACK

-- what an accepted ACK has
pub record AckFacts (p : Primary) (e : ℕ) : Type 0 where
  pub ok : primary_ok p ≡ true
  pub protects : protected p ≡ true
  pub above : p.acknowledged < e
  pub below : e < p.epoch

-- a record that is judged is refused, cut short, or an ACK with these facts
abbrev pub AckJudgedFacts : Primary → Result Record Unread → Type 0
AckJudgedFacts p r = on_ack r (λ e c. AckFacts p e) (on_found r ⊥ (λ n. Unit {0}) (λ n. Unit {0}))

module _ (p : Primary) where
  -- an ACK's own refusal
  pub ack-epochs : (e : ℕ) (c : Cursor) → ack_refusal p (Ok (Ack e c)) ≡ 0 → (p.acknowledged < e) × (e < p.epoch)
  ack-epochs e c z =
      let h = accepted (ack_tests p e) refl z in
      let b = both (ltb p.acknowledged e) (ltb e p.epoch) h.0 in
      (ltb-true p.acknowledged e b.0, ltb-true e p.epoch b.1)

  record-facts : primary_ok p ≡ true → protected p ≡ true → (r : Result Record Unread) → ack_refusal p r ≡ 0 → AckJudgedFacts p r
  record-facts ok on (Ok (Page w e n c)) z = absurd (omega arith)
  record-facts ok on (Ok (Block e n c)) z = absurd (omega arith)
  record-facts ok on (Ok (State e c)) z = absurd (omega arith)
  record-facts ok on (Ok (Commit w e n b c)) z = absurd (omega arith)
  record-facts ok on (Ok (Ack e c)) z = let f = ack-epochs e c z in record { ok = ok; protects = on; above = f.0; below = f.1 }
  record-facts ok on (Err (Short n)) z = tt
  record-facts ok on (Err (Refused n)) z = tt

  module _ (bytes : List ℕ) where
    -- each answer in its order
    pub ack-range : primary_ok p ≡ false → ack_judged p bytes ≡ Err (Refused out_of_range)
    unfolding ack_judged
    ack-range a = rw a

    pub ack-mode : primary_ok p ≡ true → protected p ≡ false → ack_judged p bytes ≡ Err (Refused wrong_mode)
    unfolding ack_judged
    ack-mode a b = rw (a, b)

    pub ack-number : primary_ok p ≡ true → protected p ≡ true → (r : Result Record Unread) → r ≡ read_record reader.Primary p.settings.u bytes
        → (n : ℕ) → n ≡ ack_refusal p r → ack_judged p bytes ≡ unless_refused n r
    unfolding ack_judged
    ack-number a b r e n h = rw (a, b, ← e, ← h)

    -- a fact of what is judged holds of refusals, and of the record found where that is accepted
    pub ack-cases : (P : Result Record Unread → Type 0) → ((n : ℕ) → P (Err (Refused n)))
        → (primary_ok p ≡ true → protected p ≡ true → ack_refusal p (read_record reader.Primary p.settings.u bytes) ≡ 0 → P (read_record reader.Primary p.settings.u bytes))
        → P (ack_judged p bytes)
    unfolding ack_judged
    ack-cases P refusals taken =
        let r = read_record reader.Primary p.settings.u bytes in
        go (primary_ok p) (protected p) (λ a b. unless-cases (ack_refusal p r) r P (taken a b) (λ _. refusals (ack_refusal p r)))
      where
        go : (a b : Bool) {r : Result Record Unread} → (a ≡ true → b ≡ true → P r) → P (cond a (cond b r (Err (Refused wrong_mode))) (Err (Refused out_of_range)))
        go false b f = refusals out_of_range
        go true false f = refusals wrong_mode
        go true true f = f refl refl

    -- the law of acceptance
    pub ack-accepted : AckJudgedFacts p (ack_judged p bytes)
    ack-accepted = ack-cases (AckJudgedFacts p) (λ n. tt) (λ ok on z. record-facts ok on (read_record reader.Primary p.settings.u bytes) z)

-- ---- what a call leaves is in range, and reached
module _ (p : Primary) where
  pub drain-in-range : (n destination : ℕ) → PrimaryInRange p → PrimaryInRange (with_waiting p (p.waiting - drain_count p n destination))
  drain-in-range n destination r =
      let f = primary-facts p r.in_range in
      record {
        in_range = primary-of (with_waiting p (p.waiting - drain_count p n destination))
            (record { settings = f.settings; queue = f.queue; acknowledged = f.acknowledged; waiting = omega arith; blocks = f.blocks; records = f.records; detector = f.detector });
        packets = r.packets;
        numbers = r.numbers;
      }

  pub drain-reached : (n destination : ℕ) → PrimaryReached p → PrimaryReached (with_waiting p (p.waiting - drain_count p n destination))
  drain-reached n destination r = record { range = drain-in-range n destination r.range; different = r.different; records_high = r.records_high }

  pub ack-in-range : (e : ℕ) → AckFacts p e → PrimaryInRange p → PrimaryInRange (with_acknowledged_detector p e (reset p.detector))
  ack-in-range e a r =
      let f = primary-facts p a.ok in
      record {
        in_range = primary-of (with_acknowledged_detector p e (reset p.detector))
            (record {
              settings = f.settings;
              queue = f.queue;
              acknowledged = a.below;
              waiting = f.waiting;
              blocks = f.blocks;
              records = f.records;
              detector = reset-facts p.detector (protected p) f.detector;
            });
        packets = r.packets;
        numbers = r.numbers;
      }

  pub ack-reached : (e : ℕ) → AckFacts p e → PrimaryReached p → PrimaryReached (with_acknowledged_detector p e (reset p.detector))
  ack-reached e a r = record { range = ack-in-range e a r.range; different = r.different; records_high = r.records_high }

  -- a fact that an accepted ACK keeps
  pub ack-kept : (P : Primary → Type 0) → ((e : ℕ) → AckFacts p e → P p → P (with_acknowledged_detector p e (reset p.detector)))
      → (bytes : List ℕ) → P p → P (ack_reply p bytes).state
  unfolding ack_reply
  ack-kept P acks bytes r =
      on-ack P (λ e c. with_acknowledged_detector p e (reset p.detector)) p (ack_judged p bytes)
      (λ e c q. acks e (subst (AckJudgedFacts p) q (ack-accepted p bytes)) r) r
