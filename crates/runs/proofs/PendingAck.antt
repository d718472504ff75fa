-- An ACK call under the second invariant: its number, and that an accepted one keeps the invariant. Assumes nothing.
use Prim.Native.Nat.{ℕ, ◌+◌, ◌≤◌, ◌<◌, ◌^◌}
use mathlib.Core.Path.{◌≡◌, refl, sym, ap, ◌∙◌, subst}
use mathlib.Core.Logic.{⊎_elim}
use mathlib.Core.Bool.{true, false}
use mathlib.Core.List.{List, [], ◌∷◌, ◌++◌}
use native.Mathlib.Omega.{arith}
use lib.ListN.{length, take, drop}
use borrow.Author.Tests.{lt-ltb}
use Rattle.lists.specs.LittleEndian.{le_at}
use Rattle.lists.proofs.TestLaws.{by-test, join, accepts, cond-true, cond-false}
use Rattle.records.specs.Read.{cut_short}
use Rattle.records.specs.declared.Reader.TheVariants as reader
use Rattle.records.specs.Kind.{ACK, unit_ok, record_length, header_length}
use Rattle.records.specs.Message.{encode, read_as}
use Rattle.records.specs.Message as message
use Rattle.records.proofs.MessageLaws.{length-message, used-message}
use Rattle.settings.specs.declared.Settings.{Settings}
use Rattle.settings.proofs.RangeLaws.{shared-unit}
use Rattle.rules.specs.PrimaryState.{protected}
use Rattle.rules.specs.Stream.{ack_tests, ack_refusal}
use Rattle.rules.specs.World as call
use Rattle.rules.specs.Step.{Stepped, step}
use Rattle.rules.proofs.PrimaryFacts.{primary-facts}
use Rattle.runs.specs.Run.{Both}
use Rattle.runs.specs.Progress.{whole_record, without_first, ack_number}
use Rattle.runs.proofs.Invariant.{ack_bytes, Rising, Inv}
use Rattle.runs.proofs.Conclusions.{received-exists, rising_le}
use Rattle.runs.proofs.RecordSteps.{ack_seen, ack_by, ack-step}
use Rattle.runs.proofs.ReadStep.{AckFound, short, next, whole-given, size_is, ack-off, ack-found}
use Rattle.runs.proofs.Ack.{acks-readable, r-low}
use Rattle.runs.proofs.Pending.{View, view_of, Leads, Pending, KeepsPending, pending-acked}

leads-rising : (a r : ℕ) (es : List ℕ) → Leads a (r + 1) es → Rising a r es
leads-rising a r [] h = omega arith
leads-rising a r (e ∷ es) h = (h.0, leads-rising e r es h.1)

-- ---- a primary that is protected
module _ (g : Settings) (b : Both) (i : Inv g b) (p : Pending g (view_of b.world)) (on : protected b.world.primary.state ≡ true) (n : ℕ) where
  abbrev u : ℕ
  u = b.world.primary.state.settings.u

  unit_ok_lem : unit_ok u ≡ true
  unit_ok_lem = shared-unit (primary-facts b.world.primary.state i.holds.primary_kept.reached.range.in_range).settings.shared

  rising : (es : List ℕ) → p.trail.epochs ≡ es → Rising b.world.primary.state.acknowledged b.world.standby.state.received es
  rising es same = leads-rising _ _ es (rw same at p.trail.leads)

  -- their epochs fit
  low : (e : ℕ) (es : List ℕ) → p.trail.epochs ≡ e ∷ es → e < 2 ^ 32
  low e es same = omega (arith, rising_le e b.world.standby.state.received es (rising (e ∷ es) same).1, r-low g b i, i.holds.taker.received_is)

  found : AckFound b.world n p.trail.epochs
  found =
      let s = b.world.primary.state in
      let r = b.world.standby.state.received in
      let fits : r < 2 ^ 32 = omega (arith, r-low g b i, i.holds.taker.received_is) in
      ack-found b.world i.holds.primary_kept.reached n on p.trail.epochs (acks-readable s.settings.u s.acknowledged r p.trail.epochs fits (rising p.trail.epochs refl)) p.trail.are

  -- the oldest is above the acknowledged and below the open epoch, and so accepted
  oldest-accepts : (e : ℕ) (es : List ℕ) → p.trail.epochs ≡ e ∷ es → ack_refusal b.world.primary.state (read_as u false (message.ack e)) ≡ 0
  oldest-accepts e es same =
      let s = b.world.primary.state in
      let r = rising (e ∷ es) same in
      let below : e < s.epoch = omega (arith, rising_le e b.world.standby.state.received es r.1, i.holds.taker.received_is, received-exists g b i, i.holds.history.count) in
      accepts (ack_tests s e) (join _ _ (lt-ltb s.acknowledged e r.0) (lt-ltb e s.epoch below), tt)

  number_by : AckFound b.world n p.trail.epochs → (step b.world (call.ack n)).outcome.number ≡ ack_number b.world n
  number_by (short s z) = z ∙ sym (cond-false (whole_record (take n b.world.acks)) 0 cut_short s)
  number_by (next e es same whole bytes z seen) = z ∙ oldest-accepts e es same ∙ sym (cond-true (whole_record (take n b.world.acks)) 0 cut_short whole)

  pub ack-number : (step b.world (call.ack n)).outcome.number ≡ ack_number b.world n
  ack-number = number_by found

  -- where one is under way, and enough bytes are given, it is accepted
  pub oldest-made : (e : ℕ) (es : List ℕ) → p.trail.epochs ≡ e ∷ es → record_length g.u ACK ≤ n → (step b.world (call.ack n)).outcome.number ≡ 0
  oldest-made e es same long =
      let x = message.ack e in
      let fits = low e es same in
      let is : b.world.acks ≡ encode false x ++ ack_bytes es = p.trail.are ∙ ap ack_bytes same in
      let whole : whole_record (take n b.world.acks) ≡ true
      = ap (λ (l : List ℕ). whole_record (take n l)) is ∙ whole-given reader.Primary u false unit_ok_lem n x (ack_bytes es) (fits, refl) (omega (arith, length-message g.u false x fits)) in
      ack-number ∙ cond-true (whole_record (take n b.world.acks)) 0 cut_short whole

  -- an accepted one keeps the invariant, raises the acknowledged epoch, and leaves the ACKs without their first
  abbrev pub Kept : View → Type 0
  Kept v = Pending g v × (b.world.primary.state.acknowledged < v.sender.acknowledged) × (v.acks ≡ without_first b.world.acks)

  accepted-by : (step b.world (call.ack n)).outcome.number ≡ 0 → AckFound b.world n p.trail.epochs → Kept (view_of (ack_by b.world (ack_seen b.world n)).next)
  accepted-by accepted (short s z) = absurd (omega arith)
  accepted-by accepted (next e es same whole bytes z seen) =
      let w = b.world in
      let x = message.ack e in
      let leads : Leads w.primary.state.acknowledged (w.standby.state.received + 1) (e ∷ es) = rw same at p.trail.leads in
      let is : w.acks ≡ encode false x ++ ack_bytes es = p.trail.are ∙ ap ack_bytes same in
      let size : header_length + le_at 2 w.acks 0 ≡ length (encode false x)
      = ap (λ (l : List ℕ). header_length + le_at 2 l 0) is ∙ size_is reader.Primary u false unit_ok_lem x (ack_bytes es) (low e es same, refl) in
      rw (seen accepted, used-message u false x (low e es same))
      (pending-acked g (view_of w) p e (drop (length (encode false x)) w.acks) (record { epochs = es; are = bytes; leads = leads.1 }), leads.0, ap (λ (m : ℕ). drop m w.acks) (sym size))

  pub ack-kept : (step b.world (call.ack n)).outcome.number ≡ 0
      → Kept (view_of (step b.world (call.ack n)).next)
  ack-kept accepted = subst (λ (s : Stepped). Kept (view_of s.next)) (sym (ack-step b.world n)) (accepted-by accepted found)

pub ack-pending : (g : Settings) (n : ℕ) → KeepsPending g (call.ack n)
ack-pending g n b i e p =
    ⊎_elim
    (λ (on : protected b.world.primary.state ≡ true). (ack-kept g b i p on n e).0)
    (λ (off : protected b.world.primary.state ≡ false). absurd (omega (arith, ack-off b.world i.holds.primary_kept.reached n off)))
    (by-test (protected b.world.primary.state))
