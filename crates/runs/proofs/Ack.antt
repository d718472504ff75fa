-- An accepted ACK keeps the invariant. Assumes nothing.
use Rattle.std.specs.Prelude.{Result}
use Prim.Native.Nat.{ℕ, ◌<◌, ◌^◌}
use mathlib.Core.Path.{◌≡◌, refl, sym, ap, ◌∙◌, subst}
use mathlib.Core.Logic.{⊎_elim}
use mathlib.Core.Bool.{true, false}
use mathlib.Core.List.{List, [], ◌∷◌, map}
use native.Mathlib.Omega.{arith}
use lib.ListN.{length, drop}
use borrow.Author.Tests.{not-true, lt-leb}
use Rattle.lists.proofs.TestLaws.{by-test}
use Rattle.records.specs.declared.Record.{Record}
use Rattle.records.specs.declared.Unread.{Unread}
use Rattle.records.specs.declared.Reader.TheVariants as reader
use Rattle.records.specs.Kind.{ACK, record_length}
use Rattle.records.specs.Read.{cursor}
use Rattle.records.specs.Message.{encode, read_as}
use Rattle.records.specs.Message as message
use Rattle.records.proofs.MessageLaws.{used-message}
use Rattle.settings.specs.declared.Settings.{Settings}
use Rattle.detector.specs.Tick.{reset}
use Rattle.rules.specs.PrimaryState.{protected, with_acknowledged_detector}
use Rattle.rules.specs.World as call
use Rattle.rules.specs.Step.{Stepped}
use Rattle.rules.proofs.StreamLaws.{AckFacts, ack-epochs, ack-reached}
use Rattle.rules.proofs.PrimaryFacts.{primary-facts}
use Rattle.runs.specs.Plain.{with_counts, plain_accepted, plain_step}
use Rattle.runs.specs.Run.{Both, steps, run_call}
use Rattle.runs.proofs.Effects.{All, ReadableBy}
use Rattle.runs.proofs.Invariant.{ack_bytes, Rising, Inv}
use Rattle.runs.proofs.Conclusions.{received-exists, rising_le}
use Rattle.runs.proofs.RecordSteps.{ack_seen, ack_by, ack-step}
use Rattle.runs.proofs.ReadStep.{AckFound, short, next, ack-off, ack-found}
use Rattle.runs.proofs.Frame.{Accepted, KeepsAccepted}

-- ---- the ACKs under way are readable
pub acks-readable : (u a r : ℕ) (es : List ℕ) → r < 2 ^ 32 → Rising a r es → All (ReadableBy reader.Primary u false) (map message.ack es)
acks-readable u a r [] h f = tt
acks-readable u a r (e ∷ es) h f = let l = rising_le e r es f.1 in ((omega arith, refl), acks-readable u e r es h f.1)

-- ---- the pair after an ACK with epoch e
abbrev after : ℕ → ℕ → Both → Both
after e used b =
    let w = b.world in
    let p = w.primary in
    record {
      world = record {
        primary = record { state = with_acknowledged_detector p.state e (reset p.state.detector); memory = p.memory; disk = p.disk; dirty = p.dirty; held = p.held; stream = p.stream };
        standby = w.standby;
        link = w.link;
        acks = drop used w.acks;
      };
      plain = with_counts b.plain b.plain.r e 0;
    }

module _ (g : Settings) (b : Both) (i : Inv g b) where
  pub r-low : b.plain.r < 2 ^ 32
  r-low = let h = i.holds.history in omega (arith, received-exists g b i, h.count, h.high)

  fits : (e : ℕ) (es : List ℕ) → i.ghost.acks ≡ e ∷ es → e < 2 ^ 32
  fits e es same =
      let r : Rising b.plain.a b.plain.r (e ∷ es) = subst (Rising b.plain.a b.plain.r) same i.holds.detector.rising in
      omega (arith, rising_le e b.plain.r es r.1, r-low)

  -- the oldest ACK under way
  ack-inv : (e : ℕ) (es : List ℕ) → i.ghost.acks ≡ e ∷ es → AckFacts b.world.primary.state e
      → drop (length (encode false (message.ack e))) b.world.acks ≡ ack_bytes es → Inv g (after e (length (encode false (message.ack e))) b)
  ack-inv e es same f bytes =
      let p = b.world.primary in
      let v = i.holds in
      let k = v.primary_kept in
      let h = i.ghost in
      let r : Rising b.plain.a b.plain.r (e ∷ es) = subst (Rising b.plain.a b.plain.r) same v.detector.rising in
      let d = (primary-facts p.state f.ok).detector in
      let alone : b.world.primary.state.alone ≡ false = not-true _ f.protects in
      record {
        ghost = record { base = h.base; ahead = h.ahead; opened = h.opened; consumed = h.consumed; pending = h.pending; lost = h.lost; acks = es };
        holds = record {
          history = v.history;
          link = v.link;
          images = v.images;
          detector = record {
            acknowledged_is = refl;
            rising = r.1;
            acks_are = bytes;
            alone_is = alone ∙ sym (lt-leb g.t 0 (omega (arith, d.t-low, k.patience)));
            count_is = λ z. refl;
            quiet = λ z. refl;
          };
          packets = v.packets;
          taker = v.taker;
          primary_kept = record {
            settings = k.settings;
            patience = k.patience;
            reached = ack-reached p.state e f k.reached;
            memory = k.memory;
            disk = k.disk;
            dirty = k.dirty;
            held = k.held;
            stream = k.stream;
          };
          standby_kept = v.standby_kept;
        };
      }

  module _ (n : ℕ) where
    abbrev both_by : Result Record Unread → Both
    both_by r = record { world = (ack_by b.world r).next; plain = plain_step g.u (call.ack n) (ack_by b.world r).outcome b.plain }

    run_is : run_call steps g.u b (call.ack n) ≡ both_by (ack_seen b.world n)
    run_is = ap (λ (s : Stepped). record { world = s.next; plain = plain_step g.u (call.ack n) s.outcome b.plain }) (ack-step b.world n)

    -- an ACK that was judged
    by-ack : (e : ℕ) (es : List ℕ) → i.ghost.acks ≡ e ∷ es → AckFacts b.world.primary.state e
        → drop (length (encode false (message.ack e))) b.world.acks ≡ ack_bytes es
        → Inv g (both_by (read_as b.world.primary.state.settings.u false (message.ack e)))
    unfolding plain_step plain_accepted
    by-ack e es same f bytes =
        subst (λ (used : ℕ). Inv g (after e used b)) (sym (used-message b.world.primary.state.settings.u false (message.ack e) (fits e es same))) (ack-inv e es same f bytes)

    -- an accepted one is the oldest
    by-found : protected b.world.primary.state ≡ true → Accepted b (call.ack n) → AckFound b.world n i.ghost.acks → Inv g (both_by (ack_seen b.world n))
    by-found on accepted (short s z) = absurd (omega arith)
    by-found on accepted (next e es same whole bytes z seen) =
        let p = b.world.primary.state in
        let f = ack-epochs p e (cursor 8 (record_length p.settings.u ACK)) (sym z ∙ accepted) in
        subst (λ (y : Result Record Unread). Inv g (both_by y)) (sym (seen accepted))
        (by-ack e es same (record { ok = i.holds.primary_kept.reached.range.in_range; protects = on; above = f.0; below = f.1 }) bytes)

pub ack-keeps : (g : Settings) (n : ℕ) → KeepsAccepted g (call.ack n)
ack-keeps g n b i e =
    let p = b.world.primary.state in
    let k = i.holds.primary_kept.reached in
    let d = i.holds.detector in
    let es = i.ghost.acks in
    subst (Inv g) (sym (run_is g b i n))
    (⊎_elim
    (λ (on : protected p ≡ true).
    by-found g b i n on e (ack-found b.world k n on es (acks-readable p.settings.u b.plain.a b.plain.r es (r-low g b i) d.rising) d.acks_are))
    (λ (off : protected p ≡ false). absurd (omega (arith, ack-off b.world k n off)))
    (by-test (protected p)))
