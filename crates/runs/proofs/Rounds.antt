-- An exchange from its drain on: each round of a flush and a read takes a record off the link, and each ACK call raises
-- the acknowledged epoch. Assumes nothing.
use Prim.Native.Nat.{ℕ, zero, suc, ◌+◌, ◌-◌, ◌*◌, ◌≤◌, ◌<◌}
use mathlib.Core.Path.{◌≡◌, refl, sym, ap, ap₂, ◌∙◌}
use mathlib.Core.Logic.{⊎_elim}
use mathlib.Core.Bool.{Bool, true, false, not}
use mathlib.Core.List.{List, [], ◌∷◌, ◌++◌, append-nil}
use native.Mathlib.Omega.{arith}
use lib.ListN.{length, take, replicate, length-append}
use Rattle.lists.proofs.TestLaws.{eq-or-ne}
use Rattle.records.specs.declared.Reader.TheVariants as reader
use Rattle.records.specs.Kind.{ACK, is_wide, page_kind, commit_kind, body_length, record_length}
use Rattle.records.specs.Message.{Message, message_kind, encode, encode_all}
use Rattle.records.proofs.MessageLaws.{length-message}
use Rattle.records.proofs.KindLaws.{standby-cases, width-range, page-length, commit-length}
use Rattle.settings.specs.declared.Settings.{Settings}
use Rattle.rules.specs.StandbyState.{is_receiving}
use Rattle.rules.specs.PrimaryState.{protected}
use Rattle.rules.specs.World.{World}
use Rattle.rules.specs.World as call
use Rattle.rules.specs.Step.{step}
use Rattle.rules.proofs.PrimaryFacts.{primary-facts}
use Rattle.runs.specs.Run.{Both, steps, run_call, run}
use Rattle.runs.specs.Progress.{whole_record, rounds}
use Rattle.runs.proofs.Effects.{All, Readable}
use Rattle.runs.proofs.KeptLaws.{standby-settings, standby-unit}
use Rattle.runs.proofs.Refused.{refused-world}
use Rattle.runs.proofs.Frame.{Accepted}
use Rattle.runs.proofs.ReadStep.{whole-given}
use Rattle.runs.proofs.ReadTests.{room-enough}
use Rattle.rules.specs.PrimaryState.{written_numbers}
use Rattle.runs.proofs.Walk.{Counts, counts_of, blocks_only}
use Rattle.runs.proofs.Pending.{View, Agree}
use Rattle.runs.proofs.PendingRead.{least-bytes, read_kept}
use Rattle.runs.proofs.PendingAck.{oldest-made, ack-kept}
use Rattle.runs.proofs.FlushFrees.{same_view, flush-agree, read-flushed}
use Rattle.runs.proofs.ProgressProved.{call-agree}
use Rattle.runs.proofs.ExchangeLaws.{Still, still_of, read-still, read-primary, read-less, ack-still, ack-link, flush-still, flush-primary}

-- no record is longer than a PAGE
record-few : (u : ℕ) (wide : Bool) (x : Message) → 64 ≤ u → Readable u wide x → length (encode wide x) ≤ record_length u (page_kind wide)
unfolding record_length body_length
record-few u wide x h f =
    let r = width-range wide in
    let p = page-length u wide in
    let l = standby-cases wide (λ (k : ℕ). record_length u k ≤ record_length u (page_kind wide)) (omega arith) (omega arith) (omega arith) (omega (arith, commit-length u wide)) (message_kind wide x) f.1 in
    omega (arith, length-message u wide x f.0)

none-pending : (u : ℕ) (wide : Bool) (ms : List Message) → 64 ≤ u → All (Readable u wide) ms → length (encode_all wide ms) ≤ 0 → ms ≡ []
none-pending u wide [] low f h = refl
none-pending u wide (x ∷ xs) low f h = absurd (omega (arith, length-append (encode wide x) (encode_all wide xs), least-bytes u wide x low f.0, commit-length u wide))

-- ---- from the drain on: nothing waits, both ends take part, the open epoch stays
module _ (g : Settings) (s : Still) (nothing : s.out ≡ []) (protects : s.alone ≡ false) (receives : s.receiving ≡ true) where
  pub record Drained (b : Both) : Type 0 where
    pub agree : Agree g b
    pub still : still_of b.world ≡ s

  on : (b : Both) → Drained b → is_receiving b.world.standby.state.mode ≡ true
  on b d = ap (λ (x : Still). x.receiving) d.still ∙ receives

  -- the link is what is pending
  link-is : (b : Both) (d : Drained b) → b.world.link ≡ encode_all (is_wide g.m) d.agree.pending.flight.records
  link-is b d =
      let p = d.agree.pending in
      let out = ap (λ (x : Still). x.out) d.still ∙ nothing in
      let alone = ap (λ (x : Still). x.alone) d.still ∙ protects in
      sym (append-nil b.world.link) ∙ ap₂ (λ (x y : List ℕ). b.world.link ++ (x ++ y)) (sym out) (sym (p.flight.lossless alone)) ∙ p.flight.bytes

  -- nothing is on the link: the last closed epoch is received
  pub received_is : (b : Both) → Drained b → length b.world.link ≤ 0 → b.world.standby.state.received + 1 ≡ s.epoch
  received_is b d l =
      let p = d.agree.pending in
      let none = none-pending g.u (is_wide g.m) p.flight.records (standby-settings g b.world.standby d.agree.inv.holds.standby_kept).shared.u-low p.flight.readable (omega (arith, ap length (link-is b d))) in
      let walk : counts_of b.world.standby.state ≡ blocks_only b.world.primary.state.epoch (written_numbers b.world.primary.state) b.world.primary.state.records = rw none at (p.walk (on b d)) in
      ap (λ (c : Counts). c.epoch) walk ∙ ap (λ (x : Still). x.epoch) d.still

  -- ---- rounds
  module _ (budget given : ℕ) (reply : List ℕ) (some : 0 < budget) (long : record_length g.u (page_kind (is_wide g.m)) ≤ given) (room : record_length g.u ACK ≤ length reply) where
    abbrev flushed : Both → Both
    flushed b = run_call steps g.u b (call.flush budget)

    abbrev round_of : Both → Both
    round_of b = run_call steps g.u (flushed b) (call.read given reply)

    -- a round leaves a record less on the link, or none was there
    shorter : (b : Both) (d : Drained b) (ms : List Message) → d.agree.pending.flight.records ≡ ms → length (round_of b).world.link ≤ length b.world.link - record_length g.u (commit_kind (is_wide g.m))
    shorter b d [] e =
        let link = ap (λ (v : View). v.link) (same_view g b d.agree budget) in
        omega (arith, read-less (flushed b).world given reply, ap length link, ap length (link-is b d ∙ ap (encode_all (is_wide g.m)) e))
    shorter b d (x ∷ xs) e =
        let a = d.agree in
        let k = a.inv.holds.standby_kept in
        let is : b.world.link ≡ encode (is_wide g.m) x ++ encode_all (is_wide g.m) xs = link-is b d ∙ ap (encode_all (is_wide g.m)) e in
        let readable : All (Readable g.u (is_wide g.m)) (x ∷ xs) = rw e at a.pending.flight.readable in
        let few = record-few g.u (is_wide g.m) x (standby-settings g b.world.standby k).shared.u-low readable.0 in
        let whole : whole_record (take given b.world.link) ≡ true
        = ap (λ (l : List ℕ). whole_record (take given l)) is ∙ whole-given (reader.Standby (is_wide g.m)) g.u (is_wide g.m) (standby-unit g b.world.standby k) given x (encode_all (is_wide g.m) xs) readable.0 (omega arith) in
        let made = read-flushed g b a (on b d) given reply budget some whole (room-enough g (take given b.world.link) reply room) in
        let f = flush-agree g b a budget in
        let on' = ap (λ (x : Still). x.receiving) (flush-still g b a budget) ∙ on b d in
        omega (arith, (read_kept g (flushed b).world f.inv.holds.standby_kept f.pending on' given reply made).1, ap length (ap (λ (v : View). v.link) (same_view g b a budget)))

    round-drained : (b : Both) → Drained b → Drained (round_of b)
    round-drained b d =
        record {
          agree = call-agree g (call.read given reply) (flushed b) (flush-agree g b d.agree budget);
          still = read-still (flushed b).world given reply ∙ flush-still g b d.agree budget ∙ d.still;
        }

    round-primary : (b : Both) → Drained b → (round_of b).world.primary ≡ b.world.primary
    round-primary b d = read-primary (flushed b).world given reply ∙ flush-primary g b d.agree budget

    -- as many rounds as COMMITs would fit leave none
    pub record Rounds (b next : Both) : Type 0 where
      pub drained : Drained next
      pub primary : next.world.primary ≡ b.world.primary
      pub none : length next.world.link ≤ 0

    pub rounds-law : (k : ℕ) (b : Both) → Drained b → length b.world.link ≤ record_length g.u (commit_kind (is_wide g.m)) * k → Rounds b (run steps g.u b (rounds k budget given reply))
    unfolding record_length body_length
    rounds-law zero b d l = record { drained = d; primary = refl; none = omega arith }
    rounds-law (suc k) b d l =
        let r = rounds-law k (round_of b) (round-drained b d) (omega (arith, shorter b d d.agree.pending.flight.records refl)) in
        record { drained = r.drained; primary = r.primary ∙ round-primary b d; none = r.none }

  -- ---- ACK calls
  module _ (given : ℕ) (long : record_length g.u ACK ≤ given) where
    abbrev acked : Both → Both
    acked b = run_call steps g.u b (call.ack given)

    acked-drained : (b : Both) → Drained b → Drained (acked b)
    acked-drained b d = record { agree = call-agree g (call.ack given) b d.agree; still = ack-still b.world given ∙ d.still }

    -- an ACK call lowers the acknowledged epoch never, and raises it where an ACK is under way
    module _ (b : Both) (d : Drained b) where
      protected-is : protected b.world.primary.state ≡ true
      protected-is = ap not (ap (λ (x : Still). x.alone) d.still ∙ protects)

      raised : Accepted b (call.ack given) → b.world.primary.state.acknowledged < (acked b).world.primary.state.acknowledged
      raised made = (ack-kept g b d.agree.inv d.agree.pending protected-is given made).1

      not_lower : b.world.primary.state.acknowledged ≤ (acked b).world.primary.state.acknowledged
      not_lower =
          ⊎_elim (λ made. let r = raised made in omega arith)
          (λ (ne : Accepted b (call.ack given) → ⊥). omega (arith, ap (λ (w : World). w.primary.state.acknowledged) (refused-world b.world (call.ack given) ne)))
          (eq-or-ne (step b.world (call.ack given)).outcome.number 0)

      nearer : length b.world.link ≤ 0 → (j : ℕ) → s.epoch ≤ b.world.primary.state.acknowledged + 1 + suc j → (es : List ℕ) → d.agree.pending.trail.epochs ≡ es
          → s.epoch ≤ (acked b).world.primary.state.acknowledged + 1 + j
      nearer l j h [] e =
          let last : b.world.primary.state.acknowledged + 1 ≡ b.world.standby.state.received + 1 = rw e at d.agree.pending.trail.leads in
          omega (arith, not_lower, received_is b d l)
      nearer l j h (x ∷ es) e = omega (arith, raised (oldest-made g b d.agree.inv d.agree.pending protected-is given x es e long))

    pub record Acknowledged (next : Both) : Type 0 where
      pub drained : Drained next
      pub none : length next.world.link ≤ 0
      pub last : next.world.primary.state.acknowledged + 1 ≡ s.epoch

    pub acks-law : (j : ℕ) (b : Both) → Drained b → length b.world.link ≤ 0 → s.epoch ≤ b.world.primary.state.acknowledged + 1 + j
        → Acknowledged (run steps g.u b (replicate j (call.ack given)))
    acks-law zero b d l h =
        let p = b.world.primary.state in
        let below = (primary-facts p d.agree.inv.holds.primary_kept.reached.range.in_range).acknowledged in
        let epoch = ap (λ (x : Still). x.epoch) d.still in
        record { drained = d; none = l; last = omega arith }
    acks-law (suc j) b d l h =
        acks-law j (acked b) (acked-drained b d) (omega (arith, ap length (ack-link b.world given))) (nearer b d l j h d.agree.pending.trail.epochs refl)
