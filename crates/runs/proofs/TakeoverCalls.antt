-- "T standby ticks, a flush of all due and activation, added to the list, activate a standby not yet active". Assumes nothing.
use Prim.Native.Nat.{ℕ, zero, suc, ◌+◌, ◌≤◌, ◌<◌}
use mathlib.Core.Path.{◌≡◌, refl, sym, ap, ◌∙◌, subst}
use mathlib.Core.Logic.{◌⊎◌, inl, inr, ⊎_elim}
use mathlib.Core.Bool.{true, false, true≢false}
use mathlib.Core.List.{List, [], ◌∷◌, ◌++◌}
use native.Mathlib.Omega.{arith}
use lib.ListN.{length, replicate}
use borrow.Author.Tests.{eq-eqb, lt-leb}
use Rattle.lists.proofs.TestLaws.{by-test}
use Rattle.settings.specs.declared.Settings.{Settings}
use Rattle.staging.specs.Slot.{flushed, only_due}
use Rattle.detector.specs.declared.Detector.{Detector}
use Rattle.detector.specs.Tick.{expired, ticked}
use Rattle.detector.proofs.TickLaws.{ticked-counts}
use Rattle.rules.specs.declared.Mode.{Mode}
use Rattle.rules.specs.declared.Mode.TheVariants.{Receiving, TakingOver, Active}
use Rattle.rules.specs.declared.Standby.{Standby}
use Rattle.rules.specs.StandbyState.{is_receiving, is_taking_over, is_active}
use Rattle.rules.specs.Flush.{flush_reply}
use Rattle.rules.specs.Takeover.{standby_tick_state, standby_tick_reply, activation_reply}
use Rattle.rules.specs.World.{Call}
use Rattle.rules.specs.World as call
use Rattle.rules.specs.Step.{step}
use Rattle.rules.proofs.StandbyFacts.{standby-facts}
use Rattle.rules.proofs.FlushLaws.{flush-accepts}
use Rattle.rules.proofs.TakeoverLaws.{tick-accepts, activation-accepts, tick-rests, tick-counts, tick-takes-over}
use Rattle.runs.specs.Plain.{Plain, Checkpoint, received_checkpoint}
use Rattle.runs.specs.Run.{Both, Steps, steps, run_call, run}
use Rattle.runs.specs.Demand3.{active, ticks_and_flush, takeover_calls, AllAccepted, TakeoverRight}
use Rattle.runs.proofs.Invariant.{StandbyKept, Inv}
use Rattle.runs.proofs.Conclusions.{standby-right}
use Rattle.runs.proofs.ModeLaws.{taking-not-receiving}
use Rattle.runs.proofs.KeptLaws.{lent-disk, lent-marks, lent-blocks}
use Rattle.runs.proofs.StandbyTick.{standby-tick-keeps}
use Rattle.runs.proofs.StandbyTick as tick
use Rattle.runs.proofs.Flush.{flush-keeps}
use Rattle.runs.proofs.Flush as flush
use Rattle.runs.proofs.Activation.{activation-keeps}
use Rattle.runs.proofs.PlainLaws.{run-append, Activated, activation-plain}
use Rattle.runs.proofs.Frame.{Accepted, TakeoverLaw}

-- ---- lists of calls, one after the other
module _ (κ : Steps) (u : ℕ) where
  accepted-append : (xs ys : List Call) (b : Both) → AllAccepted κ b.world xs → AllAccepted κ (run κ u b xs).world ys → AllAccepted κ b.world (xs ++ ys)
  accepted-append [] ys b f h = h
  accepted-append (x ∷ xs) ys b f h = (f.0, accepted-append xs ys (run_call κ u b x) f.1 h)

module _ (g : Settings) where
  -- ---- each of the calls is accepted
  module _ (b : Both) (k : StandbyKept g b.world.standby) where
    tick-accepted : Accepted b call.standby_tick
    unfolding step standby_tick_reply
    tick-accepted = let e = b.world.standby in tick-accepts e.state (length e.staged_marks) (record { in_range = k.reached.range.in_range; marks_lent = lent-marks g e k })

    pub flush-accepted : (n : ℕ) → Accepted b (call.flush n)
    unfolding step flush_reply
    flush-accepted n =
        let e = b.world.standby in
        flush-accepts e.state (length e.staged_blocks) (length e.disk) (record { in_range = k.reached.range.in_range; slots_lent = lent-blocks g e k; disk_lent = lent-disk g e k })

    activation-accepted : is_taking_over b.world.standby.state.mode ≡ true → b.world.standby.state.slots.due ≡ 0 → Accepted b call.activation
    unfolding step activation_reply
    activation-accepted t z =
        let e = b.world.standby in
        activation-accepts e.state (length e.area) (record { in_range = k.reached.range.in_range; area_lent = k.area; taking_over = t; none_due = z })

  -- its value is the last received epoch
  activation-value : (b : Both) → Accepted b call.activation → (step b.world call.activation).outcome.value ≡ b.world.standby.state.received
  unfolding step activation_reply
  activation-value b e = rw (eq-eqb _ _ e)

  -- ---- one tick
  -- takes over, or receives and will have counted to T after k ticks
  abbrev Waits : ℕ → Standby → Type 0
  Waits k s = (is_taking_over s.mode ≡ true) ⊎ ((is_receiving s.mode ≡ true) × (g.t ≤ s.detector.count + k))

  record Ticked (k due : ℕ) (s : Standby) : Type 0 where
    waits : Waits k s
    same : s.slots.due ≡ due

  module _ (s : Standby) (k : ℕ) (fresh : is_receiving s.mode ≡ true → expired s.detector ≡ false) where
    one-tick : Waits (suc k) s → Ticked k s.slots.due (standby_tick_state s)
    unfolding only_due
    one-tick (inl t) = subst (Ticked k s.slots.due) (sym (tick-rests s (taking-not-receiving s.mode t)).0) (record { waits = inl t; same = refl })
    one-tick (inr h) =
        ⊎_elim
        (λ (y : expired (ticked s.detector true) ≡ true). subst (Ticked k s.slots.due) (sym (tick-takes-over s h.0 y).0) (record { waits = inl refl; same = refl }))
        (λ (y : expired (ticked s.detector true) ≡ false).
        let c = ap (λ (d : Detector). d.count) (ticked-counts s.detector (fresh h.0)) in
        subst (Ticked k s.slots.due) (sym (tick-counts s h.0 y).0) (record { waits = inr (h.0, omega (arith, h.1, c)); same = refl }))
        (by-test (expired (ticked s.detector true)))

  -- ---- k ticks
  record After (b : Both) (calls : List Call) (due : ℕ) (b' : Both) : Type 0 where
    accepted : AllAccepted steps b.world calls
    inv : Inv g b'
    takes : is_taking_over b'.world.standby.state.mode ≡ true
    same : b'.world.standby.state.slots.due ≡ due
    plain : b'.plain ≡ b.plain

  fresh_at : (b : Both) → Inv g b → is_receiving b.world.standby.state.mode ≡ true → b.world.standby.state.detector.count < g.t
  fresh_at b i on =
      let s = b.world.standby.state in
      let k = i.holds.standby_kept in
      let d = (standby-facts s k.reached.range.in_range).detector in
      omega (arith, d.below on, k.patience)

  after-ticks : (k : ℕ) (b : Both) → Inv g b → Waits k b.world.standby.state → After b (replicate k call.standby_tick) b.world.standby.state.slots.due (run steps g.u b (replicate k call.standby_tick))
  after-ticks zero b i (inl t) = record { accepted = tt; inv = i; takes = t; same = refl; plain = refl }
  after-ticks zero b i (inr h) = absurd (omega (arith, fresh_at b i h.0, h.1))
  after-ticks (suc k) b i w =
      let s = b.world.standby.state in
      let a = tick-accepted b i.holds.standby_kept in
      let b₁ = run_call steps g.u b call.standby_tick in
      let is = tick.after_is g.u b a in
      let t = one-tick s k (λ on. lt-leb s.detector.patience s.detector.count (omega (arith, fresh_at b i on, i.holds.standby_kept.patience))) w in
      let t₁ : Ticked k s.slots.due b₁.world.standby.state = subst (λ (x : Both). Ticked k s.slots.due x.world.standby.state) (sym is) t in
      let p₁ : b₁.plain ≡ b.plain = ap (λ (x : Both). x.plain) is in
      let r = after-ticks k b₁ (standby-tick-keeps g b i a) t₁.waits in
      record { accepted = (a, r.accepted); inv = r.inv; takes = r.takes; same = r.same ∙ t₁.same; plain = r.plain ∙ p₁ }

  -- ---- the flush: nothing stays due
  record Flushed (b b' : Both) : Type 0 where
    takes : is_taking_over b'.world.standby.state.mode ≡ true
    none : b'.world.standby.state.slots.due ≡ 0
    plain : b'.plain ≡ b.plain

  after-flush : (b : Both) (n : ℕ) → Accepted b (call.flush n) → is_taking_over b.world.standby.state.mode ≡ true → b.world.standby.state.slots.due ≤ n
      → Flushed b (run_call steps g.u b (call.flush n))
  unfolding flushed
  after-flush b n a t l = subst (Flushed b) (sym (flush.after_is n g.u b a)) (record { takes = t; none = omega arith; plain = refl })

  -- ---- a standby that is taking over already: a flush of all due and the activation, whose value is checkpoint r
  pub record TakenOver (b : Both) (n : ℕ) : Type 0 where
    pub accepted : Accepted (run_call steps g.u b (call.flush n)) call.activation
    pub value : (step (run_call steps g.u b (call.flush n)).world call.activation).outcome.value ≡ b.plain.r
    pub received : (run_call steps g.u (run_call steps g.u b (call.flush n)) call.activation).plain.r ≡ b.plain.r

  pub taken-over : (b : Both) → Inv g b → is_taking_over b.world.standby.state.mode ≡ true → (n : ℕ) → b.world.standby.state.slots.due ≤ n → TakenOver b n
  taken-over b i t n l =
      let b₂ = run_call steps g.u b (call.flush n) in
      let a₂ = flush-accepted b i.holds.standby_kept n in
      let f : Flushed b b₂ = after-flush b n a₂ t l in
      let i₂ : Inv g b₂ = flush-keeps g n b i a₂ in
      let a₃ = activation-accepted b₂ i₂.holds.standby_kept f.takes f.none in
      let r = i₂.holds.taker.received_is ∙ ap (λ (p : Plain). p.r) f.plain in
      record { accepted = a₃; value = activation-value b₂ a₃ ∙ r; received = (activation-plain g.u b₂ a₃).received ∙ ap (λ (p : Plain). p.r) f.plain }

  -- ---- all of them
  waits-of : (m : Mode) (count : ℕ) → is_active m ≡ false → (is_taking_over m ≡ true) ⊎ ((is_receiving m ≡ true) × (g.t ≤ count + g.t))
  waits-of Receiving count e = inr (refl, omega arith)
  waits-of TakingOver count e = inl refl
  waits-of Active count e = absurd (true≢false e)

  takeover-at : (b : Both) → Inv g b → active b.world ≡ false → (n : ℕ) → b.world.standby.state.slots.due ≤ n → TakeoverRight steps g b n
  takeover-at b i off n l =
      let ticks = replicate g.t call.standby_tick in
      let b₁ = run steps g.u b ticks in
      let b₂ = run_call steps g.u b₁ (call.flush n) in
      let b₃ = run_call steps g.u b₂ call.activation in
      let r : After b ticks b.world.standby.state.slots.due b₁ = after-ticks g.t b i (waits-of b.world.standby.state.mode b.world.standby.state.detector.count off) in
      let a₂ = flush-accepted b₁ r.inv.holds.standby_kept n in
      let f : Flushed b₁ b₂ = after-flush b₁ n a₂ r.takes (omega (arith, r.same)) in
      let i₂ : Inv g b₂ = flush-keeps g n b₁ r.inv a₂ in
      let a₃ = activation-accepted b₂ i₂.holds.standby_kept f.takes f.none in
      let t : Activated b₂.plain b₃.plain = activation-plain g.u b₂ a₃ in
      let i₃ : Inv g b₃ = activation-keeps g b₂ i₂ a₃ in
      let c = standby-right g b₃ i₃ in
      let on : active b₃.world ≡ true = c.same ∙ t.activated in
      let plain : b₂.plain ≡ b.plain = f.plain ∙ r.plain in
      let flushes : run steps g.u b (ticks_and_flush g.t n) ≡ b₂ = run-append steps g.u ticks (call.flush n ∷ []) b in
      let all : run steps g.u b (takeover_calls g.t n) ≡ b₃
      = run-append steps g.u (ticks_and_flush g.t n) (call.activation ∷ []) b ∙ ap (λ (x : Both). run_call steps g.u x call.activation) flushes in
      let back = sym all in
      record {
        accepted =
            accepted-append steps g.u (ticks_and_flush g.t n) (call.activation ∷ []) b
            (accepted-append steps g.u ticks (call.flush n ∷ []) b r.accepted (a₂, tt))
            (subst (λ (x : Both). AllAccepted steps x.world (call.activation ∷ [])) (sym flushes) (a₃, tt));
        activates = subst (λ (x : Both). active x.world ≡ true) back on;
        value =
            ap (λ (x : Both). (step x.world call.activation).outcome.value) flushes
            ∙ activation-value b₂ a₃
            ∙ i₂.holds.taker.received_is
            ∙ ap (λ (p : Plain). p.r) plain;
        memory = subst (λ (x : Both). x.world.standby.memory ≡ (received_checkpoint b.plain).memory) back
            (c.memory on ∙ t.memory ∙ ap (λ (p : Plain). (received_checkpoint p).memory) plain);
        disk = subst (λ (x : Both). x.world.standby.disk ≡ (received_checkpoint b.plain).disk) back
            (c.disk on ∙ t.disk ∙ ap (λ (p : Plain). (received_checkpoint p).disk) plain);
        processor = subst (λ (x : Both). x.world.standby.state.processor ≡ (received_checkpoint b.plain).processor) back
            (c.processor on ∙ ap (λ (y : Checkpoint). y.processor) t.checkpoint ∙ ap (λ (p : Plain). (received_checkpoint p).processor) plain);
      }

pub takeover-law : (g : Settings) → TakeoverLaw g
takeover-law g b i off n l = takeover-at g b i off n l
