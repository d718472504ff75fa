-- An accepted tick of the primary keeps the invariant. Assumes nothing.
use Prim.Native.Nat.{ℕ, ◌+◌, ◌≤◌, ◌<◌}
use mathlib.Core.Path.{◌≡◌, refl, sym, ap, ◌∙◌, subst}
use mathlib.Core.Logic.{⊎_elim}
use mathlib.Core.Bool.{Bool, true, false, cond, not, true≢false}
use mathlib.Core.List.{List, [], ◌++◌}
use native.Mathlib.Omega.{arith}
use lib.Dec.{leb}
use lib.ListN.{length, take}
use borrow.Author.Tests.{not-false, eqb-true, eq-eqb, ne_eqb, lt-ltb, le-ltb, le-leb, lt-leb, leb-true}
use Rattle.lists.proofs.TestLaws.{by-test, lt-or-ge, eq-or-ne}
use Rattle.settings.specs.declared.Settings.{Settings}
use Rattle.detector.specs.Tick.{with_count}
use Rattle.rules.specs.declared.Primary.{Primary}
use Rattle.rules.specs.PrimaryState.{with_detector_alone_waiting}
use Rattle.rules.specs.PrimaryTick.{outstanding, primary_tick_state, primary_tick_reply}
use Rattle.rules.specs.Reached.{PrimaryReached}
use Rattle.rules.specs.World as call
use Rattle.rules.specs.Step.{at_primary, step}
use Rattle.rules.proofs.PrimaryFacts.{primary-facts}
use Rattle.rules.proofs.PrimaryTickLaws.{tick-alone, tick-rests, tick-counts, tick-leaves, tick-reached}
use Rattle.runs.specs.Plain.{unacknowledged, with_counts, plain_accepted, plain_step}
use Rattle.runs.specs.Run.{Both, steps, run_call}
use Rattle.runs.proofs.Invariant.{Inv}
use Rattle.runs.proofs.Conclusions.{received-exists, acknowledged-received}
use Rattle.runs.proofs.Frame.{Accepted, KeepsAccepted}

-- the pair with this state and this plain count
abbrev pub after : Primary → ℕ → Both → Both
after s n b =
    let p = b.world.primary in
    record {
      world = at_primary b.world (record { state = s; memory = p.memory; disk = p.disk; dirty = p.dirty; held = p.held; stream = p.stream });
      plain = with_counts b.plain b.plain.r b.plain.a n;
    }

pub after_is : (u : ℕ) (b : Both) → Accepted b call.primary_tick
    → run_call steps u b call.primary_tick ≡ after (primary_tick_state b.world.primary.state) (cond (unacknowledged b.plain) (b.plain.count + 1) b.plain.count) b
unfolding step primary_tick_reply plain_step plain_accepted
after_is u b e = rw (eq-eqb _ _ e)

module _ (g : Settings) (b : Both) (i : Inv g b) where
  abbrev state : Primary
  state = b.world.primary.state

  -- "a closed epoch is unacknowledged": both say the same
  outstanding-is : outstanding b.world.primary.state ≡ unacknowledged b.plain
  outstanding-is =
      let p = b.world.primary.state in
      let n = length b.plain.checkpoints in
      let a = i.holds.detector.acknowledged_is in
      let c = i.holds.history.count in
      let l = acknowledged-received g b i in
      let r = received-exists g b i in
      ⊎_elim
      (λ (e : b.plain.a + 1 ≡ n). le-ltb (p.acknowledged + 1) p.epoch (omega arith) ∙ sym (ap not (eq-eqb (b.plain.a + 1) n e)))
      (λ (e : b.plain.a + 1 ≡ n → ⊥). lt-ltb (p.acknowledged + 1) p.epoch (omega arith) ∙ sym (ap not (ne_eqb (b.plain.a + 1) n e)))
      (eq-or-ne (b.plain.a + 1) n)

  -- any tick: the primary's count c, alone and what waits, the plain count n, and the bytes lost
  module _ (c n waiting : ℕ) (alone : Bool) (lost : List ℕ)
      (bytes : take waiting b.world.primary.stream ++ lost ≡ take b.world.primary.state.waiting b.world.primary.stream ++ i.ghost.lost)
      (lossless : alone ≡ false → lost ≡ [])
      (protects : alone ≡ false → b.world.primary.state.alone ≡ false)
      (alone_is : alone ≡ leb g.t n)
      (count_is : alone ≡ false → c ≡ n)
      (quiet : b.plain.a + 1 ≡ length b.plain.checkpoints → n ≡ 0)
      (reached : PrimaryReached (with_detector_alone_waiting b.world.primary.state (with_count b.world.primary.state.detector c) alone waiting)) where
    tick-inv : Inv g (after (with_detector_alone_waiting b.world.primary.state (with_count b.world.primary.state.detector c) alone waiting) n b)
    tick-inv =
        let v = i.holds in
        let h = i.ghost in
        let k = v.primary_kept in
        record {
          ghost = record { base = h.base; ahead = h.ahead; opened = h.opened; consumed = h.consumed; pending = h.pending; lost = lost; acks = h.acks };
          holds = record {
            history = v.history;
            link = record {
              records = v.link.records;
              bytes = ap (λ (l : List ℕ). b.world.link ++ l) bytes ∙ v.link.bytes;
              lossless = lossless;
              readable = v.link.readable;
              consumed_before = v.link.consumed_before;
              ahead_before = v.link.ahead_before;
              opened_before = v.link.opened_before;
            };
            images = record {
              memory_is = v.images.memory_is;
              disk_is = v.images.disk_is;
              size = v.images.size;
              clean = v.images.clean;
              stored = λ z. v.images.stored (protects z);
            };
            detector = record {
              acknowledged_is = v.detector.acknowledged_is;
              rising = v.detector.rising;
              acks_are = v.detector.acks_are;
              alone_is = alone_is;
              count_is = count_is;
              quiet = quiet;
            };
            packets = v.packets;
            taker = v.taker;
            primary_kept = record {
              settings = k.settings;
              patience = k.patience;
              reached = reached;
              memory = k.memory;
              disk = k.disk;
              dirty = k.dirty;
              held = k.held;
              stream = k.stream;
            };
            standby_kept = v.standby_kept;
          };
        }

  -- alone: only the plain count goes on
  alone-inv : state.alone ≡ true → (n : ℕ) → b.plain.count ≤ n → (b.plain.a + 1 ≡ length b.plain.checkpoints → n ≡ 0) → Inv g (after b.world.primary.state n b)
  alone-inv a n l q =
      let p = b.world.primary.state in
      let t : g.t ≤ b.plain.count = leb-true g.t b.plain.count (sym i.holds.detector.alone_is ∙ a) in
      tick-inv p.detector.count n p.waiting p.alone i.ghost.lost refl
      (λ z. absurd (true≢false (sym a ∙ z))) (λ z. z) (a ∙ sym (le-leb g.t n (omega arith))) (λ z. absurd (true≢false (sym a ∙ z))) q i.holds.primary_kept.reached

  -- protected, and still so after the tick
  watched-inv : state.alone ≡ false → (n : ℕ) → n < g.t → (b.plain.a + 1 ≡ length b.plain.checkpoints → n ≡ 0)
      → PrimaryReached (with_detector_alone_waiting b.world.primary.state (with_count b.world.primary.state.detector n) false b.world.primary.state.waiting)
      → Inv g (after (with_detector_alone_waiting b.world.primary.state (with_count b.world.primary.state.detector n) false b.world.primary.state.waiting) n b)
  watched-inv a n l q r =
      tick-inv n n b.world.primary.state.waiting false i.ghost.lost refl (λ z. i.holds.link.lossless a) (λ z. a) (sym (lt-leb g.t n l)) (λ z. refl) q r

  -- the tick at which the primary becomes alone: what waits is lost
  full-inv : (n : ℕ) → n ≡ g.t → (b.plain.a + 1 ≡ length b.plain.checkpoints → n ≡ 0)
      → PrimaryReached (with_detector_alone_waiting b.world.primary.state (with_count b.world.primary.state.detector n) true 0)
      → Inv g (after (with_detector_alone_waiting b.world.primary.state (with_count b.world.primary.state.detector n) true 0) n b)
  full-inv n l q r =
      tick-inv n n 0 true (take b.world.primary.state.waiting b.world.primary.stream ++ i.ghost.lost) refl
      (λ z. absurd (true≢false z)) (λ z. absurd (true≢false z)) (sym (le-leb g.t n (omega arith))) (λ z. absurd (true≢false z)) q r

  -- ---- the three, by what the tick finds
  abbrev Kept : Primary → ℕ → Type 0
  Kept s n = Inv g (after s n b)

  by_state : (s : Primary) (n : ℕ) → primary_tick_state b.world.primary.state ≡ s → (PrimaryReached s → Kept s n) → Kept (primary_tick_state b.world.primary.state) n
  by_state s n is f =
      let p = b.world.primary.state in
      subst (λ (x : Primary). Kept x n) (sym is) (f (subst PrimaryReached is (tick-reached p i.holds.primary_kept.reached)))

  by-alone : state.alone ≡ true → (o : Bool) → unacknowledged b.plain ≡ o → Kept (primary_tick_state b.world.primary.state) (cond o (b.plain.count + 1) b.plain.count)
  by-alone a true e =
      by_state state (b.plain.count + 1) (tick-alone state a) (λ r. alone-inv a (b.plain.count + 1) (omega arith) (λ z. absurd (true≢false (sym e ∙ ap not (eq-eqb _ _ z)))))
  by-alone a false e =
      by_state state b.plain.count (tick-alone state a) (λ r. alone-inv a b.plain.count (omega arith) i.holds.detector.quiet)

  by-watched : state.alone ≡ false → (o : Bool) → unacknowledged b.plain ≡ o → Kept (primary_tick_state b.world.primary.state) (cond o (b.plain.count + 1) b.plain.count)
  by-watched a true e =
      let p = b.world.primary.state in
      let n = b.plain.count + 1 in
      let same : p.detector.count + 1 ≡ n = ap (λ (x : ℕ). x + 1) (i.holds.detector.count_is a) in
      let o : outstanding p ≡ true = outstanding-is ∙ e in
      let t = i.holds.primary_kept.patience in
      let quiet : b.plain.a + 1 ≡ length b.plain.checkpoints → n ≡ 0 = λ z. absurd (true≢false (sym e ∙ ap not (eq-eqb _ _ z))) in
      let low : p.detector.count < p.detector.patience = (primary-facts p i.holds.primary_kept.reached.range.in_range).detector.below (ap not a) in
      ⊎_elim
      (λ (h : p.detector.count + 1 < p.detector.patience).
      by_state (with_detector_alone_waiting p (with_count p.detector n) false p.waiting) n
      (tick-counts p a low o h ∙ ap (λ (x : ℕ). with_detector_alone_waiting p (with_count p.detector x) false p.waiting) same)
      (watched-inv a n (omega arith) quiet))
      (λ (h : p.detector.patience ≤ p.detector.count + 1).
      by_state (with_detector_alone_waiting p (with_count p.detector n) true 0) n
      (tick-leaves p a low o h ∙ ap (λ (x : ℕ). with_detector_alone_waiting p (with_count p.detector x) true 0) same)
      (full-inv n (omega arith) quiet))
      (lt-or-ge (p.detector.count + 1) p.detector.patience)
  by-watched a false e =
      let p = b.world.primary.state in
      let n = b.plain.count in
      let t = i.holds.primary_kept.patience in
      let d = (primary-facts p i.holds.primary_kept.reached.range.in_range).detector in
      let none : n ≡ 0 = i.holds.detector.quiet (eqb-true (b.plain.a + 1) (length b.plain.checkpoints) (not-false _ e)) in
      by_state (with_detector_alone_waiting p (with_count p.detector n) false p.waiting) n
      (tick-rests p a (d.below (ap not a)) (outstanding-is ∙ e) ∙ ap (λ (x : ℕ). with_detector_alone_waiting p (with_count p.detector x) false p.waiting) (sym none))
      (watched-inv a n (omega (arith, d.t-low)) (λ z. none))

pub primary-tick-keeps : (g : Settings) → KeepsAccepted g call.primary_tick
primary-tick-keeps g b i e =
    let o = unacknowledged b.plain in
    subst (Inv g) (sym (after_is g.u b e))
    (⊎_elim (λ a. by-alone g b i a o refl) (λ a. by-watched g b i a o refl) (by-test b.world.primary.state.alone))
