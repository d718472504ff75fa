-- Laws of the primary's tick: the new state in each case, and that the ranges are kept. Assumes nothing.
use mathlib.Core.Path.{◌≡◌, refl, ◌∙◌}
use mathlib.Core.Bool.{Bool, true, false, cond, not, true≢false}
use Prim.Native.Nat.{ℕ, ◌+◌, ◌≤◌, ◌<◌}
use native.Mathlib.Nat.{le_refl}
use native.Mathlib.Omega.{arith}
use borrow.Author.Tests.{not-true, le-leb, lt-leb}
use Rattle.detector.specs.Tick.{with_count, reset, expired, ticked}
use Rattle.detector.proofs.TickLaws.{ticked-counts, ticked-rests}
use Rattle.rules.specs.declared.Primary.{Primary}
use Rattle.rules.specs.PrimaryState.{protected, with_detector_alone_waiting}
use Rattle.rules.specs.PrimaryTick.{outstanding, alone_at, primary_tick_state}
use Rattle.rules.specs.Reached.{PrimaryInRange, PrimaryReached}
use Rattle.rules.proofs.DetectorFacts.{ticked-facts}
use Rattle.rules.proofs.PrimaryFacts.{primary-facts, primary-of}

module _ (p : Primary) where
  -- "Once alone, a tick changes nothing"
  pub tick-alone : p.alone ≡ true → primary_tick_state p ≡ p
  unfolding primary_tick_state
  tick-alone e = rw e

  pub tick-protected : p.alone ≡ false → primary_tick_state p ≡ alone_at p (ticked p.detector (outstanding p))
  unfolding primary_tick_state
  tick-protected e = rw e

  -- under protection, as long as the count has not reached T
  module _ (on : p.alone ≡ false) (below : p.detector.count < p.detector.patience) where
    not-expired : expired p.detector ≡ false
    not-expired = lt-leb p.detector.patience p.detector.count below

    -- "and while nothing is outstanding": the count is 0
    pub tick-rests : outstanding p ≡ false → primary_tick_state p ≡ with_detector_alone_waiting p (reset p.detector) false p.waiting
    tick-rests o =
        tick-protected on
        ∙ rw (o, ticked-rests p.detector not-expired, lt-leb p.detector.patience 0 (omega arith))

    -- "counts while a closed epoch is unacknowledged"
    pub tick-counts : outstanding p ≡ true → p.detector.count + 1 < p.detector.patience
        → primary_tick_state p ≡ with_detector_alone_waiting p (with_count p.detector (p.detector.count + 1)) false p.waiting
    tick-counts o h =
        tick-protected on
        ∙ rw (o, ticked-counts p.detector not-expired, lt-leb p.detector.patience (p.detector.count + 1) h)

    -- "At T the primary is alone: the waiting stream is dropped"
    pub tick-leaves : outstanding p ≡ true → p.detector.patience ≤ p.detector.count + 1
        → primary_tick_state p ≡ with_detector_alone_waiting p (with_count p.detector (p.detector.count + 1)) true 0
    tick-leaves o h =
        tick-protected on
        ∙ rw (o, ticked-counts p.detector not-expired, le-leb p.detector.patience (p.detector.count + 1) h)

-- ---- what a tick leaves is in range, and reached

-- a fact that is kept with the detector ticked
module _ (P : Primary → Type 0) (p : Primary) (r : P p)
    (watched : (alone : Bool) (waiting : ℕ) → waiting ≤ p.waiting → (alone ≡ false → expired (ticked p.detector (outstanding p)) ≡ false)
    → P (with_detector_alone_waiting p (ticked p.detector (outstanding p)) alone waiting)) where
  tick-kept : P (primary_tick_state p)
  unfolding primary_tick_state
  tick-kept = go p.alone (expired (ticked p.detector (outstanding p))) refl
    where
      go : (a x : Bool) → expired (ticked p.detector (outstanding p)) ≡ x
          → P (cond a p (cond x (with_detector_alone_waiting p (ticked p.detector (outstanding p)) true 0) (with_detector_alone_waiting p (ticked p.detector (outstanding p)) false p.waiting)))
      go true x e = r
      go false true e = watched true 0 (omega arith) (λ w. absurd (true≢false w))
      go false false e = watched false p.waiting (le_refl p.waiting) (λ w. e)

module _ (p : Primary) where
  watched-in-range : PrimaryInRange p → (alone : Bool) (waiting : ℕ) → waiting ≤ p.waiting → (alone ≡ false → expired (ticked p.detector (outstanding p)) ≡ false)
      → PrimaryInRange (with_detector_alone_waiting p (ticked p.detector (outstanding p)) alone waiting)
  watched-in-range r alone waiting h below =
      let f = primary-facts p r.in_range in
      record {
        in_range = primary-of (with_detector_alone_waiting p (ticked p.detector (outstanding p)) alone waiting)
            (record {
              settings = f.settings;
              queue = f.queue;
              acknowledged = f.acknowledged;
              waiting = omega (arith, f.waiting, h);
              blocks = f.blocks;
              records = f.records;
              detector = ticked-facts p.detector (protected p) f.detector (outstanding p) (not alone) (λ w. below (not-true alone w));
            });
        packets = r.packets;
        numbers = r.numbers;
      }

  pub tick-in-range : PrimaryInRange p → PrimaryInRange (primary_tick_state p)
  tick-in-range r = tick-kept PrimaryInRange p r (watched-in-range r)

  pub tick-reached : PrimaryReached p → PrimaryReached (primary_tick_state p)
  tick-reached r =
      tick-kept PrimaryReached p r
      (λ alone waiting h below. record { range = watched-in-range r.range alone waiting h below; different = r.different; records_high = r.records_high })
