-- What the range of a detector says, by name, and back; a tick and a reset keep it. Assumes nothing.
use mathlib.Core.Path.{◌≡◌, refl}
use mathlib.Core.Bool.{Bool, true, false, ◌&&◌, not, false≢true}
use Prim.Native.Nat.{◌≤◌, ◌<◌}
use native.Mathlib.Omega.{arith}
use lib.Dec.{leb}
use borrow.Author.Tests.{leb-true, leb-false, le-leb, lt-leb}
use Rattle.lists.proofs.TestLaws.{both, join, within-facts, within_of}
use Rattle.settings.specs.Range.{patience_ok}
use Rattle.detector.specs.declared.Detector.{Detector}
use Rattle.detector.specs.Tick.{reset, expired, ticked}
use Rattle.detector.proofs.TickLaws.{ticked-patience, ticked-le}
use Rattle.detector.specs.Range.{detector_ok}

pub record DetectorFacts (d : Detector) (watching : Bool) : Type 0 where
  pub t-low : 1 ≤ d.patience
  pub t-high : d.patience ≤ 60000
  pub count-high : d.count ≤ d.patience
  -- "or at T while still protected or receiving"
  pub below : watching ≡ true → d.count < d.patience

module _ (d : Detector) (watching : Bool) where
  below-of-test : (w : Bool) → not (w && expired d) ≡ true → w ≡ true → d.count < d.patience
  below-of-test true e h = go (expired d) refl e
    where
      go : (t : Bool) → expired d ≡ t → not t ≡ true → d.count < d.patience
      go true x y = absurd (false≢true y)
      go false x y = leb-false d.patience d.count x
  below-of-test false e h = absurd (false≢true h)

  test-of-below : (w : Bool) → (w ≡ true → d.count < d.patience) → not (w && expired d) ≡ true
  test-of-below true h = let l = h refl in rw (lt-leb d.patience d.count l)
  test-of-below false h = refl

  pub detector-facts : detector_ok d watching ≡ true → DetectorFacts d watching
  unfolding detector_ok
  detector-facts e =
      let p = both (patience_ok d.patience && leb d.count d.patience) (not (watching && expired d)) e in
      let q = both (patience_ok d.patience) (leb d.count d.patience) p.0 in
      let t = within-facts 1 60000 d.patience q.0 in
      record { t-low = t.0; t-high = t.1; count-high = leb-true d.count d.patience q.1; below = below-of-test watching p.1 }

  pub detector-of : DetectorFacts d watching → detector_ok d watching ≡ true
  unfolding detector_ok
  detector-of f =
      join _ _
      (join _ _ (within_of 1 60000 d.patience f.t-low f.t-high) (le-leb d.count d.patience f.count-high))
      (test-of-below watching f.below)

  module _ (f : DetectorFacts d watching) where
    pub reset-facts : DetectorFacts (reset d) watching
    reset-facts = record { t-low = f.t-low; t-high = f.t-high; count-high = omega arith; below = λ _. f.t-low }

    -- whether its ticks still count after this one or not: below the patience where they do
    pub ticked-facts : (outstanding still : Bool) → (still ≡ true → expired (ticked d outstanding) ≡ false) → DetectorFacts (ticked d outstanding) still
    ticked-facts outstanding still h =
        let p = ticked-patience d outstanding in
        record {
          t-low = omega (arith, p, f.t-low);
          t-high = omega (arith, p, f.t-high);
          count-high = ticked-le d outstanding f.count-high;
          below = λ e. leb-false _ _ (h e);
        }
