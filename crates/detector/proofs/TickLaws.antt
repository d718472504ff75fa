-- The laws of the tick, in each case. Assumes nothing.
use mathlib.Core.Path.{◌≡◌, refl}
use mathlib.Core.Bool.{Bool, true, false}
use Prim.Native.Nat.{◌+◌, ◌≤◌}
use native.Mathlib.Omega.{arith}
use borrow.Author.Tests.{leb-false}
use Rattle.detector.specs.declared.Detector.{Detector}
use Rattle.detector.specs.Tick.{with_count, expired, ticked}

module _ (d : Detector) where
  pub ticked-expired : (outstanding : Bool) → expired d ≡ true → ticked d outstanding ≡ d
  unfolding ticked
  ticked-expired outstanding e = rw e

  pub ticked-counts : expired d ≡ false → ticked d true ≡ with_count d (d.count + 1)
  unfolding ticked
  ticked-counts e = rw e

  pub ticked-rests : expired d ≡ false → ticked d false ≡ with_count d 0
  unfolding ticked
  ticked-rests e = rw e

  pub ticked-patience : (outstanding : Bool) → (ticked d outstanding).patience ≡ d.patience
  ticked-patience outstanding = go (expired d) outstanding refl
    where
      go : (t o : Bool) → expired d ≡ t → (ticked d o).patience ≡ d.patience
      go true o e = rw (ticked-expired o e)
      go false true e = rw (ticked-counts e)
      go false false e = rw (ticked-rests e)

  -- a count within the patience stays within it
  pub ticked-le : (outstanding : Bool) → d.count ≤ d.patience → (ticked d outstanding).count ≤ (ticked d outstanding).patience
  ticked-le outstanding h = go (expired d) outstanding refl
    where
      go : (t o : Bool) → expired d ≡ t → (ticked d o).count ≤ (ticked d o).patience
      go true o e = rw (ticked-expired o e) h
      go false true e = rw (ticked-counts e) (omega (arith, leb-false d.patience d.count e))
      go false false e = rw (ticked-rests e) (omega arith)
