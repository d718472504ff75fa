-- The loops over a part: one turn more, and the end. Assumes nothing.
use Prim.Native.Nat.{ℕ, suc, ◌+◌, ◌-◌, ◌≤◌, ◌<◌}
use mathlib.Core.Path.{◌≡◌, refl, sym, ap, ◌∙◌}
use mathlib.Core.Bool.{Bool, true, false, cond}
use native.Mathlib.Omega.{arith}
use native.Mathlib.Numerals.{add-one}
use Rattle.std.specs.Prelude.{None, Some}
use Rattle.trials.specs.Trial.{Trial, Course, on, and_then}
use Rattle.trials.specs.Part.{Part, each, whilst}
use Rattle.trials.specs.Site.{turn}

-- ---- a part for each number
module _ (p : ℕ → Part) where
  -- what is done from the i-th of n on
  abbrev pub rest : ℕ → ℕ → Trial → Course
  rest n i = (each p i (n - i)).course

  pub each_turn : (t : Trial) (n i : ℕ) → i < n → rest n i t ≡ and_then ((p i).course t) (rest n (i + 1))
  unfolding each
  each_turn t n i h =
      let k : n - i ≡ suc (n - (i + 1)) = omega arith in
      ap (λ (m : ℕ). (each p i m).course t) k
      ∙ ap (λ (m : ℕ). and_then ((p i).course t) (each p m (n - (i + 1))).course) (sym (add-one i))

  pub each_last : (t : Trial) (n i : ℕ) → n ≤ i → rest n i t ≡ on t
  unfolding each
  each_last t n i h = let e : n - i ≡ 0 = omega arith in ap (λ (m : ℕ). (each p i m).course t) e

-- ---- a part while a test holds
module _ (test : Trial → Bool) (p : Part) (t : Trial) (n : ℕ) where
  -- a turn was made
  pub whilst-turn : (x : Course) → Some x ≡ turn test p t → (whilst test p (suc n)).course t ≡ and_then x (whilst test p n).course
  unfolding whilst
  whilst-turn x e = by (test t) e
    where
      by : (b : Bool) → Some x ≡ cond b (Some (p.course t)) None
          → cond b (and_then (p.course t) (whilst test p n).course) (on t) ≡ and_then x (whilst test p n).course
      by true f = let k : x ≡ p.course t = cc in ap (λ (y : Course). and_then y (whilst test p n).course) (sym k)
      by false f = absurd (cc)

  -- there is nothing to do
  pub whilst-none : None ≡ turn test p t → (whilst test p (suc n)).course t ≡ on t
  unfolding whilst
  whilst-none e = by (test t) e
    where
      by : (b : Bool) → None ≡ cond b (Some (p.course t)) None → cond b (and_then (p.course t) (whilst test p n).course) (on t) ≡ on t
      by true f = absurd (cc)
      by false f = refl

-- no turn is left
pub whilst-zero : (test : Trial → Bool) (p : Part) (t : Trial) → (whilst test p 0).course t ≡ on t
unfolding whilst
whilst-zero test p t = refl
