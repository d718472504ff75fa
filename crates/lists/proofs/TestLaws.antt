-- Laws of tests: what a test says as a fact, conjunctions taken apart, and lists of tests with their numbers. Assumes nothing.
use mathlib.Core.Path.{◌≡◌, refl, sym, ◌∙◌}
use mathlib.Core.Bool.{Bool, true, false, cond, ◌&&◌, ◌||◌, false≢true, true≢false}
pub use mathlib.Core.Bool.{and-false}
use mathlib.Core.Logic.{◌⊎◌, inl, inr}
use mathlib.Core.List.{List, [], ◌∷◌}
use Prim.Native.Nat.{ℕ, ◌≤◌, ◌<◌}
use native.Mathlib.Omega.{arith}
use lib.Dec.{leb, ltb, eqb}
use borrow.Author.Tests.{ltb-true, ltb-false, leb-true, eqb-true, eqb-false, le-leb, eq-eqb, ne_eqb}
use Rattle.lists.specs.Refusal.{Test, refusal, pick, within}

pub by-test : (b : Bool) → (b ≡ true) ⊎ (b ≡ false)
by-test true = inl refl
by-test false = inr refl

-- a test is not both
pub not-both : (b : Bool) → b ≡ true → b ≡ false → ⊥
not-both b p q = true≢false (sym p ∙ q)

-- a test whose facts are absurd fails
pub refuted : (b : Bool) → (b ≡ true → ⊥) → false ≡ b
refuted true f = absurd (f refl)
refuted false f = refl

-- two tests that follow from each other are one
pub agree : (a b : Bool) → (a ≡ true → b ≡ true) → (b ≡ true → a ≡ true) → a ≡ b
agree true b f g = sym (f refl)
agree false true f g = g refl
agree false false f g = refl

pub both : (a b : Bool) → a && b ≡ true → (a ≡ true) × (b ≡ true)
both true b e = (refl, e)
both false b e = absurd (false≢true e)

pub join : (a b : Bool) → a ≡ true → b ≡ true → a && b ≡ true
join a b p q = simp (p, q)

-- a test that is made only where another does not hold
pub unless : (a b : Bool) → (a || b) ≡ true → a ≡ false → b ≡ true
unless true b e h = absurd (true≢false h)
unless false b e h = e

pub or-unless : (a b : Bool) → (a ≡ false → b ≡ true) → (a || b) ≡ true
or-unless true b f = refl
or-unless false b f = f refl

-- an order, and an equality, is decided
pub lt-or-ge : (m n : ℕ) → (m < n) ⊎ (n ≤ m)
lt-or-ge m n = go (ltb m n) refl
  where
    go : (t : Bool) → ltb m n ≡ t → (m < n) ⊎ (n ≤ m)
    go true e = inl (ltb-true m n e)
    go false e = inr (ltb-false m n e)

pub eq-or-ne : (m n : ℕ) → (m ≡ n) ⊎ (m ≡ n → ⊥)
eq-or-ne m n = go (eqb m n) refl
  where
    go : (t : Bool) → eqb m n ≡ t → (m ≡ n) ⊎ (m ≡ n → ⊥)
    go true e = inl (eqb-true m n e)
    go false e = inr (eqb-false m n e)

pub within-facts : (low high x : ℕ) → within low high x ≡ true → (low ≤ x) × (x ≤ high)
within-facts low high x e =
    let p = both (leb low x) (leb x high) e in
    (leb-true low x p.0, leb-true x high p.1)

pub within_of : (low high x : ℕ) → low ≤ x → x ≤ high → within low high x ≡ true
within_of low high x p q = join (leb low x) (leb x high) (le-leb low x p) (le-leb x high q)

-- ---- a choice by a test
pub cond-true : {A : Type 0} (b : Bool) (x y : A) → b ≡ true → cond b x y ≡ x
cond-true b x y e = rw e

pub cond-false : {A : Type 0} (b : Bool) (x y : A) → b ≡ false → cond b x y ≡ y
cond-false b x y e = rw e

-- ---- the selector of all calls
module _ {A : Type 0} (number : ℕ) (new old : A) where
  pub pick-accepted : number ≡ 0 → pick number new old ≡ new
  pick-accepted e = cond-true (eqb number 0) new old (eq-eqb number 0 e)

  pub pick-refused : (number ≡ 0 → ⊥) → pick number new old ≡ old
  pick-refused e = cond-false (eqb number 0) new old (ne_eqb number 0 e)

-- ---- lists of tests with their numbers

-- every test has a number of its own, not 0: computed at each list
abbrev pub numbered : List Test → Bool
numbered [] = true
numbered (t ∷ ts) = ltb 0 t.number && numbered ts

abbrev pub AllHold : List Test → Type 0
AllHold [] = Unit {0}
AllHold (t ∷ ts) = (t.holds ≡ true) × AllHold ts

step : (b : Bool) (n r : ℕ) → 0 < n → cond b r n ≡ 0 → (b ≡ true) × (r ≡ 0)
step true n r p e = (refl, e)
step false n r p e = absurd (omega arith)

-- the law of acceptance: where nothing is refused, every test holds
pub accepted : (ts : List Test) → numbered ts ≡ true → refusal ts ≡ 0 → AllHold ts
accepted [] n e = tt
accepted (t ∷ ts) n e =
    let p = both (ltb 0 t.number) (numbered ts) n in
    let s = step t.holds t.number (refusal ts) (ltb-true 0 t.number p.0) e in
    (s.0, accepted ts p.1 s.1)

-- and back
pub accepts : (ts : List Test) → AllHold ts → refusal ts ≡ 0
accepts [] h = refl
accepts (t ∷ ts) h = cond-true t.holds (refusal ts) t.number h.0 ∙ accepts ts h.1
