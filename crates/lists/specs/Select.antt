-- The elements of a list that pass a test, and the first of them; whether a number is in a list, and how often. Assumes
-- nothing.
use Rattle.std.specs.Prelude.{ℕ, zero, suc, ◌≡◌, Bool, false, cond, List, [], ◌∷◌, ltb, eqb, length}

module _ {A : Type 0} where
  -- those that pass, in order
  unfoldable pub selected : (A → Bool) → List A → List A
  selected f [] = []
  selected f (x ∷ xs) = cond (f x) (x ∷ selected f xs) (selected f xs)

  -- the place of the first that passes; where none does, the length
  unfoldable pub place_of : (A → Bool) → List A → ℕ
  place_of f [] = 0
  place_of f (x ∷ xs) = cond (f x) 0 (suc (place_of f xs))

  -- the list without its i-th element
  unfoldable pub without : ℕ → List A → List A
  without i [] = []
  without zero (x ∷ xs) = xs
  without (suc i) (x ∷ xs) = x ∷ without i xs

-- the place of the first of these numbers that is n; where none is, their count
abbrev pub place_in : ℕ → List ℕ → ℕ
place_in n ns = place_of (λ (m : ℕ). eqb m n) ns

-- n is one of these numbers
abbrev pub is_in : ℕ → List ℕ → Bool
is_in n ns = ltb (place_in n ns) (length ns)

-- how often n is one of them
abbrev pub times_in : ℕ → List ℕ → ℕ
times_in n ns = length (selected (λ (m : ℕ). eqb m n) ns)

-- no number is in the list twice
abbrev pub NoRepeats : List ℕ → Type 0
NoRepeats [] = Unit {0}
NoRepeats (n ∷ ns) = (is_in n ns ≡ false) × NoRepeats ns
