-- A list that is the first part of another. Assumes nothing.
use Prim.Native.Nat.{ℕ, ◌≤◌, ◌<◌}
use mathlib.Core.Path.{◌≡◌, sym, ap, ◌∙◌}
use mathlib.Core.List.{List, [], ◌++◌, append_assoc, append-nil}
use native.Mathlib.Omega.{arith}
use lib.ListN.{length, get_or, length-append, get_or-append}

module _ {A : Type 0} where
  abbrev pub FirstOf : List A → List A → Type 0
  FirstOf xs ys = (rest : List A) × (xs ++ rest ≡ ys)

  pub first-all : (xs ys : List A) → xs ≡ ys → FirstOf xs ys
  first-all xs ys e = ([], append-nil xs ∙ e)

  -- more behind the whole
  pub first_more : (xs ys zs : List A) → FirstOf xs ys → FirstOf xs (ys ++ zs)
  first_more xs ys zs f = (f.0 ++ zs, sym (append_assoc xs f.0 zs) ∙ ap (λ (l : List A). l ++ zs) f.1)

  -- it is no longer than the whole
  pub first-length : (xs ys : List A) → FirstOf xs ys → length xs ≤ length ys
  first-length xs ys f = omega (arith, length-append xs f.0, ap length f.1)

  -- an element of the first part is one of the whole
  module _ (n : ℕ) (xs ys : List A) (f : FirstOf xs ys) (l : n < length xs) where
    pub first_below : n < length ys
    first_below = omega (arith, length-append xs f.0, ap length f.1)

    pub first-same : (z : A) → get_or xs n z ≡ get_or ys n z
    first-same z = sym (get_or-append xs f.0 z n l) ∙ ap (λ (l : List A). get_or l n z) f.1
