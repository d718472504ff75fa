-- Laws of splitting, over the separator: the parts with a byte or more in front of them. Assumes nothing.
use mathlib.Core.Path.{◌≡◌, refl}
use mathlib.Core.Bool.{Bool, true, false}
use mathlib.Core.List.{List, [], ◌∷◌, ◌++◌}
use Prim.Native.Nat.{ℕ}
use lib.Dec.{eqb}
use lib.Seq.{append_snoc}
use Rattle.text.specs.Line.{with_first, split}

-- w in front of the first part
abbrev pub joined : List ℕ → List (List ℕ) → List (List ℕ)
joined w [] = w ∷ []
joined w (p ∷ ps) = (w ++ p) ∷ ps

pub joined-byte : (w : List ℕ) (b : ℕ) (ps : List (List ℕ)) → joined w (with_first b ps) ≡ joined (w ++ (b ∷ [])) ps
joined-byte w b [] = refl
joined-byte w b (p ∷ ps) = rw append_snoc

module _ (separator : ℕ) where
  -- ---- a byte in front
  module _ (b : ℕ) (bytes : List ℕ) where
    pub split-separator : eqb b separator ≡ true → split separator (b ∷ bytes) ≡ [] ∷ split separator bytes
    unfolding split
    split-separator e = rw e

    pub split-other : eqb b separator ≡ false → split separator (b ∷ bytes) ≡ with_first b (split separator bytes)
    unfolding split
    split-other e = rw e

  -- ---- there is one part at least
  pub record Parts (bytes : List ℕ) : Type 0 where
    pub head : List ℕ
    pub rest : List (List ℕ)
    pub is : split separator bytes ≡ head ∷ rest

  parts-with : (b : ℕ) (bytes : List ℕ) (t : Bool) → eqb b separator ≡ t → Parts bytes → Parts (b ∷ bytes)
  parts-with b bytes true e p = record { head = []; rest = split separator bytes; is = split-separator b bytes e }
  parts-with b bytes false e p = record { head = b ∷ p.head; rest = p.rest; is = rw (split-other b bytes e, p.is) }

  pub parts : (bytes : List ℕ) → Parts bytes
  unfolding split
  parts [] = record { head = []; rest = []; is = refl }
  parts (b ∷ bytes) = parts-with b bytes (eqb b separator) refl (parts bytes)

  -- so nothing in front of it changes nothing
  pub joined-none : (bytes : List ℕ) → joined [] (split separator bytes) ≡ split separator bytes
  joined-none bytes = rw (parts bytes).is
