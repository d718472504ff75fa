-- Laws of lines and words: where the first part of some bytes ends. Assumes nothing.
use Rattle.std.proofs.Common.{◌≡◌, ℕ, ◌+◌, Bool, true, false, cond, List, [], ◌∷◌, eqb, ◌≤◌, ltb, length, drop, drop_of_length-le, refl, arith, Some, None}
use Rattle.std.specs.Option.{unwrap_or}
use Rattle.std.specs.List.{position_or_len}
use Rattle.std.proofs.lemmas.List.Recursion.{is_position_or_len}
use Rattle.std.proofs.lemmas.Bool.{ltb-false}
use Rattle.text.specs.Line.{first_part}

-- before the first separator
pub length-first : (separator : ℕ) (bs : List ℕ) → length (first_part separator bs) ≡ position_or_len (λ b. eqb b separator) bs
unfolding first_part
length-first separator bs = is_position_or_len (λ xs. length (first_part separator xs)) (λ b. eqb b separator) refl (λ x xs. more x xs (eqb x separator)) bs
  where
    more : (x : ℕ) (xs : List ℕ) (t : Bool) → length (cond t [] (x ∷ first_part separator xs)) ≡ cond t 0 (1 + length (first_part separator xs))
    more x xs true = refl
    more x xs false = omega arith

-- the place of the first that passes, or else the length
pub found-or : (place most : ℕ) → place ≤ most → unwrap_or (cond (ltb place most) (Some place) None) most ≡ place
found-or place most h = by (ltb place most) refl
  where
    by : (t : Bool) → ltb place most ≡ t → unwrap_or (cond t (Some place) None) most ≡ place
    by true e = refl
    by false e = let k : most ≤ place = ltb-false place most e in omega arith

-- behind the end stands nothing
pub part-behind : (separator : ℕ) (s : List ℕ) (i : ℕ) → length s ≤ i → first_part separator (drop i s) ≡ []
unfolding first_part
part-behind separator s i h = rw (drop_of_length-le s h)
