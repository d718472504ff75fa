-- Laws of what is kept of a word: whether it is a number, and its value. Assumes nothing.
use mathlib.Core.Path.{◌≡◌, refl, sym, ◌∙◌}
use mathlib.Core.Logic.{⊎_elim}
use mathlib.Core.Bool.{Bool, true, false, ◌&&◌, and-true}
use mathlib.Core.List.{List, [], ◌∷◌, ◌++◌}
use Prim.Native.Nat.{ℕ, suc, ◌+◌, ◌-◌, ◌*◌, ◌<◌, min}
use native.Mathlib.Omega.{arith}
use lib.Dec.{leb, ltb}
use lib.ListN.{length}
use borrow.Author.Tests.{lt-ltb, leb-true, le-leb}
use Rattle.lists.proofs.TestLaws.{agree, both, join, by-test, and-false}
use Rattle.text.specs.Decimal.{zero_digit, is_digit, all_digits, value_from, value_of, is_number}
use Rattle.text.specs.Kept.{too_large, no_number, number_with, number_is}
use Rattle.text.specs.declared.Number.{Number}

-- the bytes of a word, one after another
unfoldable pub number_with_all : Number → List ℕ → Number
number_with_all n [] = n
number_with_all n (b ∷ bs) = number_with_all (number_with n b) bs

-- what is kept of a whole word
abbrev pub kept : List ℕ → Number
kept w = number_with_all no_number w

pub number-with-last : (n : Number) (w : List ℕ) (b : ℕ) → number_with_all n (w ++ (b ∷ [])) ≡ number_with (number_with_all n w) b
unfolding number_with_all
number-with-last n [] b = refl
number-with-last n (x ∷ w) b = number-with-last (number_with n x) w b

-- ---- one byte more
with-digit : (n : Number) (b : ℕ) → is_digit b ≡ true
    → number_with n b ≡ record { some = true; digits = n.digits; value = min too_large (10 * min too_large n.value + (b - zero_digit)) }
unfolding number_with
with-digit n b e = rw e

with-other : (n : Number) (b : ℕ) → is_digit b ≡ false → number_with n b ≡ record { some = true; digits = false; value = n.value }
unfolding number_with
with-other n b e = rw e

with-some : (n : Number) (b : ℕ) → (number_with n b).some ≡ true
with-some n b = ⊎_elim (λ e. rw (with-digit n b e)) (λ e. rw (with-other n b e)) (by-test (is_digit b))

with-digits : (n : Number) (b : ℕ) (t : Bool) → (number_with n b).digits && t ≡ n.digits && (is_digit b && t)
with-digits n b t =
    ⊎_elim (λ e. rw (with-digit n b e, e)) (λ e. rw (with-other n b e, e) (sym (and-false n.digits))) (by-test (is_digit b))

with_value : (n : Number) (b m : ℕ) → is_digit b ≡ true → n.value ≡ min too_large m → (number_with n b).value ≡ min too_large (10 * m + (b - zero_digit))
with_value n b m d e = rw (with-digit n b d, e) (omega arith)

-- ---- a word after what is kept already
all-some : (n : Number) (w : List ℕ) → n.some ≡ true → (number_with_all n w).some ≡ true
unfolding number_with_all
all-some n [] e = e
all-some n (b ∷ w) e = all-some (number_with n b) w (with-some n b)

all_digits_lem : (n : Number) (w : List ℕ) → (number_with_all n w).digits ≡ n.digits && all_digits w
unfolding number_with_all all_digits
all_digits_lem n [] = sym (and-true n.digits)
all_digits_lem n (b ∷ w) = all_digits_lem (number_with n b) w ∙ with-digits n b (all_digits w)

all-value : (n : Number) (w : List ℕ) (m : ℕ) → all_digits w ≡ true → n.value ≡ min too_large m → (number_with_all n w).value ≡ min too_large (value_from m w)
unfolding number_with_all all_digits value_from
all-value n [] m d e = e
all-value n (b ∷ w) m d e =
    let p = both (is_digit b) (all_digits w) d in
    all-value (number_with n b) w (10 * m + (b - zero_digit)) p.1 (with_value n b m p.0 e)

-- ---- a whole word
pub kept-some : (w : List ℕ) → (kept w).some ≡ ltb 0 (length w)
unfolding number_with_all
kept-some [] = refl
kept-some (b ∷ w) = all-some (number_with no_number b) w (with-some no_number b) ∙ sym (lt-ltb 0 (suc (length w)) (omega arith))

module _ (w : List ℕ) where
  pub kept-digits : (kept w).digits ≡ all_digits w
  kept-digits = all_digits_lem no_number w

  -- the value, or too_large where it is larger
  pub kept-value : all_digits w ≡ true → (kept w).value ≡ min too_large (value_of w)
  kept-value d = all-value no_number w 0 d refl

  -- what is kept says whether the word is a number of at most this
  pub kept-is-number : (most : ℕ) → most < too_large → number_is most (kept w) ≡ is_number most w
  unfolding is_number
  kept-is-number most h =
      let k = kept w in
      agree (number_is most k) (is_number most w)
      (λ e.
      let p = both (k.some && k.digits) (leb k.value most) e in
      let q = both k.some k.digits p.0 in
      let d = sym kept-digits ∙ q.1 in
      let v = kept-value d in
      let l = leb-true k.value most p.1 in
      join _ _ (join _ _ (sym (kept-some w) ∙ q.0) d) (le-leb (value_of w) most (omega arith)))
      (λ e.
      let p = both (ltb 0 (length w) && all_digits w) (leb (value_of w) most) e in
      let q = both (ltb 0 (length w)) (all_digits w) p.0 in
      let v = kept-value q.1 in
      let l = leb-true (value_of w) most p.1 in
      join _ _ (join _ _ (kept-some w ∙ q.0) (kept-digits ∙ q.1)) (le-leb k.value most (omega arith)))

  -- and then gives its value
  pub kept-number-value : (most : ℕ) → most < too_large → is_number most w ≡ true → (kept w).value ≡ value_of w
  unfolding is_number
  kept-number-value most h e =
      let p = both (ltb 0 (length w) && all_digits w) (leb (value_of w) most) e in
      let d = both (ltb 0 (length w)) (all_digits w) p.0 in
      let v = kept-value d.1 in
      let l = leb-true (value_of w) most p.1 in
      omega arith

-- all that is kept of a word, for what the word is
pub record KeptNumber (w : List ℕ) : Type 0 where
  pub some : (kept w).some ≡ ltb 0 (length w)
  pub digits : (kept w).digits ≡ all_digits w
  pub value : all_digits w ≡ true → (kept w).value ≡ min too_large (value_of w)
  pub is-number : (most : ℕ) → most < too_large → number_is most (kept w) ≡ is_number most w
  pub number-value : (most : ℕ) → most < too_large → is_number most w ≡ true → (kept w).value ≡ value_of w

pub kept-number : (w : List ℕ) → KeptNumber w
kept-number w =
    record {
      some = kept-some w;
      digits = kept-digits w;
      value = kept-value w;
      is-number = kept-is-number w;
      number-value = kept-number-value w;
    }
