-- Laws of decimal numbers: the digits of a number, stored from the last to the first, and read back. Assumes nothing.
use mathlib.Core.Path.{◌≡◌, refl, sym, ap, ◌∙◌}
use mathlib.Core.Logic.{⊎_elim}
use mathlib.Core.Bool.{true}
use mathlib.Core.List.{List, [], ◌∷◌}
use Prim.Native.Nat.{ℕ, zero, suc, ◌+◌, ◌-◌, ◌*◌, ◌/◌, ◌%◌, ◌^◌, ◌≤◌, ◌<◌}
use native.Mathlib.Nat.{pow-suc, div-lt_iff_lt-mul}
use native.Mathlib.Omega.{arith}
use lib.ListN.{length, take, drop, replicate, set}
use lib.Seq.{set_split, drop_at, length-take-le, take-take}
use borrow.Author.Tests.{lt-ltb, le-ltb}
use Rattle.std.proofs.lemmas.List.{take-set, take-replicate}
use Rattle.lists.proofs.TestLaws.{lt-or-ge, within_of}
use Rattle.text.specs.Decimal.{zero_digit, is_digit, all_digits, value_from, value_of, digits_before, decimal}

-- ---- one digit
pub digit-is : (d : ℕ) → d < 10 → is_digit (zero_digit + d) ≡ true
digit-is d h = within_of 48 57 (48 + d) (omega arith) (omega arith)

pub digits_last : (k n : ℕ) (rest : List ℕ) → n < 10 → digits_before (suc k) n rest ≡ (zero_digit + n) ∷ rest
unfolding digits_before
digits_last k n rest h = rw (lt-ltb n 10 h)

pub digits_more : (k n : ℕ) (rest : List ℕ) → 10 ≤ n → digits_before (suc k) n rest ≡ digits_before k (n / 10) ((zero_digit + n % 10) ∷ rest)
unfolding digits_before
digits_more k n rest h = rw (le-ltb n 10 h)

-- a number of two digits or more without its last digit
pub fewer_digits : (s n : ℕ) → 10 ≤ n → n < 10 ^ s → (2 ≤ s) × (n / 10 < 10 ^ (s - 1))
fewer_digits zero n h l = absurd (omega arith)
fewer_digits (suc zero) n h l = absurd (omega arith)
fewer_digits (suc (suc k)) n h l =
    let e : suc (suc k) - 1 ≡ suc k = omega arith in
    (omega arith, rw e ((div-lt_iff_lt-mul {k = 10} (omega arith)).1 (rw (pow-suc 10 (suc k)) at l)))

-- ---- digits stored in front of those that stand
module _ (bytes : List ℕ) (v : ℕ) where
  stored : (k : ℕ) → k < length bytes → drop k (set bytes k v) ≡ v ∷ drop (suc k) bytes
  stored k h = ap (drop k) (set_split bytes k v h) ∙ drop_at (take k bytes) (v ∷ drop (suc k) bytes) k (length-take-le k bytes (omega arith))

  pub digits-turn : (s n : ℕ) → 1 ≤ s → s ≤ length bytes → v ≡ zero_digit + n % 10 → 10 ≤ n
      → digits_before s n (drop s bytes) ≡ digits_before (s - 1) (n / 10) (drop (s - 1) (set bytes (s - 1) v))
  digits-turn zero n p h e l = absurd (omega arith)
  digits-turn (suc k) n p h e l =
      let d : suc k - 1 ≡ k = omega arith in
      rw (d, stored k h, e) (digits_more k n (drop (suc k) bytes) l)

  pub digits-end : (s n : ℕ) → 1 ≤ s → s ≤ length bytes → v ≡ zero_digit + n % 10 → n < 10 → digits_before s n (drop s bytes) ≡ drop (s - 1) (set bytes (s - 1) v)
  digits-end zero n p h e l = absurd (omega arith)
  digits-end (suc k) n p h e l =
      let d : suc k - 1 ≡ k = omega arith in
      let m : n % 10 ≡ n = omega arith in
      rw (d, stored k h, e, m) (digits_last k n (drop (suc k) bytes) l)

-- what stands in front of them stays 0
pub zeros-turn : (s : ℕ) (bytes : List ℕ) (v : ℕ) → 1 ≤ s → take s bytes ≡ replicate s 0 → take (s - 1) (set bytes (s - 1) v) ≡ replicate (s - 1) 0
zeros-turn s bytes v p e =
    take-set bytes (s - 1) v
    ∙ sym (take-take (s - 1) s bytes (omega arith))
    ∙ ap (take (s - 1)) e
    ∙ take-replicate (s - 1) s 0 (omega arith)

-- ---- what is printed is read back
digits-all : (k n : ℕ) (rest : List ℕ) → all_digits (digits_before k n rest) ≡ all_digits rest
unfolding digits_before all_digits
digits-all zero n rest = refl
digits-all (suc k) n rest =
    ⊎_elim (λ h. ap all_digits (digits_last k n rest h) ∙ rw (digit-is n h))
    (λ h. let l : n % 10 < 10 = omega arith in ap all_digits (digits_more k n rest h) ∙ digits-all k (n / 10) _ ∙ rw (digit-is (n % 10) l)) (lt-or-ge n 10)

digits_value : (k n : ℕ) (rest : List ℕ) → n < 10 ^ k → value_from 0 (digits_before k n rest) ≡ value_from n rest
unfolding digits_before value_from
digits_value zero n rest h = let e : n ≡ 0 = omega arith in rw e
digits_value (suc k) n rest h =
    ⊎_elim (λ l.
    let e : 10 * 0 + (zero_digit + n - zero_digit) ≡ n = omega arith in
    ap (value_from 0) (digits_last k n rest l) ∙ ap (λ (m : ℕ). value_from m rest) e)
    (λ l.
    let e : 10 * (n / 10) + (zero_digit + n % 10 - zero_digit) ≡ n = omega arith in
    let d : suc k - 1 ≡ k = omega arith in
    let q : n / 10 < 10 ^ k = rw d at (fewer_digits (suc k) n l h).1 in
    ap (value_from 0) (digits_more k n rest l) ∙ digits_value k (n / 10) _ q ∙ ap (λ (m : ℕ). value_from m rest) e) (lt-or-ge n 10)

-- how many digits stand in front of the rest
digits-count : (k n : ℕ) (rest : List ℕ) → (length rest ≤ length (digits_before k n rest)) × (length (digits_before k n rest) ≤ length rest + k)
unfolding digits_before
digits-count zero n rest = (omega arith, omega arith)
digits-count (suc k) n rest =
    ⊎_elim (λ h. let e = ap length (digits_last k n rest h) in (omega arith, omega arith))
    (λ h.
    let e = ap length (digits_more k n rest h) in
    let i = digits-count k (n / 10) ((zero_digit + n % 10) ∷ rest) in
    (omega arith, omega arith)) (lt-or-ge n 10)

digits-some : (k n : ℕ) (rest : List ℕ) → 1 ≤ length (digits_before (suc k) n rest)
digits-some k n rest =
    ⊎_elim (λ h. let e = ap length (digits_last k n rest h) in omega arith)
    (λ h.
    let e = ap length (digits_more k n rest h) in
    let i = digits-count k (n / 10) ((zero_digit + n % 10) ∷ rest) in
    omega arith) (lt-or-ge n 10)

-- what is printed of n: digits alone, one to twenty, and their value is n
pub record ReadsBack (n : ℕ) : Type 0 where
  pub digits : all_digits (decimal n) ≡ true
  pub value : value_of (decimal n) ≡ n
  pub some : 1 ≤ length (decimal n)
  pub short : length (decimal n) ≤ 20

pub decimal-reads-back : (n : ℕ) → n < 2 ^ 64 → ReadsBack n
unfolding all_digits value_from
decimal-reads-back n h =
    let c = digits-count 20 n [] in
    record {
      digits = digits-all 20 n [];
      value = digits_value 20 n [] (omega arith);
      some = digits-some 19 n [];
      short = omega arith;
    }
