-- Laws of a word with one bit cleared, and of one with its low bits set. Assumes nothing.
use Prim.Native.Nat.{ℕ, zero, suc, ◌+◌, ◌-◌, ◌*◌, ◌/◌, ◌%◌, ◌^◌, ◌≤◌, ◌<◌}
use mathlib.Core.Path.{◌≡◌, sym, ap, ◌∙◌}
use mathlib.Core.Logic.{◌≢◌, ⊎_elim}
use native.Mathlib.Nat.{mod-lt, lt_of_lt_of_le, suc-mul, zero-mul, one-mul, pow-suc, div-eq_of_lt, div-one, mul-one, add-zero}
use native.Mathlib.Omega.{arith}
use Rattle.std.proofs.lemmas.Nat.{and-not}
use lib.Bits.{and_comm, bit_and, bit_or, or_add_and, and_mask}
use lib.Pow.{pow_pos, pow-lt, pow_mono, split, high, ones_lt, ones_split}
use Rattle.marks.specs.Mark.{bit, with_bit, without_bit, with_low_bits}
use Rattle.marks.proofs.BitLaws.{bit-cases, bit-lt, bit-or, bit-above, bit-with-other, and_one, shifted_one}

-- ---- one bit cleared

-- `w & !(1 << k)`
pub and-other-bits : (w k : ℕ) → k < 64 → w < 2 ^ 64 → bit_and w (2 ^ 64 - 1 - (1 * 2 ^ k) % 2 ^ 64) ≡ without_bit w k
unfolding without_bit
and-other-bits w k h f =
    let b : 2 ^ k < 2 ^ 64 = pow-lt h in
    rw (shifted_one k h, and_comm w) (omega (arith, and-not 64 (2 ^ k) w b f, and_comm (2 ^ k) w, and_one w k))

one_less : (q x : ℕ) → 0 < q → q * x ≡ (q - 1) * x + x
one_less zero x h = absurd (omega arith)
one_less (suc q) x h = let e : suc q - 1 ≡ q = omega arith in rw e (suc-mul q x)

-- a bit that is set, and the same cleared
module _ (w k : ℕ) (set : bit w k ≡ 1) where
  at_least : 0 < w / 2 ^ k
  unfolding bit
  at_least = omega (arith, set)

  less : w - 2 ^ k ≡ (w / 2 ^ k - 1) * 2 ^ k + w % 2 ^ k
  less = omega (arith, split w k, one_less (w / 2 ^ k) (2 ^ k) at_least)

  less-bit : bit (w - 2 ^ k) k ≡ 0
  unfolding bit
  less-bit = rw (less, high (w / 2 ^ k - 1) k (mod-lt w (pow_pos k))) (omega (arith, set))

  less-back : with_bit (w - 2 ^ k) k ≡ w
  unfolding with_bit
  less-back = rw (less-bit, one-mul) (omega (arith, split w k, one_less (w / 2 ^ k) (2 ^ k) at_least))

without-clear : (w k : ℕ) → bit w k ≡ 0 → without_bit w k ≡ w
unfolding without_bit
without-clear w k z = omega (arith, ap (λ (x : ℕ). x * 2 ^ k) z ∙ zero-mul (2 ^ k))

without-set : (w k : ℕ) → bit w k ≡ 1 → without_bit w k ≡ w - 2 ^ k
unfolding without_bit
without-set w k o = omega (arith, ap (λ (x : ℕ). x * 2 ^ k) o ∙ one-mul (2 ^ k))

pub bit-without-same : (w k : ℕ) → bit (without_bit w k) k ≡ 0
bit-without-same w k = ⊎_elim (λ z. rw (without-clear w k z) z) (λ o. rw (without-set w k o) (less-bit w k o)) (bit-cases w k)

pub bit-without-other : (w k j : ℕ) → j ≢ k → bit (without_bit w k) j ≡ bit w j
bit-without-other w k j ne =
    ⊎_elim
    (λ z. rw (without-clear w k z))
    (λ o. rw (without-set w k o) (sym (bit-with-other (w - 2 ^ k) k j ne) ∙ ap (λ (x : ℕ). bit x j) (less-back w k o)))
    (bit-cases w k)

-- ---- low bits set

-- `w | ((1 << k) - 1)`
pub or-low : (w k : ℕ) → bit_or w (2 ^ k - 1) ≡ with_low_bits w k
unfolding with_low_bits
or-low w k = omega (arith, or_add_and w (2 ^ k - 1), and_mask w k, split w k)

ones_bit : (n k : ℕ) → k < n → bit (2 ^ n - 1) k ≡ 1
unfolding bit
ones_bit n k h =
    let e : suc (n - suc k) + k ≡ n = omega arith in
    rw (← e, ones_split, high (2 ^ suc (n - suc k) - 1) k (ones_lt k)) (omega (arith, pow-suc 2 (n - suc k), pow_pos (n - suc k)))

pub bit-low : (w n k : ℕ) → k < n → bit (with_low_bits w n) k ≡ 1
bit-low w n k h = rw (← or-low, bit-or, ones_bit n k h) (omega (arith, bit-lt w k))

pub bit-past-low : (w n k : ℕ) → n ≤ k → bit (with_low_bits w n) k ≡ bit w k
bit-past-low w n k h = rw (← or-low, bit-or, bit-above (2 ^ n - 1) k (lt_of_lt_of_le (ones_lt n) (pow_mono h))) (omega arith)

-- no bit, and all of a word's
pub low-none : (w : ℕ) → with_low_bits w 0 ≡ w
unfolding with_low_bits
low-none w = rw (div-one, mul-one) (add-zero w)

pub low-all : (w : ℕ) → w < 2 ^ 64 → with_low_bits w 64 ≡ 2 ^ 64 - 1
unfolding with_low_bits
low-all w f = rw (div-eq_of_lt f)
