-- Laws of the loops: over a page's bytes, and over the pages of an order. Assumes nothing.
use mathlib.Core.Path.{◌≡◌, sym, ap, ◌∙◌}
use mathlib.Core.List.{List}
use Prim.Native.Nat.{ℕ, ◌+◌, ◌*◌, ◌%◌, ◌≤◌, ◌<◌}
use native.Mathlib.Nat.{add-zero, zero-mul, add-mul, mul-add, mul-le-mul, mod-lt}
use native.Mathlib.Numerals.{add-one}
use native.Mathlib.Omega.{arith}
use lib.ListN.{length, get_or, drop}
use lib.Seq.{drop-cons, drop-length}
use Rattle.lists.proofs.PageLaws.{page-end}
use Rattle.sums.specs.Sum.{modulus, weighted, page_sum, sum_over}
use Rattle.sums.proofs.SumLaws.{weighted-none, weighted-more, sum-none, sum_more, sum_low}

-- the first i bytes are added by themselves and by their place, from 1 on: what is left of the sum is that of the rest.
-- The bounds are those of 4,096 bytes
pub record Added (a : ℕ) (bs : List ℕ) (total placed i : ℕ) : Type 0 where
  pub inside : i ≤ length bs
  pub total-high : total ≤ 255 * i
  pub placed-high : placed ≤ 1044480 * i
  pub rest : placed + total * a + weighted (a + i) (drop i bs) ≡ weighted a bs

module _ (a : ℕ) (bs : List ℕ) where
  pub added_none : Added a bs 0 0 0
  added_none = record { inside = omega arith; total-high = omega arith; placed-high = omega arith; rest = rw (zero-mul, add-zero a) (omega arith) }

  module _ (total placed i : ℕ) (h : Added a bs total placed i) where
    -- one byte more
    module _ (low : i < length bs) (few : length bs ≤ 4096) (byte : get_or bs i 0 < 256) where
      pub placed-byte : get_or bs i 0 * (i + 1) ≤ 1044480
      placed-byte =
          let b : get_or bs i 0 ≤ 255 = omega arith in
          let n : i + 1 ≤ 4096 = omega arith in
          mul-le-mul b n

      pub added_more : Added a bs (total + get_or bs i 0) (placed + get_or bs i 0 * (i + 1)) (i + 1)
      added_more =
          let b = get_or bs i 0 in
          let d : weighted (a + i) (drop i bs) ≡ b * (a + i + 1) + weighted (a + i + 1) (drop (i + 1) bs) = rw (drop-cons bs i 0 low, weighted-more, add-one i) in
          let k : a + i + 1 ≡ a + (i + 1) = omega arith in
          record {
            inside = omega arith;
            total-high = omega (arith, h.total-high);
            placed-high = omega (arith, h.placed-high, placed-byte);
            rest = omega (arith, h.rest, rw k at d, mul-add b a (i + 1), add-mul total b a);
          }

    -- all of them
    pub added-all : length bs ≤ i → placed + total * a ≡ weighted a bs
    added-all high =
        let e : i ≡ length bs = omega (arith, h.inside) in
        let n : weighted (a + i) (drop i bs) ≡ 0 = rw (e, drop-length) (weighted-none _) in
        omega (arith, h.rest, n)

    -- of addresses up to 268,435,456 it fits 64 bits
    pub added-fits : length bs ≤ 4096 → a ≤ 268435456 → total * a ≤ 280375465082880
    added-fits few high =
        let t : total ≤ 1044480 = omega (arith, h.total-high, h.inside) in
        mul-le-mul t high

-- ---- a page of an image of m pages, as `page_sum` requires it
pub page-lent : (u m p n : ℕ) → u ≤ 4096 → m ≤ 65536 → n ≡ m * u → p < m → (u ≤ 4096) × (p * u + u ≤ n) × (n ≤ 268435456)
page-lent u m p n small few whole low =
    let most : m * u ≤ 268435456 = mul-le-mul few small in
    (small, omega (arith, page-end p m u low), omega arith)

-- ---- the pages of an order: what is added, and the rest
module _ (u : ℕ) (image order : List ℕ) where
  pub record Summed (total i : ℕ) : Type 0 where
    pub inside : i ≤ length order
    pub low : total < modulus
    pub rest : (total + sum_over u image (drop i order)) % modulus ≡ sum_over u image order

  pub summed-none : Summed 0 0
  summed-none = record { inside = omega arith; low = omega arith; rest = omega (arith, sum_low u image order) }

  module _ (total i : ℕ) (h : Summed total i) where
    pub summed-more : i < length order → Summed ((total + page_sum u image (get_or order i 0)) % modulus) (i + 1)
    summed-more low =
        let d : sum_over u image (drop i order) ≡ (page_sum u image (get_or order i 0) + sum_over u image (drop (i + 1) order)) % modulus = rw (drop-cons order i 0 low, sum_more, add-one i) in
        record { inside = omega arith; low = mod-lt _ (omega arith); rest = turn total (page_sum u image (get_or order i 0)) _ ∙ ap (λ (n : ℕ). (total + n) % modulus) (sym d) ∙ h.rest }
      where
        turn : (t a b : ℕ) → ((t + a) % modulus + b) % modulus ≡ (t + (a + b) % modulus) % modulus
        turn t a b = omega arith

    pub summed-all : length order ≤ i → total ≡ sum_over u image order
    summed-all high =
        let e : i ≡ length order = omega (arith, h.inside) in
        let n : sum_over u image (drop i order) ≡ 0 = rw (e, drop-length) (sum-none u image) in
        omega (arith, h.rest, n, h.low)
