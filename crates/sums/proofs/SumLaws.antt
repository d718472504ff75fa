-- Laws of sums: pages added in rising order give the image's sum, and replacing a page changes it by that page's own
-- difference. Assumes nothing.
use mathlib.Core.Path.{◌≡◌, refl, sym, ap, ◌∙◌}
use mathlib.Core.List.{List, [], ◌∷◌, ◌++◌}
use Prim.Native.Nat.{ℕ, zero, suc, ◌+◌, ◌*◌, ◌%◌, ◌≤◌, ◌<◌}
use native.Mathlib.Nat.{zero-add, add-zero, zero-mul, suc-mul, add-mod, mod-lt}
use native.Mathlib.Numerals.{add-one}
use native.Mathlib.Omega.{arith}
use lib.ListN.{length, take, drop, length-append}
use lib.Seq.{take_all, take-add, length-take-le}
use Rattle.lists.specs.Part.{part, put}
use Rattle.lists.specs.Page.{page, with_page}
use Rattle.lists.proofs.PartLaws.{put_same}
use Rattle.lists.proofs.PageLaws.{page-end, gather_none, gather-more, page-with-same, length-page}
use Rattle.sums.specs.Sum.{modulus, weighted, image_sum, page_sum, sum_over, rising}

-- ---- bytes from an address on
pub weighted-none : (a : ℕ) → weighted a [] ≡ 0
unfolding weighted
weighted-none a = refl

pub weighted-more : (a b : ℕ) (bs : List ℕ) → weighted a (b ∷ bs) ≡ b * (a + 1) + weighted (a + 1) bs
unfolding weighted
weighted-more a b bs = refl

pub weighted-append : (a : ℕ) (xs ys : List ℕ) → weighted a (xs ++ ys) ≡ weighted a xs + weighted (a + length xs) ys
weighted-append a [] ys = rw (weighted-none, add-zero, zero-add)
weighted-append a (x ∷ xs) ys =
    let e : a + length (x ∷ xs) ≡ a + 1 + length xs = omega arith in
    rw (weighted-more a x (xs ++ ys), weighted-more a x xs, e) (omega (arith, weighted-append (a + 1) xs ys))

module _ (u : ℕ) (image : List ℕ) where
  -- ---- pages one after the other
  pub sum-none : sum_over u image [] ≡ 0
  unfolding sum_over
  sum-none = refl

  pub sum_more : (p : ℕ) (order : List ℕ) → sum_over u image (p ∷ order) ≡ (page_sum u image p + sum_over u image order) % modulus
  unfolding sum_over
  sum_more p order = refl

  pub sum_low : (order : List ℕ) → sum_over u image order < modulus
  sum_low [] = rw sum-none (omega arith)
  sum_low (p ∷ order) = rw sum_more (mod-lt _ (omega arith))

  pub sum-append : (xs ys : List ℕ) → sum_over u image (xs ++ ys) ≡ (sum_over u image xs + sum_over u image ys) % modulus
  sum-append [] ys = omega (arith, sum-none, sum_low ys)
  sum-append (x ∷ xs) ys = omega (arith, sum_more x (xs ++ ys), sum_more x xs, sum-append xs ys)

  -- ---- rising order
  pub rising_none : sum_over u image (rising 0) ≡ 0
  rising_none = ap (sum_over u image) (gather_none (λ (p : ℕ). p ∷ [])) ∙ sum-none

  pub rising-more : (p : ℕ) → sum_over u image (rising (p + 1)) ≡ (sum_over u image (rising p) + page_sum u image p) % modulus
  rising-more p =
      ap (sum_over u image) (gather-more (λ (q : ℕ). q ∷ []) p)
      ∙ omega (arith, sum-append (rising p) (p ∷ []), sum_more p [], sum-none)

  -- the pages below n are the first n * u bytes
  rising-taken : (n : ℕ) → n * u ≤ length image → sum_over u image (rising n) ≡ weighted 0 (take (n * u) image) % modulus
  unfolding page part
  rising-taken zero h = rw (zero-mul, weighted-none) rising_none
  rising-taken (suc n) h =
      let k : suc n * u ≡ n * u + u = suc-mul n u in
      let low : n * u ≤ length image = omega arith in
      let t : take (suc n * u) image ≡ take (n * u) image ++ page u image n = rw k (take-add (n * u) u image) in
      let w = weighted-append 0 (take (n * u) image) (page u image n) in
      let at : 0 + length (take (n * u) image) ≡ n * u = zero-add _ ∙ length-take-le (n * u) image low in
      let more = rising-more n in
      rw t (omega (arith, rw (add-one n) at more, rising-taken n low, rw at at w))

  pub sum-rising : (m : ℕ) → length image ≡ m * u → sum_over u image (rising m) ≡ image_sum image
  sum-rising m whole =
      rising-taken m (omega arith) ∙ ap (λ (l : List ℕ). weighted 0 l % modulus) (take_all (m * u) image (omega arith))

  -- ---- a page replaced
  module _ (p : ℕ) (fits : p * u + u ≤ length image) where
    -- the bytes before it, its own, and the bytes behind
    replaced-parts : (bs : List ℕ) → length bs ≡ u
        → weighted 0 (with_page u image p bs) ≡ weighted 0 (take (p * u) image) + weighted (p * u) bs + weighted (p * u + u) (drop (p * u + u) image)
    unfolding with_page put
    replaced-parts bs size =
        let at = p * u in
        let len : length (take at image) ≡ at = length-take-le at image (omega arith) in
        let a = weighted-append 0 (take at image) bs in
        let b = weighted-append 0 (take at image ++ bs) (drop (at + length bs) image) in
        let e : 0 + length (take at image) ≡ at = zero-add _ ∙ len in
        let f : 0 + length (take at image ++ bs) ≡ at + u = zero-add _ ∙ length-append (take at image) bs ∙ omega arith in
        rw (f, a, e) at b ∙ ap (λ (n : ℕ). weighted 0 (take at image) + weighted at bs + weighted (at + u) (drop (at + n) image)) size

    whole_parts : weighted 0 image ≡ weighted 0 (take (p * u) image) + weighted (p * u) (page u image p) + weighted (p * u + u) (drop (p * u + u) image)
    unfolding with_page page
    whole_parts =
        ap (weighted 0) (sym (put_same image (p * u) u fits)) ∙ replaced-parts (page u image p) (length-page u p image fits)

  -- "replacing one page changes it by that page's own difference"
  pub sum-replaced : (m p : ℕ) (bs : List ℕ) → length image ≡ m * u → p < m → length bs ≡ u
      → (image_sum (with_page u image p bs) + page_sum u image p) % modulus ≡ (image_sum image + page_sum u (with_page u image p bs) p) % modulus
  sum-replaced m p bs whole low size =
      let fits : p * u + u ≤ length image = omega (arith, page-end p m u low) in
      let new = replaced-parts p fits bs size in
      let old = whole_parts p fits in
      let own = ap (weighted (p * u)) (page-with-same u p image bs size fits) in
      let e : weighted 0 (with_page u image p bs) + weighted (p * u) (page u image p) ≡ weighted 0 image + weighted (p * u) (page u (with_page u image p bs) p) = omega (arith, new, old, own) in
      sym (add-mod _ _ modulus) ∙ ap (λ (n : ℕ). n % modulus) e ∙ add-mod _ _ modulus
