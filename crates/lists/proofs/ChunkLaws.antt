-- Laws of the copies that go chunk by chunk by way of an array. Assumes nothing.
use mathlib.Core.Path.{◌≡◌, sym, ap, ◌∙◌}
use mathlib.Core.List.{List}
use Prim.Native.Nat.{ℕ, ◌+◌, ◌-◌, ◌≤◌, ◌<◌, min}
use native.Mathlib.Omega.{arith}
use lib.ListN.{length, take, drop, length-take, length-drop}
use lib.Seq.{length-take-le, drop-drop, take-add}
use Rattle.lists.specs.Part.{part, put, removed}
use Rattle.lists.proofs.PartLaws.{put-put, drop-put}

module _ {A : Type 0} where
  pub part-most : (at n : ℕ) (l : List A) → length (part at n l) ≤ n
  unfolding part
  part-most at n l = rw length-take (omega arith)

  -- a turn of a loop that puts s at at chunk by chunk
  pub chunk-turn : (d s : List A) (at i c : ℕ) → at + i ≤ length d → i + c ≤ length s → put (put d at (take i s)) (at + i) (part i c s) ≡ put d at (take (i + c) s)
  unfolding part
  chunk-turn d s at i c h k =
      let l : length (take i s) ≡ i = length-take-le i s (omega arith) in
      ap (λ (n : ℕ). put (put d at (take i s)) (at + n) (take c (drop i s))) (sym l)
      ∙ put-put d at (take i s) (take c (drop i s)) (omega (arith, l))
      ∙ ap (put d at) (sym (take-add i c s))

  -- what lies behind the elements put stays
  part-put-behind : (s : List A) (at : ℕ) (bs : List A) (j n : ℕ) → at ≤ length s → at + length bs ≤ j → part j n (put s at bs) ≡ part j n s
  unfolding part
  part-put-behind s at bs j n h g =
      let k : ℕ = j - (at + length bs) in
      let e : at + length bs + k ≡ j = omega arith in
      ap (take n)
      (ap (λ (m : ℕ). drop m (put s at bs)) (sym e)
      ∙ sym (drop-drop k (at + length bs) (put s at bs))
      ∙ ap (drop k) (drop-put s at bs h)
      ∙ drop-drop k (at + length bs) s
      ∙ ap (λ (m : ℕ). drop m s) e)

  -- a turn of the loop that moves within one list: what it reads is still as it was
  pub move-chunk-turn : (d : List A) (at from i c : ℕ) → at ≤ from → from + (i + c) ≤ length d
      → put (put d at (take i (drop from d))) (at + i) (part (from + i) c (put d at (take i (drop from d)))) ≡ put d at (take (i + c) (drop from d))
  unfolding part
  move-chunk-turn d at from i c h k =
      let w : i + c ≤ length (drop from d) = rw length-drop (omega arith) in
      let l : length (take i (drop from d)) ≡ i = length-take-le i (drop from d) (omega arith) in
      let e : part (from + i) c (put d at (take i (drop from d))) ≡ part i c (drop from d) =
      part-put-behind d at (take i (drop from d)) (from + i) c (omega arith) (omega (arith, l)) ∙ ap (take c) (sym (drop-drop i from d)) in
      ap (put (put d at (take i (drop from d))) (at + i)) e ∙ chunk-turn d (drop from d) at i c (omega arith) w

  -- that turn of `remove`, whose last chunk ends with the list
  pub remove-turn : (d s t : List A) (at n total i c : ℕ) → at + n ≤ total → total ≤ length d → i < total - (at + n) → c ≡ min 4096 (total - (at + n) - i)
      → s ≡ put d at (take (min i (total - (at + n))) (drop (at + n) d)) → t ≡ put s (at + i) (part (at + n + i) c s)
      → t ≡ put d at (take (min (i + 4096) (total - (at + n))) (drop (at + n) d))
  remove-turn d s t at n total i c h k l e was is =
      let i0 : min i (total - (at + n)) ≡ i = omega arith in
      let i1 : min (i + 4096) (total - (at + n)) ≡ i + c = omega arith in
      rw (is, was, i0, i1) (move-chunk-turn d at (at + n) i c (omega arith) (omega arith))

  -- all of it moved
  pub removed-all : (at n total i : ℕ) (l : List A) → total - (at + n) ≤ i → put l at (take (min i (total - (at + n))) (drop (at + n) l)) ≡ removed at n total l
  unfolding removed part
  removed-all at n total i l h = let e : min i (total - (at + n)) ≡ total - (at + n) = omega arith in rw e
