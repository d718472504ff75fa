-- Laws of arrays: the first n elements one by one, an entry stored, and the array without some entries. Assumes
-- nothing.
use mathlib.Core.Path.{◌≡◌, sym, ap, ◌∙◌}
use mathlib.Core.List.{List, [], ◌∷◌, ◌++◌}
use Prim.Native.Nat.{ℕ, ◌+◌, ◌-◌, ◌≤◌, ◌<◌}
use native.Mathlib.Nat.{zero-add}
use native.Mathlib.Numerals.{add-one}
use native.Mathlib.Omega.{arith}
use lib.ListN.{length, take, drop, get_or, set, replicate, length-drop, length-replicate, drop_of_length-le}
use lib.Seq.{paste, drop-cons, get_or-take, get_or-drop, length-take-le, set_split, append_snoc}
use Rattle.lists.specs.Part.{put, removed, freed}
use Rattle.lists.proofs.PartLaws.{copy-turn, length_removed, length-put, take_put, kept-removed}

module _ {A : Type 0} where
  -- ---- what is left of the first n elements, from element i on
  pub rest-cons : (l : List A) (z : A) (i n : ℕ) → i < n → n ≤ length l → drop i (take n l) ≡ get_or l i z ∷ drop (i + 1) (take n l)
  rest-cons l z i n h k =
      let w : i < length (take n l) = rw (length-take-le n l k) h in
      drop-cons (take n l) i z w ∙ rw (get_or-take n l i z h, add-one)

  pub rest-none : (l : List A) (i n : ℕ) → n ≤ i → n ≤ length l → drop i (take n l) ≡ []
  rest-none l i n h k = let w : length (take n l) ≤ i = rw (length-take-le n l k) h in drop_of_length-le (take n l) w

  -- ---- an entry stored
  pub set-put : (l : List A) (i : ℕ) (a : A) → i < length l → set l i a ≡ put l i (a ∷ [])
  unfolding put
  set-put l i a h = set_split l i a h ∙ rw (add-one i, append_snoc)

  -- ---- without the first n: a turn of the loop that copies the others to the front
  pub front-turn : (l : List A) (n i : ℕ) (z : A) → n + i < length l → set (paste l 0 (drop n l) i) i (get_or l (n + i) z) ≡ paste l 0 (drop n l) (i + 1)
  front-turn l n i z h =
      let w : i < length (drop n l) = rw length-drop (omega arith) in
      ap (set (paste l 0 (drop n l) i) i) (sym (get_or-drop n l i z)) ∙ copy-turn l (drop n l) i z (omega arith) w

  -- ---- freed: what is left stands first, in order
  module _ (z : A) (at n total : ℕ) (l : List A) (h : at + n ≤ total) (k : total ≤ length l) where
    pub kept-freed : take (total - n) (freed z at n total l) ≡ take at l ++ drop (at + n) (take total l)
    unfolding freed
    kept-freed =
        let w : length (removed at n total l) ≡ length l = length_removed at n total l h k in
        take_put (removed at n total l) (total - n) (replicate n z) (omega arith) ∙ kept-removed at n total l h k

    pub length-freed : length (freed z at n total l) ≡ length l
    unfolding freed
    length-freed =
        let w : length (removed at n total l) ≡ length l = length_removed at n total l h k in
        length-put (removed at n total l) (total - n) (replicate n z) (omega (arith, length-replicate n z)) ∙ w

  -- from the front
  pub take-freed : (z : A) (n total : ℕ) (l : List A) → n ≤ total → total ≤ length l → take (total - n) (freed z 0 n total l) ≡ drop n (take total l)
  take-freed z n total l h k = let e : 0 + n ≡ n = zero-add n in rw e at (kept-freed z 0 n total l (omega arith) k)
