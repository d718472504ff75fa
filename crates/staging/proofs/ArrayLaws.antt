-- Laws of the array of block numbers: the loops that free its first entries, and freeing a of them and then b. Assumes nothing.
use mathlib.Core.Path.{◌≡◌, sym, ap, ◌∙◌}
use mathlib.Core.List.{List, [], ◌∷◌, ◌++◌, append_assoc}
use Prim.Native.Nat.{ℕ, zero, suc, ◌+◌, ◌-◌, ◌≤◌, ◌<◌, min}
use native.Mathlib.Nat.{zero-add, add_comm, zero-min, min-zero, suc-min-suc}
use native.Mathlib.Numerals.{add-one}
use native.Mathlib.Omega.{arith}
use lib.ListN.{length, take, drop, set, replicate, length-append, length-drop, length-replicate, get_or-replicate, take-append-drop, replicate-append-replicate}
use lib.Seq.{paste, paste-suc, take-nil, length-take-le, drop_at, drop-drop}
use Rattle.lists.specs.Part.{part, put, removed, freed}
use Rattle.lists.proofs.PartLaws.{drop-take, put-paste, put_front, put_next, removed-paste}
use Rattle.lists.proofs.ArrayLaws.{take-freed, length-freed}

module _ {A : Type 0} where
  pub take_min : (n m : ℕ) (l : List A) → take n (take m l) ≡ take (min n m) l
  take_min zero m l = ap (λ (k : ℕ). take k l) (sym (zero-min m))
  take_min (suc n) zero l = ap (λ (k : ℕ). take k l) (sym (min-zero (suc n)))
  take_min (suc n) (suc m) [] = sym (take-nil (min (suc n) (suc m)))
  take_min (suc n) (suc m) (x ∷ l) = ap (λ (t : List A). x ∷ t) (take_min n m l) ∙ ap (λ (k : ℕ). take k (x ∷ l)) (sym (suc-min-suc n m))

  -- ---- what the loop leaves that copies the elements from n on to the front, and a turn of the one that fills in zeros
  pub front-end : (l : List A) (n total : ℕ) → n ≤ total → total ≤ length l → paste l 0 (drop n l) (total - n) ≡ removed 0 n total l
  front-end l n total h k = rw zero-add at (removed-paste 0 n total l (omega arith) k)

  pub fill-turn : (l : List A) (at n i : ℕ) (z : A) → i < n → at + n ≤ length l → set (paste l at (replicate n z) i) (at + i) z ≡ paste l at (replicate n z) (i + 1)
  fill-turn l at n i z h k =
      let w : i < length (replicate n z) = rw length-replicate h in
      ap (set (paste l at (replicate n z) i) (at + i)) (sym (get_or-replicate n i z z h))
      ∙ paste-suc l at (replicate n z) i z (omega arith) w
      ∙ ap (paste l at (replicate n z)) (sym (add-one i))

  pub fill_end : (l : List A) (at n : ℕ) (z : A) → paste l at (replicate n z) n ≡ put l at (replicate n z)
  fill_end l at n z = rw length-replicate at (put-paste l at (replicate n z))

  -- ---- freed: the rest, the freed entries, what lies behind
  length_rest : (n total : ℕ) (l : List A) → total ≤ length l → length (drop n (take total l)) ≡ total - n
  length_rest n total l k = length-drop n (take total l) ∙ ap (λ (m : ℕ). m - n) (length-take-le total l k)

  pub freed-parts : (z : A) (n total : ℕ) (l : List A) → n ≤ total → total ≤ length l
      → freed z 0 n total l ≡ drop n (take total l) ++ (replicate n z ++ drop total l)
  unfolding freed removed part
  freed-parts z n total l h k =
      let rest = drop n (take total l) in
      let e : part (0 + n) (total - (0 + n)) l ≡ rest = rw zero-add (sym (drop-take n total l)) in
      let m : length rest ≡ total - n = length_rest n total l k in
      let t : length (rest ++ replicate n z) ≡ total = length-append rest (replicate n z) ∙ omega (arith, length-replicate n z) in
      rw (e, put_next l rest (replicate n z) (total - n) m (omega arith), put_front, t, append_assoc)

  pub freed-none : (z : A) (total : ℕ) (l : List A) → total ≤ length l → freed z 0 0 total l ≡ l
  freed-none z total l k = freed-parts z 0 total l (omega arith) k ∙ take-append-drop total l

  drop-freed : (z : A) (n total : ℕ) (l : List A) → n ≤ total → total ≤ length l → drop (total - n) (freed z 0 n total l) ≡ replicate n z ++ drop total l
  drop-freed z n total l h k = rw (freed-parts z n total l h k) (drop_at (drop n (take total l)) _ (total - n) (length_rest n total l k))

  -- a of them freed, then b: a + b freed
  pub freed-freed : (z : A) (a b total : ℕ) (l : List A) → a + b ≤ total → total ≤ length l → freed z 0 b (total - a) (freed z 0 a total l) ≡ freed z 0 (a + b) total l
  freed-freed z a b total l h k =
      let w : length (freed z 0 a total l) ≡ length l = length-freed z 0 a total l (omega arith) k in
      freed-parts z b (total - a) (freed z 0 a total l) (omega arith) (omega arith)
      ∙ rw (take-freed z a total l (omega arith) k, drop-freed z a total l (omega arith) k, drop-drop, ← append_assoc (replicate b z) (replicate a z) (drop total l), replicate-append-replicate, freed-parts z (a + b) total l h k, add_comm b a)
