-- Laws of parts: putting, composing writers, a part of a slice coming back, and removal. Assumes nothing.
use mathlib.Core.Path.{◌≡◌, refl, sym, ap, ap₂, ◌∙◌, subst}
use mathlib.Core.List.{List, [], ◌∷◌, ◌++◌, append_assoc, append-nil}
use Prim.Native.Nat.{ℕ, zero, suc, ◌+◌, ◌-◌, ◌≤◌, ◌<◌}
use native.Mathlib.Nat.{zero-add, add-zero, add_assoc, le_refl, sub-zero, zero-sub, suc-sub-suc}
use native.Mathlib.Numerals.{add-one}
use native.Mathlib.Omega.{arith}
use lib.ListN.{length, get_or, set, take, drop, length-append, length-drop, take-append-drop, drop_of_length-le}
use lib.Seq.{paste, paste-suc, length-paste, take-nil, take-length, take_all, length-take-le, drop_at, take_at, drop-drop, take-add}
use borrow.Rule.Slice.PartMut.{put_mid, mid_of}
use Rattle.lists.specs.Part.{part, put, removed, PutDone}

module _ {A : Type 0} where
  -- ---- parts
  pub length_part : (at n : ℕ) (l : List A) → at + n ≤ length l → length (part at n l) ≡ n
  unfolding part
  length_part at n l h = length-take-le n (drop at l) (rw length-drop (omega arith))

  -- two parts, one behind the other, are one
  pub part_join : (i a b : ℕ) (l : List A) → part i a l ++ part (i + a) b l ≡ part i (a + b) l
  unfolding part
  part_join i a b l = rw (take-add, drop-drop)

  pub part-zero : (n : ℕ) (l : List A) → part 0 n l ≡ take n l
  unfolding part
  part-zero n l = refl

  -- the part that `&s[at..e]` lends
  pub part-lent : (at n : ℕ) (l : List A) → take (at + n - at) (drop at l) ≡ part at n l
  unfolding part
  part-lent at n l = let e : at + n - at ≡ n = omega arith in rw e

  -- the first n elements without the first i of them
  pub drop-take : (i n : ℕ) (l : List A) → drop i (take n l) ≡ take (n - i) (drop i l)
  drop-take zero n l = ap (λ (k : ℕ). take k l) (sym (sub-zero n))
  drop-take (suc i) zero l = ap (λ (k : ℕ). take k (drop (suc i) l)) (sym (zero-sub (suc i)))
  drop-take (suc i) (suc n) [] = sym (take-nil (suc n - suc i))
  drop-take (suc i) (suc n) (x ∷ l) = drop-take i n l ∙ ap (λ (k : ℕ). take k (drop i l)) (sym (suc-sub-suc n i))

  -- ---- put
  pub put-paste : (s : List A) (at : ℕ) (bs : List A) → paste s at bs (length bs) ≡ put s at bs
  unfolding put
  put-paste s at bs = rw take-length

  pub length-put : (s : List A) (at : ℕ) (bs : List A) → at + length bs ≤ length s → length (put s at bs) ≡ length s
  length-put s at bs h = ap length (sym (put-paste s at bs)) ∙ length-paste s at bs (length bs) h (le_refl (length bs))

  pub put-none : (s : List A) (at : ℕ) → put s at [] ≡ s
  unfolding put
  put-none s at = rw (add-zero, append-nil, take-append-drop)

  pub put_front : (s bs : List A) → put s 0 bs ≡ bs ++ drop (length bs) s
  unfolding put
  put_front s bs = rw zero-add

  -- what is put at the head is what the list then begins with
  pub take-put-front : (s bs : List A) (n : ℕ) → length bs ≡ n → take n (put s 0 bs) ≡ bs
  take-put-front s bs n e = ap (take n) (put_front s bs) ∙ take_at bs (drop (length bs) s) n e

  -- the first n elements replaced, as `&mut s[..n]` comes back
  pub put-head : (s bs ys : List A) (n : ℕ) → ys ≡ bs → n ≡ length bs → ys ++ drop n s ≡ put s 0 bs
  put-head s bs ys n e h = rw (e, h) (sym (put_front s bs))

  -- all of a list replaced
  pub put_whole : (s bs : List A) → length bs ≡ length s → put s 0 bs ≡ bs
  put_whole s bs h =
      let le : length s ≤ length bs = omega arith in
      put_front s bs ∙ ap (λ (l : List A). bs ++ l) (drop_of_length-le s le) ∙ append-nil bs

  part-in-place : (s : List A) (at n : ℕ) → take at s ++ part at n s ++ drop (at + n) s ≡ s
  unfolding part
  part-in-place s at n = rw (← take-add at n s, take-append-drop)

  -- a part put back where it was
  pub put_same : (s : List A) (at n : ℕ) → at + n ≤ length s → put s at (part at n s) ≡ s
  unfolding put
  put_same s at n h = rw (length_part at n s h) (part-in-place s at n)

  -- two writers, one after the other
  pub put-put : (s : List A) (at : ℕ) (a b : List A) → at + length a ≤ length s → put (put s at a) (at + length a) b ≡ put s at (a ++ b)
  unfolding put
  put-put s at a b h =
      let e : length (take at s ++ a) ≡ at + length a = length-append (take at s) a ∙ ap (λ (n : ℕ). n + length a) (length-take-le at s (omega arith)) in
      ap (λ (l : List A). l ++ b ++ drop (at + length a + length b) (take at s ++ a ++ drop (at + length a) s)) (take_at (take at s ++ a) (drop (at + length a) s) (at + length a) e)
      ∙ ap (λ (l : List A). take at s ++ a ++ b ++ l)
      (sym (drop-drop (length b) (at + length a) (take at s ++ a ++ drop (at + length a) s))
      ∙ ap (drop (length b)) (drop_at (take at s ++ a) (drop (at + length a) s) (at + length a) e)
      ∙ drop-drop (length b) (at + length a) s
      ∙ ap (λ (n : ℕ). drop n s) (add_assoc at (length a) (length b) ∙ ap (λ (n : ℕ). at + n) (sym (length-append a b))))
      ∙ ap (λ (l : List A). l ++ drop (at + length (a ++ b)) s) (append_assoc (take at s) a b)

  -- the same at the head, where the first writer's length is known
  pub put_next : (s a b : List A) (n : ℕ) → length a ≡ n → n ≤ length s → put (put s 0 a) n b ≡ put s 0 (a ++ b)
  put_next s a b n e h =
      ap (λ (k : ℕ). put (put s 0 a) k b) (sym (zero-add (length a) ∙ e)) ∙ put-put s 0 a b (omega arith)

  -- what is put at at is read at at, and what lies before it stays
  pub part-put : (s : List A) (at : ℕ) (bs : List A) → at ≤ length s → part at (length bs) (put s at bs) ≡ bs
  unfolding part put
  part-put s at bs h =
      let e : length (take at s) ≡ at = length-take-le at s h in
      rw append_assoc
      (ap (take (length bs)) (drop_at (take at s) (bs ++ drop (at + length bs) s) at e) ∙ take_at bs (drop (at + length bs) s) (length bs) refl)

  pub take_put : (s : List A) (at : ℕ) (bs : List A) → at ≤ length s → take at (put s at bs) ≡ take at s
  unfolding put
  take_put s at bs h = rw append_assoc (take_at (take at s) (bs ++ drop (at + length bs) s) at (length-take-le at s h))

  pub take-put-end : (s : List A) (at : ℕ) (bs : List A) → at ≤ length s → take (at + length bs) (put s at bs) ≡ take at s ++ bs
  unfolding put
  take-put-end s at bs h =
      let e : length (take at s ++ bs) ≡ at + length bs = length-append (take at s) bs ∙ ap (λ (n : ℕ). n + length bs) (length-take-le at s h) in
      take_at (take at s ++ bs) (drop (at + length bs) s) (at + length bs) e

  pub drop-put : (s : List A) (at : ℕ) (bs : List A) → at ≤ length s → drop (at + length bs) (put s at bs) ≡ drop (at + length bs) s
  unfolding put
  drop-put s at bs h =
      let e : length (take at s ++ bs) ≡ at + length bs = length-append (take at s) bs ∙ ap (λ (n : ℕ). n + length bs) (length-take-le at s h) in
      drop_at (take at s ++ bs) (drop (at + length bs) s) (at + length bs) e

  -- ---- a part of a slice coming back from the writer that it was lent to

  -- bytes put at k of the part from at on are put at at + k of the whole
  put-drop : (s : List A) (at k : ℕ) (bs : List A) → at + k ≤ length s → take at s ++ put (drop at s) k bs ≡ put s (at + k) bs
  unfolding put
  put-drop s at k bs h =
      rw (drop-drop, add_assoc at k (length bs), take-add at k s) (simp append_assoc)

  -- `&mut s[at..]`
  pub part-back : (s : List A) (at k : ℕ) (ys bs : List A) → at + k ≤ length s → ys ≡ put (mid_of at (length s - at) s) k bs
      → put_mid at (length s - at) s ys ≡ put s (at + k) bs
  part-back s at k ys bs h e =
      let le : length (drop at s) ≤ length s - at = rw length-drop (le_refl _) in
      rw (e, take_all (length s - at) (drop at s) le, drop_of_length-le (drop at s) le, append-nil) (put-drop s at k bs h)

  -- the same for a writer to the head of the part
  pub part-back-front : (s : List A) (at : ℕ) (ys bs : List A) → at ≤ length s → ys ≡ put (mid_of at (length s - at) s) 0 bs
      → put_mid at (length s - at) s ys ≡ put s at bs
  part-back-front s at ys bs h e =
      part-back s at 0 ys bs (omega arith) e ∙ ap (λ (n : ℕ). put s n bs) (add-zero at)

  -- `&mut s[at..at + n]`, with bs stored in it
  pub part-stored : (s : List A) (at n : ℕ) (ys bs : List A) → ys ≡ bs → length bs ≡ n → put_mid at (at + n - at) s ys ≡ put s at bs
  unfolding put
  part-stored s at n ys bs e h = let k : at + n - at ≡ length bs = omega (arith, h) in rw (e, k, append_assoc, drop-drop)

  -- ---- removal
  pub length_removed : (at n total : ℕ) (l : List A) → at + n ≤ total → total ≤ length l → length (removed at n total l) ≡ length l
  unfolding removed
  length_removed at n total l h k =
      let e : length (part (at + n) (total - (at + n)) l) ≡ total - (at + n) = length_part (at + n) (total - (at + n)) l (omega arith) in
      length-put l at (part (at + n) (total - (at + n)) l) (omega arith)

  -- what is left, from at on: the rest of the first total
  pub part-removed : (at n total : ℕ) (l : List A) → at + n ≤ total → total ≤ length l
      → part at (total - (at + n)) (removed at n total l) ≡ part (at + n) (total - (at + n)) l
  unfolding removed
  part-removed at n total l h k =
      let rest = part (at + n) (total - (at + n)) l in
      let e : length rest ≡ total - (at + n) = length_part (at + n) (total - (at + n)) l (omega arith) in
      ap (λ (m : ℕ). part at m (put l at rest)) (sym e) ∙ part-put l at rest (omega arith)

  -- what is left of the first total: what lies before at, and the rest
  pub kept-removed : (at n total : ℕ) (l : List A) → at + n ≤ total → total ≤ length l → take (total - n) (removed at n total l) ≡ take at l ++ drop (at + n) (take total l)
  unfolding removed part
  kept-removed at n total l h k =
      let rest = part (at + n) (total - (at + n)) l in
      let e : at + length rest ≡ total - n = omega (arith, length_part (at + n) (total - (at + n)) l (omega arith)) in
      rw e at (take-put-end l at rest (omega arith)) ∙ ap (λ (r : List A). take at l ++ r) (sym (drop-take (at + n) total l))

  -- removed from the front: what is left stands first, in order
  pub take-removed : (n total : ℕ) (l : List A) → n ≤ total → total ≤ length l → take (total - n) (removed 0 n total l) ≡ drop n (take total l)
  take-removed n total l h k =
      let z : 0 + n ≡ n = zero-add n in
      rw z at (kept-removed 0 n total l (omega arith) k)

  -- and the bytes behind stay
  pub drop-removed : (at n total : ℕ) (l : List A) → at + n ≤ total → total ≤ length l → drop (total - n) (removed at n total l) ≡ drop (total - n) l
  unfolding removed
  drop-removed at n total l h k =
      let rest = part (at + n) (total - (at + n)) l in
      let e : at + length rest ≡ total - n = omega (arith, length_part (at + n) (total - (at + n)) l (omega arith)) in
      rw e at (drop-put l at rest (omega arith))

  pub removed-none : (at total : ℕ) (l : List A) → at ≤ total → total ≤ length l → removed at 0 total l ≡ l
  unfolding removed
  removed-none at total l h k = rw (add-zero at) (put_same l at (total - at) (omega arith))

  -- a turn of the loop that copies to the head
  pub copy-turn : (d s : List A) (i : ℕ) (z : A) → i < length d → i < length s → set (paste d 0 s i) i (get_or s i z) ≡ paste d 0 s (i + 1)
  copy-turn d s i z h k =
      ap (λ (n : ℕ). set (paste d 0 s i) n (get_or s i z)) (sym (zero-add i))
      ∙ paste-suc d 0 s i z (subst (λ (n : ℕ). n < length d) (sym (zero-add i)) h) k
      ∙ ap (paste d 0 s) (sym (add-one i))

  pub removed-paste : (at n total : ℕ) (l : List A) → at + n ≤ total → total ≤ length l → paste l at (drop (at + n) l) (total - (at + n)) ≡ removed at n total l
  unfolding removed put part
  removed-paste at n total l h k =
      let e : length (take (total - (at + n)) (drop (at + n) l)) ≡ total - (at + n) = length-take-le (total - (at + n)) (drop (at + n) l) (rw length-drop (omega arith)) in
      rw e

-- ---- writers that are told a position, one after the other
pub put-done-none : (s : List ℕ) (at : ℕ) → PutDone [] s at s at
put-done-none s at = record { bytes = sym (put-none s at); position = omega arith }

pub put-done-more : (a b s t v : List ℕ) (at n r : ℕ) → at + length a ≤ length s → PutDone a s at t n → PutDone b t n v r → PutDone (a ++ b) s at v r
put-done-more a b s t v at n r h x y =
    record {
      bytes = y.bytes ∙ ap₂ (λ (l : List ℕ) (k : ℕ). put l k b) x.bytes x.position ∙ put-put s at a b h;
      position = omega (arith, x.position, y.position, length-append a b);
    }

pub put-done-length : (a s t : List ℕ) (at n : ℕ) → at + length a ≤ length s → PutDone a s at t n → length t ≡ length s
put-done-length a s t at n h x = ap length x.bytes ∙ length-put s at a h
