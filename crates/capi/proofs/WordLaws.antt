-- Laws of words: their fields of 32 and of 16 bits, and the loops that read and store them. Assumes nothing.
use mathlib.Core.Path.{◌≡◌, refl, sym, ap, ◌∙◌}
use mathlib.Core.List.{List, [], ◌∷◌, ◌++◌, append_assoc}
use mathlib.Core.Bool.{Bool, true, false, ◌&&◌}
use Prim.Native.Nat.{ℕ, suc, zero, ◌+◌, ◌-◌, ◌^◌, ◌≤◌, ◌<◌}
use native.Mathlib.Numerals.{add-one}
use Rattle.std.specs.Int.{from_bool}
use borrow.Rule.Slice.PartMut.{put_mid}
use native.Mathlib.Nat.{add-zero, zero-add}
use native.Mathlib.Omega.{arith}
use borrow.Author.Tests.{leb-true, le-leb}
use lib.Bits.{bit_or, or_lt, or_add_and, and_le_l, and_le_r}
use lib.Dec.{leb}
use lib.ListN.{length, take, drop, get_or, set, take-append-drop}
use lib.Seq.{drop-cons, drop-drop, take-suc-set, take-suc, take_all, take-append-le, drop-append-le, length-take-le, get_or-take, get_or-drop}
use Rattle.lists.specs.Part.{part, put}
use Rattle.lists.proofs.PartLaws.{put-put, length-put, put-none, length_part}
use Rattle.lists.proofs.ArrayLaws.{set-put, rest-cons, rest-none}
use Rattle.lists.proofs.ChunkLaws.{part-most}
use Rattle.lists.proofs.TestLaws.{agree, both, join}
use Rattle.capi.specs.Word.{all_fit, between, flag_word}

-- ---- fields whose largest number is most
module _ (most : ℕ) where
  -- the test of the words from i on, one word more; and no word
  pub fits_more : (w : List ℕ) (i n : ℕ) → i < n → n ≤ length w → all_fit most (between i n w) ≡ (leb (get_or w i 0) most && all_fit most (between (i + 1) n w))
  unfolding all_fit
  fits_more w i n h k = rw (rest-cons w 0 i n h k)

  pub fits-end : (w : List ℕ) (i n : ℕ) → n ≤ i → n ≤ length w → all_fit most (between i n w) ≡ true
  unfolding all_fit
  fits-end w i n h k = rw (rest-none w i n h k)

  -- a word among those that all fit
  fits-first : (w : List ℕ) (at to : ℕ) → all_fit most (between at to w) ≡ true → at < to → to ≤ length w → (get_or w at 0 < most + 1) × (all_fit most (between (at + 1) to w) ≡ true)
  fits-first w at to e h l =
      let b = both (leb (get_or w at 0) most) (all_fit most (between (at + 1) to w)) (sym (fits_more w at to h l) ∙ e) in
      let n : get_or w at 0 ≤ most = leb-true (get_or w at 0) most b.0 in
      (omega arith, b.1)

  fits-from : (w : List ℕ) (d at to i : ℕ) → all_fit most (between at to w) ≡ true → i ≡ at + d → i < to → to ≤ length w → get_or w i 0 < most + 1
  fits-from w zero at to i e p q l = let m : i ≡ at = omega arith in rw m (fits-first w at to e (omega arith) l).0
  fits-from w (suc d) at to i e p q l = fits-from w d (at + 1) to i (fits-first w at to e (omega arith) l).1 (omega arith) q l

  pub fits-at : (w : List ℕ) (from to i : ℕ) → all_fit most (between from to w) ≡ true → from ≤ i → i < to → to ≤ length w → get_or w i 0 < most + 1
  fits-at w from to i e h k l = fits-from w (i - from) from to i e (omega arith) k l

  -- words that all fit: none, one and the rest, one behind others, one replaced
  pub fits-none : all_fit most [] ≡ true
  unfolding all_fit
  fits-none = refl

  pub fits-cons : (n : ℕ) (w : List ℕ) → n < most + 1 → all_fit most w ≡ true → all_fit most (n ∷ w) ≡ true
  unfolding all_fit
  fits-cons n w h e = join (leb n most) (all_fit most w) (le-leb n most (omega arith)) e

  fits-behind : (w : List ℕ) (n : ℕ) → all_fit most w ≡ true → n < most + 1 → all_fit most (w ++ (n ∷ [])) ≡ true
  unfolding all_fit
  fits-behind [] n e h = fits-cons n [] h e
  fits-behind (a ∷ w) n e h = let b = both (leb a most) (all_fit most w) e in join (leb a most) (all_fit most (w ++ (n ∷ []))) b.0 (fits-behind w n b.1 h)

  pub fits-take-more : (w : List ℕ) (i : ℕ) → i < length w → all_fit most (take i w) ≡ true → get_or w i 0 < most + 1 → all_fit most (take (i + 1) w) ≡ true
  fits-take-more w i h e k = rw (add-one i, take-suc w i 0 h) (fits-behind (take i w) (get_or w i 0) e k)

  pub fits-set : (w : List ℕ) (i n : ℕ) → all_fit most w ≡ true → n < most + 1 → all_fit most (set w i n) ≡ true
  unfolding all_fit
  fits-set [] i n e h = e
  fits-set (a ∷ w) zero n e h = fits-cons n w h (both (leb a most) (all_fit most w) e).1
  fits-set (a ∷ w) (suc i) n e h = let b = both (leb a most) (all_fit most w) e in join (leb a most) (all_fit most (set w i n)) b.0 (fits-set w i n b.1 h)

-- the bits of two words together fit exactly where both words do
pub fits_or : (k most a b : ℕ) → most + 1 ≡ 2 ^ k → leb (bit_or a b) most ≡ leb a most && leb b most
fits_or k most a b e =
    let s = or_add_and a b in
    agree (leb (bit_or a b) most) (leb a most && leb b most)
    (λ h. let o = leb-true (bit_or a b) most h in join (leb a most) (leb b most) (le-leb a most (omega (arith, s, and_le_r a b))) (le-leb b most (omega (arith, s, and_le_l a b))))
    (λ h.
    let p = both (leb a most) (leb b most) h in
    let low : a < 2 ^ k = rw (sym e) (omega (arith, leb-true a most p.0)) in
    let high : b < 2 ^ k = rw (sym e) (omega (arith, leb-true b most p.1)) in
    let o : bit_or a b < most + 1 = rw e (or_lt k a b low high) in
    le-leb (bit_or a b) most (omega arith))

-- nothing is left to test
pub test-end : (a b : Bool) → b ≡ true → a && b ≡ a
test-end true b e = e
test-end false b e = refl

-- ---- words one by one: n of them from i on, before others; before those that follow they are all from i on
abbrev pub words_from : ℕ → ℕ → List ℕ → List ℕ → List ℕ
words_from zero i w rest = rest
words_from (suc n) i w rest = get_or w i 0 ∷ words_from n (suc i) w rest

pub words-from : (n i : ℕ) (w : List ℕ) → i + n ≤ length w → words_from n i w (drop (i + n) w) ≡ drop i w
words-from zero i w h = rw add-zero
words-from (suc n) i w h =
    let e : i + suc n ≡ suc i + n = omega arith in
    rw e (ap (λ (l : List ℕ). get_or w i 0 ∷ l) (words-from n (suc i) w (omega arith)) ∙ sym (drop-cons w i 0 (omega arith)))

-- ---- a bool cast to a word is its flag
pub flag_is : (b : Bool) → from_bool b ≡ flag_word b
flag_is true = refl
flag_is false = refl

-- ---- reading and storing
module _ {A : Type 0} where
  -- the words up to the last are all from a place on; those up to another are before the others
  pub between-all : (s : List A) (from to : ℕ) → length s ≤ to → drop from (take to s) ≡ drop from s
  between-all s from to h = ap (drop from) (take_all to s h)

  pub between-rest : (s : List A) (from to : ℕ) → from ≤ to → to ≤ length s → drop from (take to s) ++ drop to s ≡ drop from s
  between-rest s from to h k =
      let n : length (take to s) ≡ to = length-take-le to s k in
      sym (drop-append-le from (take to s) (drop to s) (omega arith)) ∙ ap (drop from) (take-append-drop to s)

  pub part-get : (s : List A) (at n i : ℕ) (z : A) → i < n → get_or (part at n s) i z ≡ get_or s (at + i) z
  unfolding part
  part-get s at n i z h = rw (get_or-take n (drop at s) i z h, get_or-drop at s i z)

  -- an array that is filled with a part of a list
  pub part-turn : (s l : List A) (at n i : ℕ) (z : A) → i < n → i < length l → at + n ≤ length s → take i l ≡ take i (part at n s)
      → take (i + 1) (set l i (get_or s (at + i) z)) ≡ take (i + 1) (part at n s)
  part-turn s l at n i z h k m e =
      let len : length (part at n s) ≡ n = length_part at n s m in
      let at_i : get_or (part at n s) i z ≡ get_or s (at + i) z = part-get s at n i z h in
      rw (add-one i, take-suc-set l i (get_or s (at + i) z) k, take-suc (part at n s) i z (omega arith), e, at_i)

  pub part_end : (s l : List A) (at n : ℕ) → length l ≡ n → take n l ≡ take n (part at n s) → l ≡ part at n s
  part_end s l at n h e = sym (take_all n l (omega arith)) ∙ e ∙ take_all n (part at n s) (part-most at n s)

  -- a part of a list that comes back written over
  pub part-put : (d s : List A) (at n : ℕ) → length s ≡ n → put_mid at n d s ≡ put d at s
  unfolding put
  part-put d s at n h = rw (drop-drop, ← h) (sym (append_assoc (take at d) s (drop (at + length s) d)))

  -- an element stored behind a list that is put
  set_next : (d s : List A) (at i : ℕ) (a : A) → i ≡ at + length s → i < length d → set (put d at s) i a ≡ put d at (s ++ (a ∷ []))
  set_next d s at i a e h =
      let m : length (put d at s) ≡ length d = length-put d at s (omega arith) in
      set-put (put d at s) i a (omega arith) ∙ rw (e, put-put d at s (a ∷ []) (omega arith))

  -- one element more of a list that is copied in
  pub store-turn : (d s : List A) (at i : ℕ) (z : A) → i < length s → at + length s ≤ length d
      → set (put d at (take i s)) (at + i) (get_or s i z) ≡ put d at (take (i + 1) s)
  store-turn d s at i z h k =
      let n : length (take i s) ≡ i = length-take-le i s (omega arith) in
      set_next d (take i s) at (at + i) (get_or s i z) (omega arith) (omega arith) ∙ rw (add-one i, take-suc s i z h)

  pub store-none : (d s : List A) (at : ℕ) → d ≡ put d at (take 0 s)
  store-none d s at = sym (put-none d at)

  pub store-end : (d s : List A) (at i : ℕ) → i ≡ length s → put d at (take i s) ≡ put d at s
  store-end d s at i e = ap (put d at) (take_all i s (omega arith))

  -- what is put behind a first part of the list leaves that part
  pub put-behind : (a b bs : List A) (k : ℕ) → put (a ++ b) (length a + k) bs ≡ a ++ put b k bs
  unfolding put
  put-behind [] b bs k = rw (zero-add k)
  put-behind (x ∷ a) b bs k =
      let e : length (x ∷ a) + k ≡ suc (length a + k) = omega arith in
      let d : suc (length a + k) + length bs ≡ suc (length a + k + length bs) = omega arith in
      rw (e, d) (ap (λ (l : List A). x ∷ l) (put-behind a b bs k))

  -- and what is put into that part leaves the rest; the same of one element
  pub put-inside : (a b bs : List A) (k : ℕ) → k + length bs ≤ length a → put (a ++ b) k bs ≡ put a k bs ++ b
  unfolding put
  put-inside a b bs k h =
      rw (take-append-le k a b (omega arith), drop-append-le (k + length bs) a b h)
      (sym (append_assoc (take k a ++ bs) (drop (k + length bs) a) b))

  pub set-behind : (a b : List A) (i : ℕ) (x : A) → set (a ++ b) (length a + i) x ≡ a ++ set b i x
  set-behind [] b i x = rw (zero-add i)
  set-behind (y ∷ a) b i x =
      let e : length (y ∷ a) + i ≡ suc (length a + i) = omega arith in
      rw e (ap (λ (l : List A). y ∷ l) (set-behind a b i x))

  -- three stores
  pub three-put : (l : List A) (at : ℕ) (a b c : A) → at + 3 ≤ length l → set (set (set l at a) (at + 1) b) (at + 2) c ≡ put l at (a ∷ b ∷ c ∷ [])
  three-put l at a b c h =
      ap (λ (x : List A). set (set x (at + 1) b) (at + 2) c) (set-put l at a (omega arith))
      ∙ ap (λ (x : List A). set x (at + 2) c) (set_next l (a ∷ []) at (at + 1) b (omega arith) (omega arith))
      ∙ set_next l (a ∷ b ∷ []) at (at + 2) c (omega arith) (omega arith)
