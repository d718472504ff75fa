-- Laws of the walk over the marked pages: what is left of it, word by word and mark by mark, and that each of its pages
-- is the next marked one behind the one before. Assumes nothing.
use Prim.Native.Nat.{ℕ, zero, suc, ◌+◌, ◌-◌, ◌*◌, ◌/◌, ◌%◌, ◌^◌, ◌≤◌, ◌<◌}
use mathlib.Core.Path.{◌≡◌, refl, sym, ap, ◌∙◌}
use mathlib.Core.Logic.{◌⊎◌, inl, inr, ⊎_elim}
use mathlib.Core.Bool.{true, false}
use mathlib.Core.List.{List, [], ◌∷◌, ◌++◌, append_assoc}
use native.Mathlib.Nat.{add_assoc, add-suc, zero-add, add-zero, le_refl}
use native.Mathlib.Omega.{arith}
use lib.Bits.{bit_and}
use lib.Count.{count_trailing_zeros, trailing_le}
use lib.ListN.{length, length-append}
use Rattle.std.proofs.lemmas.List.{nil_from_length}
use Rattle.lists.proofs.TestLaws.{by-test, lt-or-ge, eq-or-ne}
use Rattle.marks.specs.Mark.{bit, mark_bit, marked, count_marks}
use Rattle.marks.specs.Next.{NextMarked, marked_pages, marked_from, first_marked}
use Rattle.marks.proofs.BitLaws.{bit-zero, bit_below, bit-from, zeros-under, one_at, zeros-lt, lowest-cleared}
use Rattle.marks.proofs.MarkLaws.{same-mark, marked-past, count-zero, count-suc, count-marked, count-mono, count-more, count_none}
use Rattle.marks.proofs.NextLaws.{next-first}

-- ---- the marks of words, the first of them apart
first-word : (w : ℕ) (ws : List ℕ) (q : ℕ) → q < 64 → mark_bit (w ∷ ws) q ≡ bit w q
unfolding mark_bit
first-word w ws q h =
    let i : q / 64 ≡ 0 = omega arith in
    let k : q % 64 ≡ q = omega arith in
    rw (i, k)

other-words : (w : ℕ) (ws : List ℕ) (q : ℕ) → mark_bit (w ∷ ws) (64 + q) ≡ mark_bit ws q
unfolding mark_bit
other-words w ws q =
    let i : (64 + q) / 64 ≡ suc (q / 64) = omega arith in
    let k : (64 + q) % 64 ≡ q % 64 = omega arith in
    rw (i, k)

clear-first : (ws : List ℕ) (q : ℕ) → q < 64 → marked (0 ∷ ws) q ≡ false
unfolding marked
clear-first ws q h = rw (first-word 0 ws q h, bit-zero)

-- ---- the pages that are left
module _ (base : ℕ) where
  pub from_none : (ws : List ℕ) (n : ℕ) → ((q : ℕ) → q < n → marked ws q ≡ false) → marked_from base ws n ≡ []
  unfolding marked_from
  from_none ws zero h = refl
  from_none ws (suc n) h = rw (h n (omega arith)) (from_none ws n (λ q l. h q (omega arith)))

  -- of a clear word and the words behind it
  from_shifted : (ws : List ℕ) (n : ℕ) → marked_from base (0 ∷ ws) (64 + n) ≡ marked_from (base + 64) ws n
  unfolding marked_from
  from_shifted ws zero = from_none (0 ∷ ws) 64 (λ q l. clear-first ws q l)
  from_shifted ws (suc n) =
      let same : marked (0 ∷ ws) (64 + n) ≡ marked ws n = same-mark (0 ∷ ws) ws (64 + n) n (other-words 0 ws n) in
      rw (add-suc, same, from_shifted ws n, ← add_assoc base 64 n)

  pub from_behind : (ws : List ℕ) (n : ℕ) → 64 ≤ n → marked_from base (0 ∷ ws) n ≡ marked_from (base + 64) ws (n - 64)
  from_behind ws n h = let e : 64 + (n - 64) ≡ n = omega arith in rw e at (from_shifted ws (n - 64))

  -- of two, where b has the marks of a but t, the first of them
  from_first : (a b : List ℕ) (t n : ℕ) → marked a t ≡ true → ((q : ℕ) → q < t → marked a q ≡ false) → ((q : ℕ) → q < suc t → marked b q ≡ false)
      → ((q : ℕ) → t < q → marked a q ≡ marked b q) → t < n → marked_from base a n ≡ (base + t) ∷ marked_from base b n
  unfolding marked_from
  from_first a b t zero there below gone same h = absurd (omega arith)
  from_first a b t (suc n) there below gone same h =
      ⊎_elim
      (λ e. rw (← e, there, from_none a t below, from_none b (suc t) gone))
      (λ ne. let l : t < n = omega arith in
      rw (same n l, from_first a b t n there below gone same l) (⊎_elim (λ e. rw e) (λ e. rw e) (by-test (marked b n))))
      (eq-or-ne t n)

-- no word is left
pub ends : (base n : ℕ) → marked_from base (0 ∷ []) n ≡ []
ends base n = from_none base (0 ∷ []) n (λ q l. ⊎_elim (λ g. clear-first [] q g) (λ g. marked-past (0 ∷ []) q (omega arith)) (lt-or-ge q 64))

-- from page 0 on: the marked pages
pub from_start : (ws : List ℕ) (n : ℕ) → marked_from 0 ws n ≡ marked_pages ws n
unfolding marked_from marked_pages
from_start ws zero = refl
from_start ws (suc n) = rw (zero-add n, from_start ws n)

-- where there is no word
pub from_nothing : (ws : List ℕ) (n : ℕ) → length ws ≡ 0 → marked_from 0 (0 ∷ ws) n ≡ marked_pages ws n
from_nothing ws n e =
    rw (nil_from_length ws e)
    (ends 0 n ∙ sym (from_none 0 [] n (λ q l. marked-past [] q (omega arith))) ∙ from_start [] n)

-- ---- a turn of the walk
module _ (base : ℕ) (ws : List ℕ) (n : ℕ) where
  -- no mark is left of the word, and the walk ends in it
  pub ends-in-word : n ≤ 64 → marked_from base (0 ∷ ws) n ≡ []
  ends-in-word h = from_none base (0 ∷ ws) n (λ q l. clear-first ws q (omega arith))

  module _ (w : ℕ) where
    -- the lowest of its marks is past the last page
    pub ends-below : n ≤ count_trailing_zeros 64 w → marked_from base (w ∷ ws) n ≡ []
    unfolding marked
    ends-below h = from_none base (w ∷ ws) n (λ q k. rw (first-word w ws q (omega (arith, trailing_le 64 w)), zeros-under 64 w q (omega arith)))

    -- it is the next page
    pub steps : 0 < w → w < 2 ^ 64 → count_trailing_zeros 64 w < n
        → marked_from base (w ∷ ws) n ≡ (base + count_trailing_zeros 64 w) ∷ marked_from base (bit_and w (w - 1) ∷ ws) n
    unfolding marked
    steps h f l =
        let t = count_trailing_zeros 64 w in
        let low : t < 64 = zeros-lt 64 w h f in
        let cleared : (q : ℕ) → bit (bit_and w (w - 1)) q ≡ bit (w / 2 ^ suc t * 2 ^ suc t) q = λ q. ap (λ (x : ℕ). bit x q) (lowest-cleared 64 w h f) in
        from_first base (w ∷ ws) (bit_and w (w - 1) ∷ ws) t n
        (rw (first-word w ws t low, one_at 64 w low))
        (λ q k. rw (first-word w ws q (omega arith), zeros-under 64 w q k))
        (λ q k. rw (first-word (bit_and w (w - 1)) ws q (omega arith), cleared q, bit_below w (suc t) q k))
        (λ q k. ⊎_elim
        (λ g. rw (first-word w ws q g, first-word (bit_and w (w - 1)) ws q g, cleared q, bit-from w (suc t) q k))
        (λ g. let e : 64 + (q - 64) ≡ q = omega arith in rw (← e, other-words w ws (q - 64), other-words (bit_and w (w - 1)) ws (q - 64)))
        (lt-or-ge q 64))
        l

-- ---- how many they are, and that they lie below m
pub length-marked-pages : (ws : List ℕ) (m : ℕ) → length (marked_pages ws m) ≡ count_marks ws m
unfolding marked_pages
length-marked-pages ws zero = sym (count-zero ws)
length-marked-pages ws (suc m) =
    rw count-suc
    (⊎_elim
    (λ e. rw e (rw (length-append, length-marked-pages ws m)))
    (λ e. rw e (length-marked-pages ws m ∙ sym (add-zero _)))
    (by-test (marked ws m)))

-- a list with one element more at its end, taken apart at p
snoc-parts : (xs ys after : List ℕ) (m p : ℕ) → xs ++ m ∷ [] ≡ ys ++ p ∷ after
    → ((xs ≡ ys) × (m ≡ p)) ⊎ ((less : List ℕ) × (xs ≡ ys ++ p ∷ less))
snoc-parts [] [] after m p e = inl (refl, (cc))
snoc-parts [] (y ∷ ys) after m p e = absurd (omega (arith, ap length e, length-append ys (p ∷ after)))
snoc-parts (x ∷ xs) [] after m p e = inr (xs, (cc))
snoc-parts (x ∷ xs) (y ∷ ys) after m p e =
    let head : x ≡ y = cc in
    let tail : xs ++ m ∷ [] ≡ ys ++ p ∷ after = cc in
    ⊎_elim
    (λ s. inl (rw (head, s.0), s.1))
    (λ s. inr (s.0, rw (head, s.1)))
    (snoc-parts xs ys after m p tail)

-- a page of them: it is marked, and those before it are the marked pages below it
pub record PageOf (ws : List ℕ) (m : ℕ) (before : List ℕ) (p : ℕ) : Type 0 where
  pub within : p < m
  pub found : marked ws p ≡ true
  pub below : before ≡ marked_pages ws p

pub page-of : (ws : List ℕ) (m : ℕ) (before after : List ℕ) (p : ℕ) → marked_pages ws m ≡ before ++ p ∷ after → PageOf ws m before p
unfolding marked_pages
page-of ws zero before after p e = absurd (omega (arith, ap length e, length-append before (p ∷ after)))
page-of ws (suc m) before after p e =
    ⊎_elim
    (λ t.
    ⊎_elim
    (λ s. record { within = omega (arith, s.1); found = rw (← s.1) t; below = rw (← s.1, s.0) })
    (λ s. let r = page-of ws m before s.0 p s.1 in record { within = omega (arith, r.within); found = r.found; below = r.below })
    (snoc-parts (marked_pages ws m) before after m p (rw t at e)))
    (λ f. let r = page-of ws m before after p (rw f at e) in record { within = omega (arith, r.within); found = r.found; below = r.below })
    (by-test (marked ws m))

-- ---- from one of them to the next
-- where the count does not grow from page p to page m, none between them is marked
between-none : (ws : List ℕ) (p m : ℕ) → count_marks ws m ≤ count_marks ws p → (q : ℕ) → p ≤ q → q < m → marked ws q ≡ false
between-none ws p m same q a l = ⊎_elim (λ t. absurd (omega (arith, count-more ws q m l t, count-mono ws p q a))) (λ f. f) (by-test (marked ws q))

-- behind the last of them none is marked
pub walk-last : (ws : List ℕ) (m : ℕ) (before : List ℕ) (p : ℕ) → marked_pages ws m ≡ before ++ p ∷ [] → NextMarked ws (p + 1) m m
walk-last ws m before p e =
    let last = page-of ws m before [] p e in
    let all : count_marks ws m ≡ length before + 1 = sym (length-marked-pages ws m) ∙ ap length e ∙ length-append before (p ∷ []) in
    let below : length before ≡ count_marks ws p = ap length last.below ∙ length-marked-pages ws p in
    record {
      up = omega arith;
      within = le_refl m;
      none = between-none ws (p + 1) m (omega (arith, all, below, count-marked ws p last.found));
      found = λ l. absurd (omega arith);
    }

-- the page that follows page p in the list is the next marked page
pub walk-next : (ws : List ℕ) (m : ℕ) (before after : List ℕ) (p q : ℕ) → marked_pages ws m ≡ before ++ p ∷ q ∷ after → NextMarked ws (p + 1) m q
walk-next ws m before after p q e =
    let there = page-of ws m (before ++ p ∷ []) after q (rw append_assoc e) in
    let below = sym there.below in
    record {
      up = omega (arith, (page-of ws q before [] p below).within);
      within = omega (arith, there.within);
      none = (walk-last ws q before p below).none;
      found = λ l. there.found;
    }

-- the first of them
pub pages_none : (ws : List ℕ) (m : ℕ) → marked_pages ws m ≡ [] → (q : ℕ) → q < m → marked ws q ≡ false
pages_none ws m e = count_none ws m (sym (length-marked-pages ws m) ∙ ap length e)

pub walk-none : (ws : List ℕ) (m : ℕ) → marked_pages ws m ≡ [] → NextMarked ws 0 m m
walk-none ws m e = record { up = omega arith; within = le_refl m; none = λ q a b. pages_none ws m e q b; found = λ l. absurd (omega arith) }

pub walk-first : (ws : List ℕ) (m q : ℕ) (after : List ℕ) → marked_pages ws m ≡ q ∷ after → NextMarked ws 0 m q
walk-first ws m q after e =
    let first = page-of ws m [] after q e in
    record { up = omega arith; within = omega (arith, first.within); none = λ r a b. pages_none ws q (sym first.below) r b; found = λ l. first.found }

pub first-none : (ws : List ℕ) (m : ℕ) → marked_pages ws m ≡ [] → m ≡ first_marked ws m
first-none ws m e = next-first (walk-none ws m e)

pub first-some : (ws : List ℕ) (m p : ℕ) (after : List ℕ) → marked_pages ws m ≡ p ∷ after → p ≡ first_marked ws m
first-some ws m p after e = next-first (walk-first ws m p after e)
