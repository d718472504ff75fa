-- Laws of the elements that pass a test: one list behind another, the first that passes and the search for it, the list
-- without one of its elements, and numbers in a list. Assumes nothing.
use mathlib.Core.Path.{◌≡◌, refl, sym, ap, ◌∙◌, subst}
use mathlib.Core.Bool.{Bool, true, false, cond, true≢false}
use mathlib.Core.Logic.{⊎_elim}
use mathlib.Core.List.{List, [], ◌∷◌, ◌++◌, append-nil}
use Prim.Native.Nat.{ℕ, zero, suc, ◌+◌, ◌≤◌, ◌<◌}
use native.Mathlib.Omega.{arith}
use lib.Dec.{eqb}
use lib.ListN.{length, take, drop, get_or}
use lib.Seq.{drop-nil}
use borrow.Author.Tests.{ltb-true, ltb-false, lt-ltb, le-ltb, eqb-true, eqb-false, eq-eqb, ne_eqb}
use Rattle.lists.proofs.TestLaws.{by-test, agree, cond-true, cond-false}
use Rattle.lists.proofs.ArrayLaws.{rest-cons, rest-none}
use Rattle.lists.specs.Select.{selected, place_of, without, place_in, is_in, times_in, NoRepeats}

module _ {A : Type 0} where
  -- ---- the list without its i-th element
  pub without-parts : (i : ℕ) (l : List A) → i < length l → without i l ≡ take i l ++ drop (i + 1) l
  unfolding without
  without-parts i [] h = absurd (omega arith)
  without-parts zero (x ∷ xs) h = refl
  without-parts (suc i) (x ∷ xs) h =
      let e : suc i + 1 ≡ suc (i + 1) = omega arith in
      rw e (ap (λ (l : List A). x ∷ l) (without-parts i xs (omega arith)))

  pub length_without : (i : ℕ) (l : List A) → i < length l → length (without i l) + 1 ≡ length l
  unfolding without
  length_without i [] h = absurd (omega arith)
  length_without zero (x ∷ xs) h = omega arith
  length_without (suc i) (x ∷ xs) h = omega (arith, length_without i xs (omega arith))

-- ---- those that pass a test
module _ {A : Type 0} (f : A → Bool) where
  -- the first element passes, or it does not
  pub selected-yes : (x : A) (xs : List A) → f x ≡ true → selected f (x ∷ xs) ≡ x ∷ selected f xs
  unfolding selected
  selected-yes x xs e = rw e

  pub selected-no : (x : A) (xs : List A) → f x ≡ false → selected f (x ∷ xs) ≡ selected f xs
  unfolding selected
  selected-no x xs e = rw e

  pub place-yes : (x : A) (xs : List A) → f x ≡ true → place_of f (x ∷ xs) ≡ 0
  unfolding place_of
  place-yes x xs e = rw e

  pub place-no : (x : A) (xs : List A) → f x ≡ false → place_of f (x ∷ xs) ≡ suc (place_of f xs)
  unfolding place_of
  place-no x xs e = rw e

  pub place_none : place_of f [] ≡ 0
  unfolding place_of
  place_none = refl

  pub selected-none : selected f [] ≡ []
  unfolding selected
  selected-none = refl

  -- ---- one list behind another
  pub selected-append : (xs ys : List A) → selected f (xs ++ ys) ≡ selected f xs ++ selected f ys
  selected-append [] ys = ap (λ (l : List A). l ++ selected f ys) (sym selected-none)
  selected-append (x ∷ xs) ys =
      let s = selected-append xs ys in
      ⊎_elim
      (λ e. selected-yes x (xs ++ ys) e ∙ ap (λ (l : List A). x ∷ l) s ∙ ap (λ (l : List A). l ++ selected f ys) (sym (selected-yes x xs e)))
      (λ e. selected-no x (xs ++ ys) e ∙ s ∙ ap (λ (l : List A). l ++ selected f ys) (sym (selected-no x xs e)))
      (by-test (f x))

  -- one element more
  pub selected-more : (xs : List A) (x : A) → f x ≡ true → selected f (xs ++ (x ∷ [])) ≡ selected f xs ++ (x ∷ [])
  selected-more xs x e = selected-append xs (x ∷ []) ∙ ap (λ (l : List A). selected f xs ++ l) (selected-yes x [] e ∙ ap (λ (l : List A). x ∷ l) selected-none)

  pub selected-same : (xs : List A) (x : A) → f x ≡ false → selected f (xs ++ (x ∷ [])) ≡ selected f xs
  selected-same xs x e = selected-append xs (x ∷ []) ∙ ap (λ (l : List A). selected f xs ++ l) (selected-no x [] e ∙ selected-none) ∙ append-nil (selected f xs)

  -- ---- the first that passes
  pub place-low : (l : List A) → place_of f l ≤ length l
  unfolding place_of
  place-low [] = omega arith
  place-low (x ∷ xs) = ⊎_elim (λ e. rw e (omega arith)) (λ e. rw e (omega (arith, place-low xs))) (by-test (f x))

  pub place-passes : (l : List A) (z : A) → place_of f l < length l → f (get_or l (place_of f l) z) ≡ true
  place-passes [] z h = absurd (omega arith)
  place-passes (x ∷ xs) z h =
      ⊎_elim (λ e. rw (place-yes x xs e) e) (λ e. rw (place-no x xs e) (place-passes xs z (omega (arith, place-no x xs e)))) (by-test (f x))

  -- it is the first of those that pass, and the others stay
  pub selected-first : (l : List A) (z : A) → place_of f l < length l → selected f l ≡ get_or l (place_of f l) z ∷ selected f (without (place_of f l) l)
  unfolding without
  selected-first [] z h = absurd (omega arith)
  selected-first (x ∷ xs) z h =
      ⊎_elim
      (λ e. rw (place-yes x xs e) (selected-yes x xs e))
      (λ e. rw (place-no x xs e) (selected-no x xs e ∙ selected-first xs z (omega (arith, place-no x xs e)) ∙ ap (λ (l : List A). get_or xs (place_of f xs) z ∷ l) (sym (selected-no x (without (place_of f xs) xs) e))))
      (by-test (f x))

  -- where one passes there is a first
  pub place-some : (l : List A) → 0 < length (selected f l) → place_of f l < length l
  place-some [] h = absurd (omega (arith, ap length selected-none))
  place-some (x ∷ xs) h =
      ⊎_elim (λ e. omega (arith, place-yes x xs e)) (λ e. omega (arith, place-no x xs e, place-some xs (omega (arith, ap length (selected-no x xs e))))) (by-test (f x))

  -- one element more: the first stays the first; where none passed, it is the new one or still none
  pub place_kept : (xs ys : List A) → place_of f xs < length xs → place_of f (xs ++ ys) ≡ place_of f xs
  place_kept [] ys h = absurd (omega arith)
  place_kept (x ∷ xs) ys h =
      ⊎_elim (λ e. place-yes x (xs ++ ys) e ∙ sym (place-yes x xs e))
      (λ e. place-no x (xs ++ ys) e ∙ ap suc (place_kept xs ys (omega (arith, place-no x xs e))) ∙ sym (place-no x xs e))
      (by-test (f x))

  pub place-behind : (xs ys : List A) → place_of f xs ≡ length xs → place_of f (xs ++ ys) ≡ length xs + place_of f ys
  place-behind [] ys h = omega arith
  place-behind (x ∷ xs) ys h =
      ⊎_elim (λ e. absurd (omega (arith, place-yes x xs e)))
      (λ e. omega (arith, place-no x (xs ++ ys) e, place-behind xs ys (omega (arith, place-no x xs e))))
      (by-test (f x))

  -- ---- an element that does not pass is not missed
  pub selected-without : (i : ℕ) (l : List A) (z : A) → i < length l → f (get_or l i z) ≡ false → selected f (without i l) ≡ selected f l
  unfolding without
  selected-without i [] z h e = absurd (omega arith)
  selected-without zero (x ∷ xs) z h e = sym (selected-no x xs e)
  selected-without (suc i) (x ∷ xs) z h e =
      let s = selected-without i xs z (omega arith) e in
      ⊎_elim
      (λ y. selected-yes x (without i xs) y ∙ ap (λ (l : List A). x ∷ l) s ∙ sym (selected-yes x xs y))
      (λ y. selected-no x (without i xs) y ∙ s ∙ sym (selected-no x xs y))
      (by-test (f x))

  -- ---- the search among the first n elements, at the i-th: its place, counted from the head of the list
  module _ (l : List A) (z : A) (i n : ℕ) (fits : n ≤ length l) where
    pub search-passed : i < n → f (get_or l i z) ≡ false → i + place_of f (drop i (take n l)) ≡ i + 1 + place_of f (drop (i + 1) (take n l))
    search-passed h e = ap (λ (r : List A). i + place_of f r) (rest-cons l z i n h fits) ∙ omega (arith, place-no (get_or l i z) (drop (i + 1) (take n l)) e)

    pub search-found : i < n → f (get_or l i z) ≡ true → i + place_of f (drop i (take n l)) ≡ i
    search-found h e = ap (λ (r : List A). i + place_of f r) (rest-cons l z i n h fits) ∙ omega (arith, place-yes (get_or l i z) (drop (i + 1) (take n l)) e)

    pub search-end : n ≤ i → i + place_of f (drop i (take n l)) ≡ i
    search-end h = ap (λ (r : List A). i + place_of f r) (rest-none l i n h fits) ∙ omega (arith, place_none)

-- ---- numbers in a list
module _ (n : ℕ) where
  abbrev is : ℕ → Bool
  is m = eqb m n

  -- it is the first, or among the others
  pub in-first : (m : ℕ) (ns : List ℕ) → eqb m n ≡ true → is_in n (m ∷ ns) ≡ true
  in-first m ns e = lt-ltb (place_in n (m ∷ ns)) (length (m ∷ ns)) (omega (arith, place-yes is m ns e))

  pub in-others : (m : ℕ) (ns : List ℕ) → eqb m n ≡ false → is_in n (m ∷ ns) ≡ is_in n ns
  in-others m ns e =
      let p = place-no is m ns e in
      agree (is_in n (m ∷ ns)) (is_in n ns)
      (λ z. lt-ltb (place_in n ns) (length ns) (omega (arith, ltb-true (place_in n (m ∷ ns)) (length (m ∷ ns)) z)))
      (λ z. lt-ltb (place_in n (m ∷ ns)) (length (m ∷ ns)) (omega (arith, ltb-true (place_in n ns) (length ns) z)))

  pub in-none : is_in n [] ≡ false
  in-none = le-ltb (place_in n []) 0 (omega arith)

  -- where it is not, its place is behind all of them
  pub place-not-in : (ns : List ℕ) → is_in n ns ≡ false → place_in n ns ≡ length ns
  place-not-in ns e = omega (arith, place-low is ns, ltb-false (place_in n ns) (length ns) e)

  -- one number more, which is another one
  pub in-more : (ns : List ℕ) (m : ℕ) → is_in n ns ≡ false → eqb m n ≡ false → is_in n (ns ++ (m ∷ [])) ≡ false
  in-more [] m h e = in-others m [] e ∙ in-none
  in-more (x ∷ ns) m h e =
      ⊎_elim
      (λ y. absurd (true≢false (sym (in-first x ns y) ∙ h)))
      (λ y. in-others x (ns ++ (m ∷ [])) y ∙ in-more ns m (sym (in-others x ns y) ∙ h) e)
      (by-test (eqb x n))

-- ---- how often a number is in a list
module _ (n : ℕ) where
  pub times_none : times_in n [] ≡ 0
  times_none = ap length (selected-none (λ (m : ℕ). eqb m n))

  pub times_more : (m : ℕ) (ns : List ℕ) → m ≡ n → times_in n (m ∷ ns) ≡ times_in n ns + 1
  times_more m ns e = omega (arith, ap length (selected-yes (λ (k : ℕ). eqb k n) m ns (eq-eqb _ _ e)))

  pub times-same : (m : ℕ) (ns : List ℕ) → (m ≡ n → ⊥) → times_in n (m ∷ ns) ≡ times_in n ns
  times-same m ns ne = ap length (selected-no (λ (k : ℕ). eqb k n) m ns (ne_eqb _ _ ne))

-- a number that was not in the list
pub no-repeats-more : (ns : List ℕ) (n : ℕ) → NoRepeats ns → is_in n ns ≡ false → NoRepeats (ns ++ (n ∷ []))
no-repeats-more [] n h e = (in-none n, tt)
no-repeats-more (m ∷ ns) n h e =
    ⊎_elim
    (λ y. absurd (true≢false (sym (in-first n m ns y) ∙ e)))
    (λ y. (in-more m ns n h.0 (ne_eqb n m (λ z. eqb-false m n y (sym z))), no-repeats-more ns n h.1 (sym (in-others n m ns y) ∙ e)))
    (by-test (eqb m n))

-- ---- the numbers with n, once
abbrev pub with_number : ℕ → List ℕ → List ℕ
with_number n ns = cond (is_in n ns) ns (ns ++ (n ∷ []))

pub with-number-again : (n : ℕ) (ns : List ℕ) → is_in n ns ≡ true → with_number n ns ≡ ns
with-number-again n ns e = cond-true (is_in n ns) ns (ns ++ (n ∷ [])) e

pub with-number-new : (n : ℕ) (ns : List ℕ) → is_in n ns ≡ false → with_number n ns ≡ ns ++ (n ∷ [])
with-number-new n ns e = cond-false (is_in n ns) ns (ns ++ (n ∷ [])) e

pub no-repeats-with : (n : ℕ) (ns : List ℕ) → NoRepeats ns → NoRepeats (with_number n ns)
no-repeats-with n ns h =
    ⊎_elim
    (λ e. subst NoRepeats (sym (with-number-again n ns e)) h)
    (λ e. subst NoRepeats (sym (with-number-new n ns e)) (no-repeats-more ns n h e))
    (by-test (is_in n ns))

-- a number is not behind its first place
pub not_behind : (n : ℕ) (ns : List ℕ) → NoRepeats ns → is_in n (drop (place_in n ns + 1) ns) ≡ false
not_behind n [] h = rw drop-nil (in-none n)
not_behind n (m ∷ ns) h =
    ⊎_elim
    (λ y. rw (place-yes (is n) m ns y) (rw (eqb-true m n y) at h.0))
    (λ y. let e : suc (place_in n ns) + 1 ≡ suc (place_in n ns + 1) = omega arith in rw (place-no (is n) m ns y, e) (not_behind n ns h.1))
    (by-test (eqb m n))
