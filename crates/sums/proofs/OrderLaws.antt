-- Laws of orders: one that names each page once has no other entry, and gives the image's sum. Assumes nothing.
use mathlib.Core.Path.{◌≡◌, refl, sym, ap, ◌∙◌}
use mathlib.Core.Bool.{Bool, true, cond}
use mathlib.Core.Logic.{⊎_elim}
use mathlib.Core.List.{List, [], ◌∷◌, ◌++◌}
use Prim.Native.Nat.{ℕ, zero, suc, ◌+◌, ◌*◌, ◌%◌, ◌≤◌, ◌<◌}
use native.Mathlib.Nat.{zero-mul, one-mul, mul-one, add-mul, add-mod-mod, le_of_suc-le-suc}
use native.Mathlib.Omega.{arith}
use lib.Arith.{lt_of_le-ne}
use lib.Dec.{eqb, ltb}
use lib.ListN.{length, get_or, length-append}
use borrow.Author.Tests.{eqb-true, eq-eqb, ne_eqb, lt-ltb, le-ltb}
use Rattle.lists.specs.Page.{gather}
use Rattle.lists.specs.Select.{selected, times_in}
use Rattle.lists.proofs.TestLaws.{both, join, lt-or-ge, eq-or-ne}
use Rattle.lists.proofs.PageLaws.{length-gather}
use Rattle.lists.proofs.SelectLaws.{selected-more, selected-same, times_none, times_more, times-same}
use Rattle.sums.specs.Sum.{modulus, image_sum, page_sum, sum_over, rising, each_once, names_each}
use Rattle.sums.proofs.SumLaws.{sum-none, sum_more, sum-rising}

-- ---- every page below m is in the order once, as a fact
abbrev pub Once : ℕ → List ℕ → Type 0
Once m order = (p : ℕ) → p < m → times_in p order ≡ 1

pub once-of : (m : ℕ) (order : List ℕ) → each_once m order ≡ true → Once m order
once-of zero order e p low = absurd (omega arith)
once-of (suc m) order e p low =
    let h = both (each_once m order) (eqb (times_in m order) 1) e in
    ⊎_elim (λ (is : p ≡ m). rw is (eqb-true _ _ h.1)) (λ (ne : p ≡ m → ⊥). once-of m order h.0 p (lt_of_le-ne (le_of_suc-le-suc low) ne)) (eq-or-ne p m)

pub once_is : (m : ℕ) (order : List ℕ) → Once m order → each_once m order ≡ true
once_is zero order h = refl
once_is (suc m) order h =
    join (each_once m order) (eqb (times_in m order) 1) (once_is m order (λ p low. h p (omega arith))) (eq-eqb _ _ (h m (omega arith)))

-- ---- what f gives at the entries below m, added
module _ (f : ℕ → ℕ) where
  abbrev pub sum_below : ℕ → List ℕ → ℕ
  sum_below m [] = 0
  sum_below m (q ∷ qs) = cond (ltb q m) (f q) 0 + sum_below m qs

  below_none : (qs : List ℕ) → sum_below 0 qs ≡ 0
  below_none [] = refl
  below_none (q ∷ qs) = rw (le-ltb q 0 (omega arith)) (omega (arith, below_none qs))

  -- those of m come with m + 1
  pub below_suc : (m : ℕ) (qs : List ℕ) → sum_below (suc m) qs ≡ sum_below m qs + times_in m qs * f m
  below_suc m [] = rw (times_none m) (omega (arith, zero-mul (f m)))
  below_suc m (q ∷ qs) =
      let ih = below_suc m qs in
      ⊎_elim
      (λ (is : q ≡ m).
      let more : times_in m (q ∷ qs) * f m ≡ times_in m qs * f m + f m = ap (λ (n : ℕ). n * f m) (times_more m q qs is) ∙ add-mul (times_in m qs) 1 (f m) ∙ ap (λ (n : ℕ). times_in m qs * f m + n) (one-mul (f m)) in
      rw (lt-ltb q (suc m) (omega arith), le-ltb q m (omega arith)) (omega (arith, more, ap f is)))
      (λ (ne : q ≡ m → ⊥).
      let same : times_in m (q ∷ qs) * f m ≡ times_in m qs * f m = ap (λ (n : ℕ). n * f m) (times-same m q qs ne) in
      ⊎_elim
      (λ (low : q < m). rw (lt-ltb q (suc m) (omega arith), lt-ltb q m low) (omega (arith, same)))
      (λ (high : m ≤ q). rw (le-ltb q (suc m) (lt_of_le-ne high (λ e. ne (sym e))), le-ltb q m high) (omega (arith, same)))
      (lt-or-ge q m))
      (eq-or-ne q m)

  -- f at 0, 1, .., m - 1
  abbrev pub sum_up_to : ℕ → ℕ
  sum_up_to zero = 0
  sum_up_to (suc m) = sum_up_to m + f m

  pub below-once : (m : ℕ) (order : List ℕ) → Once m order → sum_below m order ≡ sum_up_to m
  below-once zero order h = below_none order
  below-once (suc m) order h =
      let one : times_in m order * f m ≡ f m = ap (λ (n : ℕ). n * f m) (h m (omega arith)) ∙ one-mul (f m) in
      omega (arith, below_suc m order, below-once m order (λ p low. h p (omega arith)), one)

  -- f at all entries
  abbrev pub sum_all : List ℕ → ℕ
  sum_all [] = 0
  sum_all (q ∷ qs) = f q + sum_all qs

  all_more : (qs : List ℕ) (q : ℕ) → sum_all (qs ++ (q ∷ [])) ≡ sum_all qs + f q
  all_more [] q = omega arith
  all_more (x ∷ qs) q = omega (arith, all_more qs q)

  pub all-rising : (m : ℕ) → sum_all (rising m) ≡ sum_up_to m
  unfolding gather
  all-rising zero = refl
  all-rising (suc m) = all_more (rising m) m ∙ ap (λ (n : ℕ). n + f m) (all-rising m)

-- ---- every entry is below m
abbrev pub AllBelow : ℕ → List ℕ → Type 0
AllBelow m [] = Unit {0}
AllBelow m (q ∷ qs) = (q < m) × AllBelow m qs

pub below_all : (f : ℕ → ℕ) (m : ℕ) (qs : List ℕ) → AllBelow m qs → sum_below f m qs ≡ sum_all f qs
below_all f m [] h = refl
below_all f m (q ∷ qs) h = rw (lt-ltb q m h.0) (ap (λ (n : ℕ). f q + n) (below_all f m qs h.1))

pub below-get_d : (m : ℕ) (qs : List ℕ) (i : ℕ) → AllBelow m qs → i < length qs → get_or qs i 0 < m
below-get_d m [] i h low = absurd (omega arith)
below-get_d m (q ∷ qs) zero h low = h.0
below-get_d m (q ∷ qs) (suc i) h low = below-get_d m qs i h.1 (omega arith)

-- how many are
abbrev pub count_below : ℕ → List ℕ → ℕ
count_below m qs = sum_below (λ (p : ℕ). 1) m qs

pub count-below-suc : (m : ℕ) (qs : List ℕ) → count_below (suc m) qs ≡ count_below m qs + times_in m qs
count-below-suc m qs = rw (below_suc (λ (p : ℕ). 1) m qs) (ap (λ (n : ℕ). count_below m qs + n) (mul-one (times_in m qs)))

pub count-below-high : (m : ℕ) (qs : List ℕ) → count_below m qs ≤ length qs
count-below-high m [] = omega arith
count-below-high m (q ∷ qs) =
    let ih = count-below-high m qs in
    ⊎_elim (λ low. rw (lt-ltb q m low) (omega arith)) (λ high. rw (le-ltb q m high) (omega arith)) (lt-or-ge q m)

-- where all count, all are below
pub count-below-all : (m : ℕ) (qs : List ℕ) → length qs ≤ count_below m qs → AllBelow m qs
count-below-all m [] h = tt
count-below-all m (q ∷ qs) h =
    ⊎_elim
    (λ (low : q < m). (low, count-below-all m qs (let k = rw (lt-ltb q m low) at h in omega arith)))
    (λ (high : m ≤ q). absurd (let k = rw (le-ltb q m high) at h in omega (arith, count-below-high m qs)))
    (lt-or-ge q m)

-- ---- an order in which every page is once
pub count-once : (m : ℕ) (order : List ℕ) → Once m order → count_below m order ≡ m
count-once zero order h = below_none (λ (p : ℕ). 1) order
count-once (suc m) order h = omega (arith, count-below-suc m order, count-once m order (λ p low. h p (omega arith)), h m (omega arith))

-- and one in which every page is, with no more entries than pages
count-some : (m : ℕ) (order : List ℕ) → ((p : ℕ) → p < m → 1 ≤ times_in p order) → m ≤ count_below m order
count-some zero order h = omega arith
count-some (suc m) order h = omega (arith, count-below-suc m order, count-some m order (λ p low. h p (omega arith)), h m (omega arith))

pub once-of-some : (m : ℕ) (order : List ℕ) → ((p : ℕ) → p < m → 1 ≤ times_in p order) → count_below m order ≤ m → Once m order
once-of-some zero order h few p low = absurd (omega arith)
once-of-some (suc m) order h few p low =
    let some : (q : ℕ) → q < m → 1 ≤ times_in q order = λ q l. h q (omega arith) in
    let c = count-below-suc m order in
    let one = h m (omega arith) in
    let least = count-some m order some in
    ⊎_elim
    (λ (is : p ≡ m). rw is (omega arith))
    (λ (ne : p ≡ m → ⊥). once-of-some m order some (omega arith) p (lt_of_le-ne (le_of_suc-le-suc low) ne))
    (eq-or-ne p m)

-- ---- "naming each page once", as facts
pub record NamesEach (m : ℕ) (order : List ℕ) : Type 0 where
  pub count : length order ≡ m
  pub once : Once m order

pub names-facts : (m : ℕ) (order : List ℕ) → names_each m order ≡ true → NamesEach m order
unfolding names_each
names-facts m order e =
    let h = both (eqb (length order) m) (each_once m order) e in
    record { count = eqb-true _ _ h.0; once = once-of m order h.1 }

pub names_of : (m : ℕ) (order : List ℕ) → NamesEach m order → names_each m order ≡ true
unfolding names_each
names_of m order f = join (eqb (length order) m) (each_once m order) (eq-eqb _ _ f.count) (once_is m order f.once)

-- nothing else is in it
pub names-below : (m : ℕ) (order : List ℕ) → NamesEach m order → AllBelow m order
names-below m order f = count-below-all m order (omega (arith, count-once m order f.once, f.count))

-- ---- the rising order is one
abbrev is_page : ℕ → ℕ → Bool
is_page p q = eqb q p

rising-length : (m : ℕ) → length (rising m) ≡ m
rising-length m = length-gather (λ (p : ℕ). p ∷ []) 1 m (λ p low. refl) ∙ mul-one m

rising-high : (m p : ℕ) → m ≤ p → times_in p (rising m) ≡ 0
unfolding gather
rising-high zero p h = times_none p
rising-high (suc m) p h =
    ap length (selected-same (is_page p) (rising m) m (ne_eqb m p (λ e. omega arith))) ∙ rising-high m p (omega arith)

rising-once : (m : ℕ) → Once m (rising m)
unfolding gather
rising-once zero p low = absurd (omega arith)
rising-once (suc m) p low =
    ⊎_elim
    (λ (is : p ≡ m).
    let none = rising-high m p (omega arith) in
    ap length (selected-more (is_page p) (rising m) m (eq-eqb m p (sym is))) ∙ length-append (selected (is_page p) (rising m)) (m ∷ []) ∙ omega arith)
    (λ (ne : p ≡ m → ⊥).
    ap length (selected-same (is_page p) (rising m) m (ne_eqb m p (λ e. ne (sym e)))) ∙ rising-once m p (lt_of_le-ne (le_of_suc-le-suc low) ne))
    (eq-or-ne p m)

-- so that for every m there is an order
pub rising-names : (m : ℕ) → names_each m (rising m) ≡ true
rising-names m = names_of m (rising m) (record { count = rising-length m; once = rising-once m })

-- ---- the sum over an order
pub sum-all : (u : ℕ) (image order : List ℕ) → sum_over u image order ≡ sum_all (page_sum u image) order % modulus
sum-all u image [] = sum-none u image
sum-all u image (p ∷ order) = sum_more u image p order ∙ ap (λ (n : ℕ). (page_sum u image p + n) % modulus) (sum-all u image order) ∙ add-mod-mod _ _ modulus

-- every order that names each page once gives the image's sum
pub sum-order : (u m : ℕ) (image order : List ℕ) → length image ≡ m * u → names_each m order ≡ true → sum_over u image order ≡ image_sum image
sum-order u m image order whole e =
    let f = names-facts m order e in
    let one = page_sum u image in
    sum-all u image order
    ∙ ap (λ (n : ℕ). n % modulus) (sym (below_all one m order (names-below m order f)) ∙ below-once one m order f.once ∙ sym (all-rising one m))
    ∙ sym (sum-all u image (rising m))
    ∙ sum-rising u image m whole
