-- Laws of the slots: what the range test says, and that the range is kept by all due, by only the due, and by a flush.
-- The array's length is no part of the range: it comes from the type. Assumes nothing.
use mathlib.Core.Path.{◌≡◌, refl, sym, ap, ◌∙◌}
use mathlib.Core.Bool.{Bool, true, false, ◌&&◌, and_assoc}
use mathlib.Core.List.{List, [], ◌∷◌, ◌++◌}
use Prim.Native.Nat.{ℕ, zero, suc, ◌+◌, ◌≤◌, ◌<◌}
use native.Mathlib.Nat.{le_of_suc-le-suc, not-suc-le-zero}
use native.Mathlib.Omega.{arith}
use lib.Dec.{leb, ltb}
use lib.ListN.{length, take, drop, get_or}
use lib.Seq.{take-take, get_or-take, length-take-le}
use borrow.Author.Tests.{leb-true, le-leb, ltb-true, lt-ltb, le-ltb}
use Rattle.lists.proofs.TestLaws.{both, join}
use Rattle.lists.proofs.ArrayLaws.{rest-cons, rest-none, take-freed, length-freed}
use Rattle.settings.specs.Range.{most_slots}
use Rattle.staging.specs.declared.Slots.{Slots}
use Rattle.staging.specs.Slot.{empty_slots, numbers_ok, slots_ok, free_slots, all_due, only_due, flushed}

-- ---- numbers below d
pub numbers-cons : (d n : ℕ) (ns : List ℕ) → numbers_ok d (n ∷ ns) ≡ true → (n < d) × (numbers_ok d ns ≡ true)
unfolding numbers_ok
numbers-cons d n ns e = let p = both (ltb n d) (numbers_ok d ns) e in (ltb-true n d p.0, p.1)

pub numbers-at : (d : ℕ) (ns : List ℕ) → numbers_ok d ns ≡ true → (i : ℕ) → i < length ns → get_or ns i 0 < d
numbers-at d [] e i h = absurd (not-suc-le-zero h)
numbers-at d (n ∷ ns) e zero h = (numbers-cons d n ns e).0
numbers-at d (n ∷ ns) e (suc i) h = numbers-at d ns (numbers-cons d n ns e).1 i (le_of_suc-le-suc h)

pub numbers-append : (d : ℕ) (a b : List ℕ) → numbers_ok d (a ++ b) ≡ numbers_ok d a && numbers_ok d b
unfolding numbers_ok
numbers-append d [] b = refl
numbers-append d (n ∷ a) b = ap (λ (t : Bool). ltb n d && t) (numbers-append d a b) ∙ sym (and_assoc (ltb n d) (numbers_ok d a) (numbers_ok d b))

pub numbers-take : (d n : ℕ) (ns : List ℕ) → numbers_ok d ns ≡ true → numbers_ok d (take n ns) ≡ true
unfolding numbers_ok
numbers-take d zero ns e = refl
numbers-take d (suc n) [] e = refl
numbers-take d (suc n) (x ∷ ns) e =
    let p = numbers-cons d x ns e in
    join (ltb x d) (numbers_ok d (take n ns)) (lt-ltb x d p.0) (numbers-take d n ns p.1)

pub numbers-drop : (d n : ℕ) (ns : List ℕ) → numbers_ok d ns ≡ true → numbers_ok d (drop n ns) ≡ true
numbers-drop d zero ns e = e
numbers-drop d (suc n) [] e = e
numbers-drop d (suc n) (x ∷ ns) e = numbers-drop d n ns (numbers-cons d x ns e).1

-- the check at number i: what the test says of the first n it says of those left
module _ (d : ℕ) (l : List ℕ) (i n : ℕ) (fits : n ≤ length l) where
  pub below_next : i < n → get_or l i 0 < d → numbers_ok d (drop i (take n l)) ≡ numbers_ok d (drop (i + 1) (take n l))
  unfolding numbers_ok
  below_next h g = rw (rest-cons l 0 i n h fits, lt-ltb (get_or l i 0) d g)

  pub below-not : i < n → d ≤ get_or l i 0 → numbers_ok d (drop i (take n l)) ≡ false
  unfolding numbers_ok
  below-not h g = rw (rest-cons l 0 i n h fits, le-ltb (get_or l i 0) d g)

  pub below_end : n ≤ i → numbers_ok d (drop i (take n l)) ≡ true
  unfolding numbers_ok
  below_end h = rw (rest-none l i n h fits)

-- ---- the range, test by test
pub record SlotsTests (k : Slots) (s d : ℕ) : Type 0 where
  pub staged-high : k.staged ≤ s
  pub due_high : k.due ≤ k.staged
  pub numbers-ok : numbers_ok d (take k.staged k.numbers) ≡ true

module _ (k : Slots) (s d : ℕ) where
  pub slots-tests : slots_ok k s d ≡ true → SlotsTests k s d
  unfolding slots_ok
  slots-tests e =
      let n = both _ (numbers_ok d (take k.staged k.numbers)) e in
      let c = both (leb k.staged s) (leb k.due k.staged) n.0 in
      record { staged-high = leb-true k.staged s c.0; due_high = leb-true k.due k.staged c.1; numbers-ok = n.1 }

  pub slots-tested : SlotsTests k s d → slots_ok k s d ≡ true
  unfolding slots_ok
  slots-tested f = simp (le-leb k.staged s f.staged-high, le-leb k.due k.staged f.due_high, f.numbers-ok)

-- ---- the range as facts
pub record SlotsFacts (k : Slots) (s d : ℕ) : Type 0 where
  pub staged-high : k.staged ≤ s
  pub due_high : k.due ≤ k.staged
  pub number-low : (i : ℕ) → i < k.staged → get_or k.numbers i 0 < d

-- ---- the staged numbers, where the array has its 64 entries
module _ (k : Slots) (array : length k.numbers ≡ most_slots) where
  -- without the first count
  module _ (count : ℕ) (h : count ≤ k.staged) (few : k.staged ≤ most_slots) where
    pub numbers-rest : take (flushed k count).staged (flushed k count).numbers ≡ drop count (take k.staged k.numbers)
    unfolding flushed
    numbers-rest = take-freed 0 count k.staged k.numbers h (omega arith)

    pub array-flushed : length (flushed k count).numbers ≡ most_slots
    unfolding flushed
    array-flushed = length-freed 0 0 count k.staged k.numbers (omega arith) (omega arith) ∙ array

-- ---- kept in range, where there are no more slots than the array has entries
module _ (k : Slots) (s d : ℕ) (array : length k.numbers ≡ most_slots) (few : s ≤ most_slots) where
  pub slots-facts : slots_ok k s d ≡ true → SlotsFacts k s d
  slots-facts ok =
      let t = slots-tests k s d ok in
      let n = length-take-le k.staged k.numbers (omega arith) in
      record {
        staged-high = t.staged-high;
        due_high = t.due_high;
        number-low = λ i h. rw (get_or-take k.staged k.numbers i 0 h) at (numbers-at d (take k.staged k.numbers) t.numbers-ok i (omega arith));
      }

  pub slots-flushed : (count : ℕ) → slots_ok k s d ≡ true → count ≤ k.due → slots_ok (flushed k count) s d ≡ true
  unfolding flushed
  slots-flushed count ok h =
      let t = slots-tests k s d ok in
      let e = numbers-rest k array count (omega arith) (omega arith) in
      slots-tested (flushed k count) s d
      (record {
        staged-high = omega arith;
        due_high = omega arith;
        numbers-ok = rw e (numbers-drop d count (take k.staged k.numbers) t.numbers-ok);
      })

-- ---- the free slots
-- "freed slots are used again"
pub free-flushed : (k : Slots) (s count : ℕ) → count ≤ k.staged → k.staged ≤ s → free_slots (flushed k count) s ≡ free_slots k s + count
unfolding flushed
free-flushed k s count h g = omega arith

-- ---- all due, and only the due: the numbers stay
module _ (k : Slots) where
  pub numbers-only-due : (only_due k).numbers ≡ k.numbers
  unfolding only_due
  numbers-only-due = refl

  pub slots-all-due : (s d : ℕ) → slots_ok k s d ≡ true → slots_ok (all_due k) s d ≡ true
  unfolding all_due
  slots-all-due s d ok =
      let t = slots-tests k s d ok in
      slots-tested (all_due k) s d (record { staged-high = t.staged-high; due_high = omega arith; numbers-ok = t.numbers-ok })

  pub slots-only-due : (s d : ℕ) → slots_ok k s d ≡ true → slots_ok (only_due k) s d ≡ true
  unfolding only_due
  slots-only-due s d ok =
      let t = slots-tests k s d ok in
      slots-tested (only_due k) s d
      (record {
        staged-high = omega arith;
        due_high = omega arith;
        numbers-ok = rw (take-take k.due k.staged k.numbers t.due_high) at (numbers-take d k.due (take k.staged k.numbers) t.numbers-ok);
      })

-- ---- none staged
pub slots-empty : (s d : ℕ) → slots_ok empty_slots s d ≡ true
unfolding numbers_ok
slots-empty s d = slots-tested empty_slots s d (record { staged-high = omega arith; due_high = omega arith; numbers-ok = refl })
