-- Laws of the slot of a block: the first that its epoch has staged it in, else the next one; the numbers with the block
-- staged; and the epoch's blocks after each change of the slots. Assumes nothing.
use mathlib.Core.Path.{◌≡◌, refl, sym, ap, ◌∙◌, subst}
use mathlib.Core.Bool.{true, false}
use mathlib.Core.Logic.{⊎_elim}
use mathlib.Core.List.{List, [], ◌∷◌, ◌++◌}
use Prim.Native.Nat.{ℕ, suc, ◌+◌, ◌-◌, ◌≤◌, ◌<◌}
use native.Mathlib.Numerals.{add-one}
use native.Mathlib.Omega.{arith}
use lib.Dec.{ltb, eqb}
use lib.ListN.{length, take, drop, get_or, set, length-take, length-drop, length-set, drop_of_length-le}
use lib.Seq.{take_all, take-suc-set, split_at, get_or-drop, drop-drop, drop-append-le, length-take-le}
use borrow.Author.Tests.{ltb-true, lt-ltb, eqb-true}
use Rattle.lists.specs.Select.{place_in, is_in, NoRepeats}
use Rattle.lists.proofs.TestLaws.{by-test, agree, cond-true, cond-false}
use Rattle.lists.proofs.SelectLaws.{place-passes, place-not-in, not_behind, with_number, with-number-again, with-number-new}
use Rattle.settings.specs.Range.{most_slots}
use Rattle.staging.specs.declared.Slots.{Slots}
use Rattle.staging.specs.Slot.{numbers_ok, slots_ok, free_slots, fresh_numbers, is_staged, slot_for, with_block, all_due, only_due, flushed}
use Rattle.staging.specs.Fits.{StageFits}
use Rattle.staging.proofs.SlotLaws.{SlotsTests, slots-tests, slots-tested, numbers-append, numbers-take, numbers-drop, numbers-rest}

-- ---- the two cases
module _ (k : Slots) (n : ℕ) where
  abbrev next : Slots
  next = record { staged = k.staged + 1; due = k.due; numbers = set k.numbers k.staged n }

  pub with-block-again : is_staged k n ≡ true → with_block k n ≡ k
  unfolding with_block
  with-block-again e = cond-true (is_staged k n) k next e

  pub with-block-next : is_staged k n ≡ false → with_block k n ≡ record { staged = k.staged + 1; due = k.due; numbers = set k.numbers k.staged n }
  unfolding with_block
  with-block-next e = cond-false (is_staged k n) k next e

  -- what holds of the slots in both
  pub with-block-cases : (P : Slots → Type 0) → (is_staged k n ≡ true → P k) → (is_staged k n ≡ false → P next) → P (with_block k n)
  with-block-cases P again new =
      ⊎_elim (λ e. subst P (sym (with-block-again e)) (again e)) (λ e. subst P (sym (with-block-next e)) (new e)) (by-test (is_staged k n))

  -- a due slot stays: those are in front
  pub slot-not-due : k.due ≤ slot_for k n
  unfolding slot_for
  slot-not-due = omega arith

  pub due-same : (with_block k n).due ≡ k.due
  due-same = with-block-cases (λ (x : Slots). x.due ≡ k.due) (λ e. refl) (λ e. refl)

  pub array-with-block : length k.numbers ≡ most_slots → length (with_block k n).numbers ≡ most_slots
  array-with-block array =
      with-block-cases (λ (x : Slots). length x.numbers ≡ most_slots) (λ e. array) (λ e. length-set k.numbers k.staged n ∙ array)

-- ---- how many blocks the epoch has
pub count-fresh : (k : Slots) → length k.numbers ≡ most_slots → k.staged ≤ most_slots → length (fresh_numbers k) ≡ k.staged - k.due
count-fresh k array few = length-drop k.due (take k.staged k.numbers) ∙ omega (arith, length-take-le k.staged k.numbers (omega arith))

-- ---- the slot, where the array has its 64 entries
module _ (k : Slots) (n : ℕ) (array : length k.numbers ≡ most_slots) (due_high : k.due ≤ k.staged) (few : k.staged ≤ most_slots) where
  abbrev ns : List ℕ
  ns = take k.staged k.numbers

  many : length ns ≡ k.staged
  many = length-take-le k.staged k.numbers (omega arith)

  pub slot-reused : is_staged k n ≡ true → slot_for k n < k.staged
  unfolding slot_for
  slot-reused e = omega (arith, ltb-true (place_in n (fresh_numbers k)) (length (fresh_numbers k)) e, count-fresh k array few)

  pub slot_next : is_staged k n ≡ false → slot_for k n ≡ k.staged
  unfolding slot_for
  slot_next e = omega (arith, place-not-in n (fresh_numbers k) e, count-fresh k array few)

  pub slot-high : slot_for k n ≤ k.staged
  slot-high = ⊎_elim (λ e. omega (arith, slot-reused e)) (λ e. omega (arith, slot_next e)) (by-test (is_staged k n))

  -- so the test of the place tells the cases apart
  pub staged-below : slot_for k n < k.staged → is_staged k n ≡ true
  staged-below h = ⊎_elim (λ e. e) (λ e. absurd (omega (arith, slot_next e))) (by-test (is_staged k n))

  pub slot-tells : ltb (slot_for k n) k.staged ≡ is_staged k n
  slot-tells = agree _ _ (λ e. staged-below (ltb-true (slot_for k n) k.staged e)) (λ e. lt-ltb (slot_for k n) k.staged (slot-reused e))

  -- the reused slot has the block's number
  pub number-there : is_staged k n ≡ true → get_or ns (slot_for k n) 0 ≡ n
  unfolding slot_for
  number-there e =
      let h = ltb-true (place_in n (fresh_numbers k)) (length (fresh_numbers k)) e in
      eqb-true _ n (ap (λ (m : ℕ). eqb m n) (sym (get_or-drop k.due ns (place_in n (fresh_numbers k)) 0)) ∙ place-passes (λ (m : ℕ). eqb m n) (fresh_numbers k) 0 h)

  -- it stands at its slot in both cases, and nothing else changes
  pub numbers-with-block : slot_for k n < most_slots → take (with_block k n).staged (with_block k n).numbers ≡ take (slot_for k n) ns ++ (n ∷ drop (slot_for k n + 1) ns)
  numbers-with-block low =
      ⊎_elim
      (λ e.
      rw (with-block-again k n e, add-one)
      (split_at ns (slot_for k n) 0 (omega (arith, slot-reused e, many)) ∙ ap (λ (m : ℕ). take (slot_for k n) ns ++ (m ∷ drop (suc (slot_for k n)) ns)) (number-there e)))
      (λ e.
      let s = slot_next e in
      rw (with-block-next k n e, s, add-one, take_all k.staged ns (omega (arith, many)), drop_of_length-le ns {i = suc k.staged} (omega (arith, many)))
      (take-suc-set k.numbers k.staged n (omega arith)))
      (by-test (is_staged k n))

  -- behind its slot there is no other of its number
  pub none-behind : NoRepeats (fresh_numbers k) → is_in n (drop (slot_for k n + 1) ns) ≡ false
  unfolding slot_for
  none-behind d =
      let e : k.due + place_in n (fresh_numbers k) + 1 ≡ k.due + (place_in n (fresh_numbers k) + 1) = omega arith in
      rw (e, ← drop-drop (place_in n (fresh_numbers k) + 1) k.due ns) (not_behind n (fresh_numbers k) d)

  -- ---- the epoch's blocks with this one
  pub fresh-with-block : slot_for k n < most_slots → fresh_numbers (with_block k n) ≡ with_number n (fresh_numbers k)
  fresh-with-block low =
      ⊎_elim
      (λ e. ap fresh_numbers (with-block-again k n e) ∙ sym (with-number-again n (fresh_numbers k) e))
      (λ e.
      let s = slot_next e in
      rw (with-block-next k n e, with-number-new n (fresh_numbers k) e, add-one, take-suc-set k.numbers k.staged n (omega arith))
      (drop-append-le k.due ns (n ∷ []) (omega (arith, many))))
      (by-test (is_staged k n))

-- ---- kept in range
module _ (k : Slots) (n s d : ℕ) (array : length k.numbers ≡ most_slots) (few : s ≤ most_slots) (ok : slots_ok k s d ≡ true) where
  abbrev t : SlotsTests k s d
  t = slots-tests k s d ok

  -- a slot is reused or free
  pub slot-fits : (is_staged k n ≡ false → 0 < free_slots k s) → slot_for k n < s
  slot-fits h =
      ⊎_elim
      (λ e. omega (arith, slot-reused k n array t.due_high (omega (arith, t.staged-high)) e, t.staged-high))
      (λ e. omega (arith, slot_next k n array t.due_high (omega (arith, t.staged-high)) e, h e))
      (by-test (is_staged k n))

  module _ (low : slot_for k n < s) where
    pub stage-fits : StageFits k n
    stage-fits = record { due_high = t.due_high; few = omega (arith, t.staged-high); slot_low = omega arith }

    pub slots-with-block : n < d → slots_ok (with_block k n) s d ≡ true
    unfolding numbers_ok
    slots-with-block below =
        let ns = take k.staged k.numbers in
        let i = slot_for k n in
        let few' : k.staged ≤ most_slots = omega (arith, t.staged-high) in
        let e = numbers-with-block k n array t.due_high few' (omega arith) in
        let all = t.numbers-ok in
        slots-tested (with_block k n) s d
        (record {
          staged-high = with-block-cases k n (λ (x : Slots). x.staged ≤ s) (λ z. t.staged-high) (λ z. omega (arith, slot_next k n array t.due_high few' z));
          due_high = with-block-cases k n (λ (x : Slots). x.due ≤ x.staged) (λ z. t.due_high) (λ z. omega (arith, t.due_high));
          numbers-ok = rw e
              (numbers-append d (take i ns) (n ∷ drop (i + 1) ns)
              ∙ simp (numbers-take d i ns all, lt-ltb n d below, numbers-drop d (i + 1) ns all));
        })

-- ---- the epoch's blocks after the other changes: all of them stay, or none is left
pub fresh-flushed : (k : Slots) (count : ℕ) → length k.numbers ≡ most_slots → k.due ≤ k.staged → k.staged ≤ most_slots → count ≤ k.due
    → fresh_numbers (flushed k count) ≡ fresh_numbers k
unfolding flushed
fresh-flushed k count array due_high few h =
    let ns = take k.staged k.numbers in
    let e : count + (k.due - count) ≡ k.due = omega arith in
    ap (drop (k.due - count)) (numbers-rest k array count (omega arith) few) ∙ drop-drop (k.due - count) count ns ∙ rw e

module _ (k : Slots) where
  none_left : (n : ℕ) → drop n (take n k.numbers) ≡ []
  none_left n = drop_of_length-le (take n k.numbers) {i = n} (omega (arith, length-take n k.numbers))

  pub fresh-all-due : fresh_numbers (all_due k) ≡ []
  unfolding all_due
  fresh-all-due = none_left k.staged

  pub fresh-only-due : fresh_numbers (only_due k) ≡ []
  unfolding only_due
  fresh-only-due = none_left k.due
