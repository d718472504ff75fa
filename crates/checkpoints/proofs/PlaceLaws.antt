-- The array of the numbers of the different blocks, and that of the positions beside it: with the number of one more
-- block, and where each block has its slot then. Assumes nothing.
use Rattle.std.specs.List.{list_any, position, position_or_len}
use Rattle.std.specs.Option.{unwrap_or}
use Rattle.std.proofs.lemmas.List.Recursion.{is_position_or_len}
use Rattle.std.proofs.lemmas.List.{take-map}
use mathlib.Core.Path.{◌≡◌, refl, sym, ap, ◌∙◌}
use mathlib.Core.Bool.{Bool, true, false, cond}
use mathlib.Core.Logic.{⊎_elim}
use mathlib.Core.List.{List, [], ◌∷◌}
use Prim.Native.Nat.{ℕ, suc, ◌+◌, ◌≤◌, ◌<◌}
use native.Mathlib.Numerals.{add-one}
use native.Mathlib.Omega.{arith}
use lib.Dec.{ltb, eqb}
use lib.ListN.{length, length-map, take, get_or, set}
use lib.Seq.{length-take-le, take-set-lt, take-suc-set, set-get_or, get_or-set_same, get_or-set_other}
use borrow.Author.Tests.{ltb-true, ltb-false, eqb-true, eq-eqb, ne_eqb}
use Rattle.lists.specs.Select.{place_of, place_in, is_in}
use Rattle.lists.proofs.TestLaws.{by-test, not-both, unless, cond-true, cond-false}
use Rattle.lists.proofs.SelectLaws.{in-first, in-others, in-none, place-low, place-yes, place-passes, place_kept, place-behind, place-not-in, with_number, with-number-again, with-number-new}
use Rattle.rules.specs.Blocks.{blocks_with}
use Rattle.checkpoints.specs.declared.KeptBlock.{KeptBlock}
use Rattle.checkpoints.specs.Scan.{numbers_of, places_of, slot_in}
use Rattle.checkpoints.proofs.NumberLaws.{in-with}

-- ---- places in a list
-- at the place of a number in the list stands the number
pub place-number : (n : ℕ) (ns : List ℕ) → is_in n ns ≡ true → get_or ns (place_in n ns) 0 ≡ n
place-number n ns h = eqb-true (get_or ns (place_in n ns) 0) n (place-passes (λ (m : ℕ). eqb m n) ns 0 (ltb-true (place_in n ns) (length ns) h))

-- so different numbers, one of them in the list, have different places
pub place-apart : (m n : ℕ) (ns : List ℕ) → is_in m ns ≡ true → (m ≡ n → ⊥) → place_in m ns ≡ place_in n ns → ⊥
place-apart m n ns h ne e =
    ⊎_elim
    (λ (t : is_in n ns ≡ true). ne (sym (place-number m ns h) ∙ ap (λ (i : ℕ). get_or ns i 0) e ∙ place-number n ns t))
    (λ (t : is_in n ns ≡ false). absurd (omega (arith, ltb-true (place_in m ns) (length ns) h, place-not-in n ns t)))
    (by-test (is_in n ns))

-- a number keeps its place as it is added
pub place-added : (n : ℕ) (ns : List ℕ) → place_in n (with_number n ns) ≡ place_in n ns
place-added n ns =
    ⊎_elim
    (λ (t : is_in n ns ≡ true). ap (place_in n) (with-number-again n ns t))
    (λ (t : is_in n ns ≡ false).
    ap (place_in n) (with-number-new n ns t)
    ∙ place-behind (λ (m : ℕ). eqb m n) ns (n ∷ []) (place-not-in n ns t)
    ∙ omega (arith, place-yes (λ (m : ℕ). eqb m n) n [] (eq-eqb n n refl), place-not-in n ns t))
    (by-test (is_in n ns))

-- the others were there before
pub in-before : (m n : ℕ) (ns : List ℕ) → (m ≡ n → ⊥) → is_in m (with_number n ns) ≡ true → is_in m ns ≡ true
in-before m n ns ne h =
    ⊎_elim
    (λ (t : is_in m ns ≡ true). t)
    (λ (t : is_in m ns ≡ false). absurd (not-both (eqb n m) (unless (is_in m ns) (eqb n m) (sym (in-with m n ns) ∙ h) t) (ne_eqb n m (λ e. ne (sym e)))))
    (by-test (is_in m ns))

-- and keep their places
pub place-stays : (m n : ℕ) (ns : List ℕ) → is_in m ns ≡ true → place_in m (with_number n ns) ≡ place_in m ns
place-stays m n ns h =
    ⊎_elim
    (λ (t : is_in n ns ≡ true). ap (place_in m) (with-number-again n ns t))
    (λ (t : is_in n ns ≡ false).
    ap (place_in m) (with-number-new n ns t) ∙ place_kept (λ (k : ℕ). eqb k m) ns (n ∷ []) (ltb-true (place_in m ns) (length ns) h))
    (by-test (is_in n ns))

-- ---- the array, of which the first entries are counted
module _ (blocks : ℕ) (numbers : List ℕ) (n : ℕ) (fits : blocks ≤ length numbers) where
  -- where the number goes
  abbrev slot : ℕ
  slot = slot_in blocks numbers n

  -- the numbers counted
  abbrev ns : List ℕ
  ns = take blocks numbers

  -- there are as many
  many : length ns ≡ blocks
  many = length-take-le blocks numbers fits

  -- the test of the slot tells whether the number is there
  pub slot-tells : ltb slot blocks ≡ is_in n ns
  slot-tells = ap (ltb slot) (sym many)

  -- where it is there, the slot is one of those counted
  pub slot-again : is_in n ns ≡ true → slot < blocks
  slot-again t = omega (arith, ltb-true slot (length ns) t, many)

  -- else the next
  pub slot-new : is_in n ns ≡ false → slot ≡ blocks
  slot-new t = place-not-in n ns t ∙ many

  -- with the number stored there, one more is counted where it was not there
  pub numbers-stored : (is_in n ns ≡ false → blocks < length numbers) → take (blocks_with (ltb slot blocks) blocks) (set numbers slot n) ≡ with_number n ns
  numbers-stored room =
      ⊎_elim
      (λ (t : is_in n ns ≡ true).
      ap (λ (k : ℕ). take k (set numbers slot n)) (cond-true (ltb slot blocks) blocks (blocks + 1) (slot-tells ∙ t))
      ∙ take-set-lt blocks numbers slot n (slot-again t)
      ∙ ap (set ns slot) (sym (place-number n ns t))
      ∙ set-get_or ns slot 0
      ∙ sym (with-number-again n ns t))
      (λ (t : is_in n ns ≡ false).
      let s = slot-new t in
      ap (λ (k : ℕ). take k (set numbers slot n)) (cond-false (ltb slot blocks) blocks (blocks + 1) (slot-tells ∙ t) ∙ add-one blocks)
      ∙ ap (λ (k : ℕ). take (suc blocks) (set numbers k n)) s
      ∙ take-suc-set numbers blocks n (room t)
      ∙ sym (with-number-new n ns t))
      (by-test (is_in n ns))

  -- the slot is one of the array
  pub slot_low : (is_in n ns ≡ false → blocks < length numbers) → slot < length numbers
  slot_low room = ⊎_elim (λ (t : is_in n ns ≡ true). omega (arith, slot-again t)) (λ (t : is_in n ns ≡ false). omega (arith, slot-new t, room t)) (by-test (is_in n ns))

-- ---- what stands beside: where a value is stored beside the number, it is that number's, and the others keep theirs
module _ (blocks : ℕ) (numbers places : List ℕ) (n value : ℕ) (fits : blocks ≤ length numbers)
    (room : is_in n (take blocks numbers) ≡ false → blocks < length numbers) (same : length places ≡ length numbers) where
  -- how many are counted then, the numbers, and what stands beside
  abbrev counted : ℕ
  counted = blocks_with (ltb (slot_in blocks numbers n) blocks) blocks

  abbrev stored : List ℕ
  stored = set numbers (slot_in blocks numbers n) n

  abbrev beside : List ℕ
  beside = set places (slot_in blocks numbers n) value

  -- beside the number stands the value
  pub beside-stored : get_or beside (slot_in counted stored n) 0 ≡ value
  beside-stored =
      ap (λ (i : ℕ). get_or beside i 0) (ap (place_in n) (numbers-stored blocks numbers n fits room) ∙ place-added n (take blocks numbers))
      ∙ get_or-set_same places (slot_in blocks numbers n) value 0 (omega (arith, slot_low blocks numbers n fits room))

  -- beside another what stood there
  pub beside-other : (m : ℕ) → (m ≡ n → ⊥) → is_in m (take blocks numbers) ≡ true
      → get_or beside (slot_in counted stored m) 0 ≡ get_or places (slot_in blocks numbers m) 0
  beside-other m ne h =
      ap (λ (i : ℕ). get_or beside i 0) (ap (place_in m) (numbers-stored blocks numbers n fits room) ∙ place-stays m n (take blocks numbers) h)
      ∙ get_or-set_other places (slot_in blocks numbers n) (slot_in blocks numbers m) value 0 (place-apart m n (take blocks numbers) h ne)

  -- and every other one was counted before
  pub counted-before : (m : ℕ) → (m ≡ n → ⊥) → is_in m (take counted stored) ≡ true → is_in m (take blocks numbers) ≡ true
  counted-before m ne h = in-before m n (take blocks numbers) ne (ap (is_in m) (sym (numbers-stored blocks numbers n fits room)) ∙ h)

-- ---- the array of the code
-- the place of a number, as the search through the blocks finds it
module _ (n : ℕ) (blocks : List KeptBlock) where
  -- the test of the search
  abbrev is_of : KeptBlock → Bool
  is_of b = eqb b.number n

  place-first : place_in n (numbers_of blocks) ≡ position_or_len is_of blocks
  unfolding place_of
  place-first = is_position_or_len (λ (bs : List KeptBlock). place_in n (numbers_of bs)) is_of refl more blocks
    where
      more : (x : KeptBlock) (xs : List KeptBlock) → place_in n (numbers_of (x ∷ xs)) ≡ cond (is_of x) 0 (1 + place_in n (numbers_of xs))
      more x xs = let e : suc (place_in n (numbers_of xs)) ≡ 1 + place_in n (numbers_of xs) = omega arith in ap (λ (k : ℕ). cond (is_of x) 0 k) e

  -- where it finds none, how many there are
  pub place-searched : unwrap_or (position (λ (b : KeptBlock). eqb b.number n) blocks) (length blocks) ≡ place_in n (numbers_of blocks)
  place-searched =
      ⊎_elim
      (λ (t : ltb (position_or_len is_of blocks) (length blocks) ≡ true). rw t (sym place-first))
      (λ (t : ltb (position_or_len is_of blocks) (length blocks) ≡ false).
      rw t
      (omega (
        arith,
        place-first,
        ltb-false (position_or_len is_of blocks) (length blocks) t,
        place-low (λ (m : ℕ). eqb m n) (numbers_of blocks),
        length-map blocks (λ (b : KeptBlock). b.number),
      )))
      (by-test (ltb (position_or_len is_of blocks) (length blocks)))

  -- and of a first part of them
  pub slot-searched : (count : ℕ) → place_in n (numbers_of (take count blocks)) ≡ slot_in count (numbers_of blocks) n
  slot-searched count = ap (place_in n) (sym (take-map (λ (b : KeptBlock). b.number) count blocks))

-- the blocks are as many as their numbers, and as where they begin
pub length-numbers : (blocks : List KeptBlock) → length (numbers_of blocks) ≡ length blocks
length-numbers blocks = length-map blocks (λ (b : KeptBlock). b.number)

pub length-places : (blocks : List KeptBlock) → length (places_of blocks) ≡ length blocks
length-places blocks = length-map blocks (λ (b : KeptBlock). b.place)

-- a number is there where a block has it
pub any-in : (n : ℕ) (blocks : List KeptBlock) → list_any (λ (b : KeptBlock). eqb b.number n) blocks ≡ is_in n (numbers_of blocks)
any-in n [] = sym (in-none n)
any-in n (b ∷ bs) =
    ⊎_elim
    (λ (t : eqb b.number n ≡ true). rw t (sym (in-first n b.number (numbers_of bs) t)))
    (λ (t : eqb b.number n ≡ false). rw t (any-in n bs ∙ sym (in-others n b.number (numbers_of bs) t)))
    (by-test (eqb b.number n))
