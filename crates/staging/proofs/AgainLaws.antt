-- Laws of a block staged again: the disk with all slots stored is the disk with each block stored as it came (document
-- 02, Job 9). Assumes nothing.
use mathlib.Core.Path.{◌≡◌, refl, sym, ap, ◌∙◌, subst}
use mathlib.Core.Bool.{true, false, true≢false}
use mathlib.Core.Logic.{⊎_elim}
use mathlib.Core.List.{List, [], ◌∷◌, ◌++◌, map}
use Prim.Native.Nat.{ℕ, zero, suc, ◌+◌, ◌*◌, ◌≤◌, ◌<◌}
use native.Mathlib.Nat.{suc-mul, mul-le-mul_right}
use native.Mathlib.Numerals.{add-one}
use native.Mathlib.Omega.{arith}
use lib.Dec.{eqb}
use lib.ListN.{length, take, drop, length-drop, length-replicate, drop_of_length-le}
use lib.Seq.{take_all, split_at, length-take-le}
use borrow.Author.Tests.{eqb-false}
use Rattle.lists.specs.Select.{is_in, NoRepeats}
use Rattle.lists.specs.Page.{page, with_page}
use Rattle.lists.proofs.TestLaws.{by-test}
use Rattle.lists.proofs.SelectLaws.{in-first, in-others, no-repeats-with}
use Rattle.lists.proofs.PartLaws.{put_same}
use Rattle.lists.proofs.PageLaws.{page-end, length-page, whole-with-page, with-page-twice, with-page-swap}
use Rattle.settings.specs.Range.{most_slots}
use Rattle.staging.specs.declared.Slots.{Slots}
use Rattle.staging.specs.Slot.{empty_slots, numbers_ok, slots_ok, fresh_numbers, is_staged, slot_for, with_block, with_block_bytes, all_due}
use Rattle.staging.specs.SlotList.{Staged, staged_from, slot_list, store_all}
use Rattle.staging.specs.Stages.{Staging, stage_block, stage_all, Storable, Ready, SameDisk, SameDiskOfEpoch}
use Rattle.staging.proofs.SlotLaws.{slots-tests, slots-all-due, slots-empty, numbers-cons}
use Rattle.staging.proofs.BlockLaws.{with-block-next, with-block-cases, array-with-block, slot-reused, slot_next, number-there, none-behind, slot-fits, fresh-with-block, fresh-all-due, stage-fits, slots-with-block}
use Rattle.staging.proofs.ListLaws.{staged-put, drop-staged, slot-count, list-with-block}
use Rattle.staging.proofs.FlushLaws.{store-all-append}

module _ (u d : ℕ) where
  -- ---- blocks that a disk has
  storable-take : (i : ℕ) (bs : List Staged) → Storable u d bs → Storable u d (take i bs)
  storable-take zero bs f = tt
  storable-take (suc i) [] f = tt
  storable-take (suc i) (b ∷ bs) f = (f.0, f.1, storable-take i bs f.2)

  storable-drop : (i : ℕ) (bs : List Staged) → Storable u d bs → Storable u d (drop i bs)
  storable-drop zero bs f = f
  storable-drop (suc i) [] f = tt
  storable-drop (suc i) (b ∷ bs) f = storable-drop i bs f.2

  storable-staged : (ns s : List ℕ) → numbers_ok d ns ≡ true → length ns * u ≤ length s → Storable u d (staged_from u ns s)
  unfolding staged_from
  storable-staged [] s ok room = tt
  storable-staged (n ∷ ns) s ok room =
      let f = numbers-cons d n ns ok in
      let m : suc (length ns) * u ≡ length ns * u + u = suc-mul (length ns) u in
      (f.0, length-take-le u s (omega arith), storable-staged ns (drop u s) f.1 (omega (arith, length-drop u s)))

  -- ---- stored one after the other
  length-store-all : (disk : List ℕ) → length disk ≡ d * u → (bs : List Staged) → Storable u d bs → length (store_all u disk bs) ≡ d * u
  unfolding store_all
  length-store-all disk whole [] f = whole
  length-store-all disk whole (b ∷ bs) f = length-store-all (with_page u disk b.number b.bytes) (whole-with-page u d disk whole b.number b.bytes f.0 f.1) bs f.2

  abbrev numbers_of : List Staged → List ℕ
  numbers_of bs = map (λ (b : Staged). b.number) bs

  numbers-staged : (ns s : List ℕ) → numbers_of (staged_from u ns s) ≡ ns
  unfolding staged_from
  numbers-staged [] s = refl
  numbers-staged (n ∷ ns) s = ap (λ (l : List ℕ). n ∷ l) (numbers-staged ns (drop u s))

  -- before blocks of other numbers, or behind them
  store-past : (n : ℕ) (block : List ℕ) → n < d → length block ≡ u → (disk : List ℕ) → length disk ≡ d * u → (bs : List Staged) → Storable u d bs → is_in n (numbers_of bs) ≡ false
      → store_all u (with_page u disk n block) bs ≡ with_page u (store_all u disk bs) n block
  unfolding store_all
  store-past n block below size disk whole [] f none = refl
  store-past n block below size disk whole (b ∷ bs) f none =
      ⊎_elim
      (λ e. absurd (true≢false (sym (in-first n b.number (numbers_of bs) e) ∙ none)))
      (λ e.
      ap (λ (l : List ℕ). store_all u l bs) (with-page-swap u d disk whole n b.number block b.bytes below f.0 size f.1 (eqb-false b.number n e))
      ∙ store-past n block below size (with_page u disk b.number b.bytes) (whole-with-page u d disk whole b.number b.bytes f.0 f.1) bs f.2 (sym (in-others n b.number (numbers_of bs) e) ∙ none))
      (by-test (eqb b.number n))

  module _ (n : ℕ) (block : List ℕ) (below : n < d) (size : length block ≡ u) (disk : List ℕ) (whole : length disk ≡ d * u) where
    -- in the place of an earlier one of its number
    store-again : (front : List Staged) (old : List ℕ) (rest : List Staged) → Storable u d front → Storable u d rest → length old ≡ u → is_in n (numbers_of rest) ≡ false
        → store_all u disk (front ++ (record { number = n; bytes = block } ∷ rest)) ≡ with_page u (store_all u disk (front ++ (record { number = n; bytes = old } ∷ rest))) n block
    unfolding store_all
    store-again front old rest f g size' none =
        let e = store_all u disk front in
        let w = length-store-all disk whole front f in
        let was = store-all-append u disk front (record { number = n; bytes = old } ∷ rest) ∙ store-past n old below size' e w rest g none in
        store-all-append u disk front (record { number = n; bytes = block } ∷ rest)
        ∙ store-past n block below size e w rest g none
        ∙ sym (ap (λ (l : List ℕ). with_page u l n block) was ∙ with-page-twice u d (store_all u e rest) (length-store-all e w rest g) n old below size' block size)

    -- ---- in its slot: the disk with all slots stored has the block
    module _ (k : Slots) (s : ℕ) (slots : List ℕ) (array : length k.numbers ≡ most_slots) (few : s ≤ most_slots) (ok : slots_ok k s d ≡ true)
        (lent : length slots ≡ s * u) (different : NoRepeats (fresh_numbers k)) (low : slot_for k n < s) where
      abbrev ns : List ℕ
      ns = take k.staged k.numbers

      abbrev l : List Staged
      l = slot_list u k slots

      abbrev i : ℕ
      i = slot_for k n

      few' : k.staged ≤ most_slots
      few' = omega (arith, (slots-tests k s d ok).staged-high)

      many : length ns ≡ k.staged
      many = length-take-le k.staged k.numbers (omega (arith, few'))

      all : Storable u d l
      unfolding slot_list
      all = storable-staged ns slots (slots-tests k s d ok).numbers-ok (rw many (omega (arith, mul-le-mul_right u (slots-tests k s d ok).staged-high)))

      room : i * u + u ≤ length slots
      room = omega (arith, page-end i s u low)

      behind : is_in n (numbers_of (drop (i + 1) l)) ≡ false
      unfolding slot_list
      behind =
          ap (λ (x : List Staged). is_in n (numbers_of x)) (drop-staged u (i + 1) ns slots)
          ∙ ap (is_in n) (numbers-staged (drop (i + 1) ns) (drop ((i + 1) * u) slots))
          ∙ none-behind k n array (slots-tests k s d ok).due_high few' different

      -- the slot that is reused, in the list
      there : is_staged k n ≡ true → l ≡ take i l ++ (record { number = n; bytes = page u slots i } ∷ drop (i + 1) l)
      unfolding slot_list with_page page
      there e =
          let inside : i < length ns = omega (arith, many, slot-reused k n array (slots-tests k s d ok).due_high few' e) in
          let same : take i ns ++ (n ∷ drop (i + 1) ns) ≡ ns
          = ap (λ (m : ℕ). take i ns ++ (m ∷ drop (i + 1) ns)) (sym (number-there k n array (slots-tests k s d ok).due_high few' e)) ∙ rw add-one (sym (split_at ns i 0 inside)) in
          let kept : with_page u slots i (page u slots i) ≡ slots = put_same slots (i * u) u room in
          sym (ap (λ (x : List ℕ). staged_from u x slots) same)
          ∙ ap (staged_from u (take i ns ++ (n ∷ drop (i + 1) ns))) (sym kept)
          ∙ staged-put u ns slots i n (page u slots i) (omega arith) (length-page u i slots room) room

      pub store-with-block : store_all u disk (slot_list u (with_block k n) (with_block_bytes u k n slots block)) ≡ with_page u (store_all u disk l) n block
      unfolding store_all
      store-with-block =
          let is = list-with-block u k slots n block array (stage-fits k n s d array few ok low) size room in
          ap (store_all u disk) is
          ∙ ⊎_elim
          (λ e.
          store-again (take i l) (page u slots i) (drop (i + 1) l) (storable-take i l all) (storable-drop (i + 1) l all) (length-page u i slots room) behind
          ∙ ap (λ (x : List Staged). with_page u (store_all u disk x) n block) (sym (there e)))
          (λ e.
          let c : length l ≡ k.staged = slot-count u k slots (omega (arith, few')) in
          let s : i ≡ k.staged = slot_next k n array (slots-tests k s d ok).due_high few' e in
          rw (take_all i l (omega arith), drop_of_length-le l {i = i + 1} (omega arith)) (store-all-append u disk l (record { number = n; bytes = block } ∷ [])))
          (by-test (is_staged k n))

-- ---- an epoch's blocks one after the other
module _ (u s d : ℕ) (few : s ≤ most_slots) where
  slots-grow : (bs : List Staged) (f : Staging) → f.slots.staged ≤ (stage_all u f bs).slots.staged
  slots-grow [] f = omega arith
  slots-grow (b ∷ bs) f =
      let k = f.slots in
      let more = slots-grow bs (stage_block u f b) in
      let one = with-block-cases k b.number (λ (x : Slots). k.staged ≤ x.staged) (λ e. omega arith) (λ e. omega arith) in
      omega arith

  -- there is a slot for each where there are slots for all
  slot_low : (b : Staged) (bs : List Staged) (f : Staging) → Ready u s d f → (stage_all u f (b ∷ bs)).slots.staged ≤ s → slot_for f.slots b.number < s
  slot_low b bs f r enough =
      let k = f.slots in
      let more = slots-grow bs (stage_block u f b) in
      slot-fits k b.number s d r.array few r.ok (λ e. omega (arith, ap (λ (x : Slots). x.staged) (with-block-next k b.number e)))

  ready-more : (b : Staged) (f : Staging) → Ready u s d f → b.number < d → length b.bytes ≡ u → slot_for f.slots b.number < s → Ready u s d (stage_block u f b)
  unfolding with_block_bytes
  ready-more b f r below size low =
      let k = f.slots in
      let n = b.number in
      let fits = stage-fits k n s d r.array few r.ok low in
      record {
        array = array-with-block k n r.array;
        ok = slots-with-block k n s d r.array few r.ok low below;
        lent = whole-with-page u s f.bytes r.lent (slot_for k n) b.bytes low size;
        different = rw (fresh-with-block k n r.array fits.due_high fits.few fits.slot_low) (no-repeats-with n (fresh_numbers k) r.different);
      }

  all-staged : (disk : List ℕ) → length disk ≡ d * u → (bs : List Staged) (f : Staging) → Ready u s d f → Storable u d bs → (stage_all u f bs).slots.staged ≤ s
      → store_all u disk (slot_list u (stage_all u f bs).slots (stage_all u f bs).bytes) ≡ store_all u (store_all u disk (slot_list u f.slots f.bytes)) bs
  unfolding store_all
  all-staged disk whole [] f r g enough = refl
  all-staged disk whole (b ∷ bs) f r g enough =
      let low = slot_low b bs f r enough in
      all-staged disk whole bs (stage_block u f b) (ready-more b f r g.0 g.1 low) g.2 enough
      ∙ ap (λ (x : List ℕ). store_all u x bs)
      (store-with-block u d b.number b.bytes g.0 g.1 disk whole f.slots s f.bytes r.array few r.ok r.lent r.different low)

pub same-disk : SameDisk
same-disk = all-staged

-- ---- at the start of an epoch
-- after a COMMIT, which makes all slots due, as at Start
pub ready-all-due : (u s d : ℕ) (k : Slots) (bytes : List ℕ) → length k.numbers ≡ most_slots → slots_ok k s d ≡ true → length bytes ≡ s * u
    → Ready u s d (record { slots = all_due k; bytes = bytes })
unfolding all_due
ready-all-due u s d k bytes array ok lent =
    record { array = array; ok = slots-all-due k s d ok; lent = lent; different = subst NoRepeats (sym (fresh-all-due k)) tt }

-- with no slot staged before them: "what storing each in order gives"
pub same-disk-of-epoch : SameDiskOfEpoch
unfolding slot_list store_all staged_from
same-disk-of-epoch u s d few disk whole bytes lent bs g enough =
    same-disk u s d few disk whole bs (record { slots = empty_slots; bytes = bytes })
    (record { array = length-replicate {A = ℕ} most_slots 0; ok = slots-empty s d; lent = lent; different = tt }) g enough
