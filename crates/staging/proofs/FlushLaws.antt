-- Laws of a flush: the disk after it is the first of the due list stored, a block that is not due does not reach it, and a flush of a and then of b
-- is a flush of a + b, so that a flush of n is n flushes of 1, in everything live. Assumes nothing.
use mathlib.Core.Path.{◌≡◌, refl, sym, ap, ap₂, ◌∙◌}
use mathlib.Core.Bool.{true}
use mathlib.Core.List.{List, [], ◌∷◌, ◌++◌}
use Prim.Native.Nat.{ℕ, zero, suc, ◌+◌, ◌-◌, ◌*◌, ◌≤◌}
use native.Mathlib.Nat.{mul-le-mul_right, zero-mul, sub-zero, add-zero, zero-min}
use native.Mathlib.Omega.{arith}
use lib.ListN.{length, take, drop, get_or, replicate}
use lib.Seq.{take-suc, take-add, drop-drop, length-take-le}
use Rattle.lists.specs.Part.{part, put, removed}
use Rattle.lists.specs.Page.{page, with_page}
use Rattle.lists.proofs.PartLaws.{removed-none}
use Rattle.settings.specs.Range.{most_slots}
use Rattle.staging.specs.declared.Slots.{Slots}
use Rattle.staging.specs.Slot.{slots_ok, flush_count, stored, flushed, flushed_bytes}
use Rattle.staging.specs.SlotList.{Staged, staged_from, slot_list, due_list, store_all}
use Rattle.staging.specs.Flushes.{Flushing, flush_by, flush_ones, SameLive}
use Rattle.staging.proofs.ArrayLaws.{take_min, freed-none, freed-freed}
use Rattle.staging.proofs.SlotLaws.{slots-tests, array-flushed}
use Rattle.staging.proofs.StoreLaws.{stored-none}
use Rattle.staging.proofs.ListLaws.{staged-append, take-slot-list, list-flushed, length-bytes}

-- ---- a list of blocks stored
pub store-all-append : (u : ℕ) (disk : List ℕ) (a b : List Staged) → store_all u disk (a ++ b) ≡ store_all u (store_all u disk a) b
unfolding store_all
store-all-append u disk [] b = refl
store-all-append u disk (x ∷ a) b = store-all-append u (with_page u disk x.number x.bytes) a b

-- slot by slot, or as a list
pub stored-list : (u : ℕ) (numbers slots disk : List ℕ) (count : ℕ) → count ≤ length numbers → stored u numbers slots disk count ≡ store_all u disk (staged_from u (take count numbers) slots)
unfolding stored store_all staged_from page part
stored-list u numbers slots disk zero h = refl
stored-list u numbers slots disk (suc i) h =
    let m : length (take i numbers) ≡ i = length-take-le i numbers (omega arith) in
    let e = stored-list u numbers slots disk i (omega arith) in
    rw (take-suc numbers i 0 h, staged-append u (take i numbers) (get_or numbers i 0 ∷ []) slots, store-all-append u disk (staged_from u (take i numbers) slots), m, e)

module _ (u : ℕ) (k : Slots) (slots disk : List ℕ) (array : length k.numbers ≡ most_slots) (few : k.staged ≤ most_slots) where
  pub stored-slots : (count : ℕ) → count ≤ k.staged → stored u k.numbers slots disk count ≡ store_all u disk (take count (slot_list u k slots))
  stored-slots count h = stored-list u k.numbers slots disk count (omega arith) ∙ ap (store_all u disk) (sym (take-slot-list u k slots count h))

  -- "stores min(n, due) due blocks in order of arrival"
  pub flush-disk : (n : ℕ) → k.due ≤ k.staged → stored u k.numbers slots disk (flush_count k n) ≡ store_all u disk (take n (due_list u k slots))
  unfolding due_list
  flush-disk n h = stored-slots (flush_count k n) (omega arith) ∙ ap (store_all u disk) (sym (take_min n k.due (slot_list u k slots)))

-- "No block reaches the disk before it is due": slots that agree on the due blocks give one disk
pub flush-only-due : (u n : ℕ) (k k' : Slots) (slots slots' disk : List ℕ) → length k.numbers ≡ most_slots → length k'.numbers ≡ most_slots
    → k.due ≤ k.staged → k.staged ≤ most_slots → k'.due ≤ k'.staged → k'.staged ≤ most_slots → due_list u k slots ≡ due_list u k' slots'
    → stored u k.numbers slots disk (flush_count k n) ≡ stored u k'.numbers slots' disk (flush_count k' n)
flush-only-due u n k k' slots slots' disk array array' h few h' few' e =
    flush-disk u k slots disk array few n h ∙ ap (λ (l : List Staged). store_all u disk (take n l)) e ∙ sym (flush-disk u k' slots' disk array' few' n h')

-- ---- a flush of 0 changes nothing
pub flushed-none : (k : Slots) → length k.numbers ≡ most_slots → k.staged ≤ most_slots → flushed k 0 ≡ k
unfolding flushed
flushed-none k array few = rw (sub-zero k.staged, sub-zero k.due, freed-none 0 k.staged k.numbers (omega arith))

pub bytes-none : (u : ℕ) (k : Slots) (slots : List ℕ) → k.staged * u ≤ length slots → flushed_bytes u k 0 slots ≡ slots
unfolding flushed_bytes
bytes-none u k slots room = rw zero-mul (removed-none 0 (k.staged * u) slots (omega arith) room)

-- ---- a flush of a, then one of b
module _ (k : Slots) (array : length k.numbers ≡ most_slots) (few : k.staged ≤ most_slots) (a b : ℕ) (h : a + b ≤ k.staged) where
  pub flushed-flushed : flushed (flushed k a) b ≡ flushed k (a + b)
  unfolding flushed
  flushed-flushed =
      let s : k.staged - a - b ≡ k.staged - (a + b) = omega arith in
      let d : k.due - a - b ≡ k.due - (a + b) = omega arith in
      rw (s, d, freed-freed 0 a b k.staged k.numbers h (omega arith))

  module _ (u : ℕ) (slots : List ℕ) (room : k.staged * u ≤ length slots) where
    room-left : (flushed k a).staged * u ≤ length (flushed_bytes u k a slots)
    unfolding flushed
    room-left =
        let le : k.staged - a ≤ k.staged = omega arith in
        omega (arith, mul-le-mul_right u le, length-bytes u k slots array a (omega arith) few room)

    list_left : slot_list u (flushed k a) (flushed_bytes u k a slots) ≡ drop a (slot_list u k slots)
    list_left = list-flushed u k slots array a (omega arith) few room

    staged-left : b ≤ (flushed k a).staged
    unfolding flushed
    staged-left = omega arith

    few-left : (flushed k a).staged ≤ most_slots
    unfolding flushed
    few-left = omega arith

    pub list-flushed-flushed : slot_list u (flushed (flushed k a) b) (flushed_bytes u (flushed k a) b (flushed_bytes u k a slots)) ≡ slot_list u (flushed k (a + b)) (flushed_bytes u k (a + b) slots)
    list-flushed-flushed =
        list-flushed u (flushed k a) (flushed_bytes u k a slots) (array-flushed k array a (omega arith) few) b staged-left few-left room-left
        ∙ ap (drop b) list_left
        ∙ drop-drop b a (slot_list u k slots)
        ∙ sym (list-flushed u k slots array (a + b) h few room)

    pub stored-stored : (disk : List ℕ) → stored u (flushed k a).numbers (flushed_bytes u k a slots) (stored u k.numbers slots disk a) b ≡ stored u k.numbers slots disk (a + b)
    stored-stored disk =
        stored-slots u (flushed k a) (flushed_bytes u k a slots) (stored u k.numbers slots disk a) (array-flushed k array a (omega arith) few) few-left b staged-left
        ∙ ap₂ (λ (d : List ℕ) (l : List Staged). store_all u d (take b l)) (stored-slots u k slots disk array few a (omega arith)) list_left
        ∙ sym
        (stored-slots u k slots disk array few (a + b) h
        ∙ ap (store_all u disk) (take-add a b (slot_list u k slots))
        ∙ store-all-append u disk (take a (slot_list u k slots)) (take b (drop a (slot_list u k slots))))

-- the same with budgets: the counts sum up
pub count_add : (k : Slots) (a b : ℕ) → flush_count k a + flush_count (flushed k (flush_count k a)) b ≡ flush_count k (a + b)
unfolding flushed
count_add k a b = omega arith

-- ---- whole flushes
pub record Flushable (u : ℕ) (f : Flushing) : Type 0 where
  pub array : length f.slots.numbers ≡ most_slots
  pub few : f.slots.staged ≤ most_slots
  pub due_high : f.slots.due ≤ f.slots.staged
  pub room : f.slots.staged * u ≤ length f.bytes

-- slots in range, and bytes of the length that the settings ask
pub flushable-of : (u s d : ℕ) (f : Flushing) → length f.slots.numbers ≡ most_slots → s ≤ most_slots → slots_ok f.slots s d ≡ true → length f.bytes ≡ s * u → Flushable u f
flushable-of u s d f array few ok e =
    let t = slots-tests f.slots s d ok in
    record { array = array; few = omega arith; due_high = t.due_high; room = omega (arith, mul-le-mul_right u t.staged-high) }

pub flushable-by : (u n : ℕ) (f : Flushing) → Flushable u f → Flushable u (flush_by u n f)
unfolding flush_by flushed
flushable-by u n f w =
    let k = f.slots in
    let c = flush_count k n in
    let h : c ≤ k.staged = omega (arith, w.due_high) in
    let le : k.staged - c ≤ k.staged = omega arith in
    record {
      array = array-flushed k w.array c h w.few;
      few = omega (arith, w.few);
      due_high = omega (arith, w.due_high);
      room = omega (arith, mul-le-mul_right u le, length-bytes u k f.bytes w.array c h w.few w.room, w.room);
    }

pub flush-none : (u : ℕ) (f : Flushing) → Flushable u f → flush_by u 0 f ≡ f
unfolding flush_by
flush-none u f w =
    let k = f.slots in
    rw (zero-min k.due, flushed-none k w.array w.few, bytes-none u k f.bytes w.room, stored-none u k.numbers f.bytes f.disk, add-zero f.count)

pub flush-add : (u a b : ℕ) (f : Flushing) → Flushable u f → SameLive u (flush_by u b (flush_by u a f)) (flush_by u (a + b) f)
unfolding flush_by
flush-add u a b f w =
    let k = f.slots in
    let c = flush_count k a in
    let e = flush_count (flushed k c) b in
    let s : c + e ≡ flush_count k (a + b) = count_add k a b in
    let h : c + e ≤ k.staged = omega (arith, w.due_high) in
    record {
      slots_same = flushed-flushed k w.array w.few c e h ∙ ap (flushed k) s;
      blocks_same = list-flushed-flushed k w.array w.few c e h u f.bytes w.room ∙ ap (λ (n : ℕ). slot_list u (flushed k n) (flushed_bytes u k n f.bytes)) s;
      disk_same = stored-stored k w.array w.few c e h u f.bytes w.room f.disk ∙ ap (stored u k.numbers f.bytes f.disk) s;
      count_same = omega arith;
    }

same-trans : (u : ℕ) (f g h : Flushing) → SameLive u f g → SameLive u g h → SameLive u f h
same-trans u f g h x y =
    record {
      slots_same = x.slots_same ∙ y.slots_same;
      blocks_same = x.blocks_same ∙ y.blocks_same;
      disk_same = x.disk_same ∙ y.disk_same;
      count_same = x.count_same ∙ y.count_same;
    }

-- "it equals n flushes of 1"
pub flush-ones : (u n : ℕ) (f : Flushing) → Flushable u f → SameLive u (flush_ones u n f) (flush_by u n f)
unfolding flush_ones
flush-ones u zero f w = rw (flush-none u f w) (record { slots_same = refl; blocks_same = refl; disk_same = refl; count_same = refl })
flush-ones u (suc n) f w =
    let e : 1 + n ≡ suc n = omega arith in
    same-trans u (flush_ones u n (flush_by u 1 f)) (flush_by u n (flush_by u 1 f)) (flush_by u (suc n) f)
    (flush-ones u n (flush_by u 1 f) (flushable-by u 1 f w))
    (rw e at (flush-add u 1 n f w))

-- ---- the bytes behind the staged blocks are left out of it: three blocks of one byte, and two flushed at once or one by one
abbrev pub three : Flushing
three = record { slots = record { staged = 3; due = 3; numbers = replicate most_slots 0 }; bytes = 1 ∷ 2 ∷ 3 ∷ []; disk = 0 ∷ []; count = 0 }

pub behind-at-once : (flush_by 1 2 three).bytes ≡ 3 ∷ 2 ∷ 3 ∷ []
unfolding flush_by flushed_bytes removed put part
behind-at-once = refl

pub behind-one-by-one : (flush_ones 1 2 three).bytes ≡ 3 ∷ 3 ∷ 3 ∷ []
unfolding flush_ones flush_by flushed flushed_bytes removed put part
behind-one-by-one = refl
