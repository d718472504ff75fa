-- Laws of storing: the disk's length is kept, and what the lent lengths have to be. Assumes nothing.
use mathlib.Core.Path.{◌≡◌, refl, ◌∙◌}
use mathlib.Core.Bool.{true}
use mathlib.Core.List.{List}
use Prim.Native.Nat.{ℕ, zero, suc, ◌+◌, ◌*◌, ◌≤◌}
use native.Mathlib.Nat.{mul-le-mul_right}
use native.Mathlib.Numerals.{add-one}
use native.Mathlib.Omega.{arith}
use lib.ListN.{length, get_or}
use Rattle.lists.specs.Page.{page, with_page}
use Rattle.lists.proofs.PageLaws.{page-end, length-page, length-with-page}
use Rattle.settings.specs.Range.{most_slots}
use Rattle.staging.specs.declared.Slots.{Slots}
use Rattle.staging.specs.Slot.{slots_ok, stored, flush_count}
use Rattle.staging.specs.Fits.{StoreFits, FlushFits}
use Rattle.staging.proofs.SlotLaws.{slots-facts}

-- ---- one block more
pub stored-none : (u : ℕ) (numbers slots disk : List ℕ) → stored u numbers slots disk 0 ≡ disk
unfolding stored
stored-none u numbers slots disk = refl

pub stored_more : (u : ℕ) (numbers slots disk : List ℕ) (i : ℕ) → stored u numbers slots disk (i + 1) ≡ with_page u (stored u numbers slots disk i) (get_or numbers i 0) (page u slots i)
unfolding stored
stored_more u numbers slots disk i = rw add-one

-- ---- fewer blocks fit too
pub store-fewer : (u : ℕ) (numbers : List ℕ) (i count slots disk : ℕ) → i ≤ count → StoreFits u numbers count slots disk → StoreFits u numbers i slots disk
store-fewer u numbers i count slots disk h f =
    let m = mul-le-mul_right u h in
    record { few = omega (arith, f.few); in_slots = omega (arith, f.in_slots); in_disk = λ j g. f.in_disk j (omega arith) }

pub length-stored : (u : ℕ) (numbers slots disk : List ℕ) (count : ℕ) → StoreFits u numbers count (length slots) (length disk) → length (stored u numbers slots disk count) ≡ length disk
unfolding stored
length-stored u numbers slots disk zero f = refl
length-stored u numbers slots disk (suc i) f =
    let below = length-stored u numbers slots disk i (store-fewer u numbers i (suc i) (length slots) (length disk) (omega arith) f) in
    let e = page-end i (suc i) u (omega arith) in
    let s = length-page u i slots (omega (arith, f.in_slots)) in
    length-with-page u (get_or numbers i 0) (stored u numbers slots disk i) (page u slots i) s (omega (arith, f.in_disk i (omega arith))) ∙ below

-- ---- what a flush requires
pub store-of-flush : (u : ℕ) (k : Slots) (n slots disk : ℕ) → FlushFits u k slots disk → StoreFits u k.numbers (flush_count k n) slots disk
store-of-flush u k n slots disk f =
    let h : flush_count k n ≤ k.staged = omega (arith, f.due_high) in
    let m = mul-le-mul_right u h in
    record { few = omega (arith, f.few); in_slots = omega (arith, f.in_slots); in_disk = λ i g. f.in_disk i (omega arith) }

-- slots and a disk of the lengths that the settings ask, with the slots in range
pub flush-fits : (u s d : ℕ) (k : Slots) (slots disk : ℕ) → length k.numbers ≡ most_slots → s ≤ most_slots → slots_ok k s d ≡ true → slots ≡ s * u → disk ≡ d * u → FlushFits u k slots disk
flush-fits u s d k slots disk array few ok es ed =
    let f = slots-facts k s d array few ok in
    let m = mul-le-mul_right u f.staged-high in
    record {
      few = omega (arith, f.staged-high);
      due_high = f.due_high;
      in_slots = omega arith;
      in_disk = λ i h. omega (arith, page-end (get_or k.numbers i 0) d u (f.number-low i (omega (arith, f.due_high))), ed);
    }
