-- Laws of one mark cleared and of the first m marks set, of any words, also of numbers above 2 ^ 64. Assumes nothing.
use Prim.Native.Nat.{ℕ, zero, suc, ◌-◌, ◌*◌, ◌/◌, ◌%◌, ◌≤◌, ◌<◌, min}
use mathlib.Core.Path.{◌≡◌, refl, ap, ap₂}
use mathlib.Core.Logic.{◌≢◌, ⊎_elim}
use mathlib.Core.Bool.{true, false}
use mathlib.Core.List.{List, [], ◌∷◌}
use native.Mathlib.Omega.{arith}
use lib.ListN.{length, get_or, length-set}
use lib.Seq.{get_or-set_same, get_or-set_other, set_out}
use Rattle.lists.proofs.TestLaws.{lt-or-ge, eq-or-ne}
use Rattle.marks.specs.Mark.{mark_bit, marked, without_mark, with_low_bits, all_marked}
use Rattle.marks.proofs.SetBitLaws.{bit-without-same, bit-without-other, bit-low, bit-past-low, low-none}
use Rattle.marks.proofs.MarkLaws.{same-mark, marked-past}

-- ---- one mark cleared
pub length_without : (ws : List ℕ) (p : ℕ) → length (without_mark ws p) ≡ length ws
unfolding without_mark
length_without ws p = length-set ws _ _

pub without-past : (ws : List ℕ) (p : ℕ) → length ws ≤ p / 64 → without_mark ws p ≡ ws
unfolding without_mark
without-past ws p h = set_out ws (p / 64) _ h

without-inside : (ws : List ℕ) (p : ℕ) → p / 64 < length ws → marked (without_mark ws p) p ≡ false
unfolding marked mark_bit without_mark
without-inside ws p h = rw (get_or-set_same ws (p / 64) _ 0 h, bit-without-same)

pub marked-without-same : (ws : List ℕ) (p : ℕ) → marked (without_mark ws p) p ≡ false
marked-without-same ws p =
    ⊎_elim (λ h. without-inside ws p h) (λ g. rw (without-past ws p g) (marked-past ws p g)) (lt-or-ge (p / 64) (length ws))

-- the other pages of the word
in-word : (ws : List ℕ) (p q : ℕ) → p / 64 < length ws → q / 64 ≡ p / 64 → q ≢ p → mark_bit (without_mark ws p) q ≡ mark_bit ws q
unfolding mark_bit without_mark
in-word ws p q h e ne =
    let d : q % 64 ≢ p % 64 = λ s. ne (omega arith) in
    rw (e, get_or-set_same ws (p / 64) _ 0 h) (bit-without-other (get_or ws (p / 64) 0) (p % 64) (q % 64) d)

other_word : (ws : List ℕ) (p q : ℕ) → q / 64 ≢ p / 64 → mark_bit (without_mark ws p) q ≡ mark_bit ws q
unfolding mark_bit without_mark
other_word ws p q ne = rw (get_or-set_other ws (p / 64) (q / 64) _ 0 ne)

pub marked-without-other : (ws : List ℕ) (p q : ℕ) → q ≢ p → marked (without_mark ws p) q ≡ marked ws q
marked-without-other ws p q ne =
    ⊎_elim
    (λ h. same-mark (without_mark ws p) ws q q (⊎_elim (λ e. in-word ws p q h e ne) (λ d. other_word ws p q d) (eq-or-ne (q / 64) (p / 64))))
    (λ g. rw (without-past ws p g))
    (lt-or-ge (p / 64) (length ws))

-- ---- the first m marks set
pub length-all-marked : (ws : List ℕ) (m : ℕ) → length (all_marked ws m) ≡ length ws
unfolding all_marked
length-all-marked [] m = refl
length-all-marked (w ∷ ws) m = ap suc (length-all-marked ws (m - 64))

pub all-marked-none : (ws : List ℕ) → all_marked ws 0 ≡ ws
unfolding all_marked
all-marked-none [] = refl
all-marked-none (w ∷ ws) = ap₂ ◌∷◌ (low-none w) (all-marked-none ws)

-- word i of what is set
pub all-marked-word : (ws : List ℕ) (m i : ℕ) → i < length ws → get_or (all_marked ws m) i 0 ≡ with_low_bits (get_or ws i 0) (min (m - 64 * i) 64)
unfolding all_marked
all-marked-word [] m i h = absurd (omega arith)
all-marked-word (w ∷ ws) m zero h = let e : m - 64 * 0 ≡ m = omega arith in rw e
all-marked-word (w ∷ ws) m (suc i) h =
    let e : m - 64 - 64 * i ≡ m - 64 * suc i = omega arith in
    rw (← e) (all-marked-word ws (m - 64) i (omega arith))

pub marked_all : (ws : List ℕ) (m p : ℕ) → p < m → p / 64 < length ws → marked (all_marked ws m) p ≡ true
unfolding marked mark_bit
marked_all ws m p h l = rw (all-marked-word ws m (p / 64) l, bit-low (get_or ws (p / 64) 0) (min (m - 64 * (p / 64)) 64) (p % 64) (omega arith))

kept-inside : (ws : List ℕ) (m p : ℕ) → m ≤ p → p / 64 < length ws → marked (all_marked ws m) p ≡ marked ws p
unfolding marked mark_bit
kept-inside ws m p h l = rw (all-marked-word ws m (p / 64) l, bit-past-low (get_or ws (p / 64) 0) (min (m - 64 * (p / 64)) 64) (p % 64) (omega arith))

pub marked-all-past : (ws : List ℕ) (m p : ℕ) → m ≤ p → marked (all_marked ws m) p ≡ marked ws p
marked-all-past ws m p h =
    ⊎_elim
    (λ l. kept-inside ws m p h l)
    (λ g. rw (marked-past ws p g) (marked-past (all_marked ws m) p (rw length-all-marked g)))
    (lt-or-ge (p / 64) (length ws))
