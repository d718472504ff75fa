-- The marks of the different blocks. Assumes nothing.
use Prim.Native.Nat.{ℕ, ◌+◌, ◌/◌, ◌≤◌, ◌<◌}
use mathlib.Core.Path.{◌≡◌, sym, ap, ◌∙◌}
use mathlib.Core.Bool.{Bool, ◌||◌, or-true, or-false}
use mathlib.Core.Logic.{⊎_elim}
use mathlib.Core.List.{List, [], ◌∷◌}
use native.Mathlib.Omega.{arith}
use native.Mathlib.Numerals.{add-one}
use lib.Seq.{drop-cons}
use lib.ListN.{length, take, drop, get_or, get_or-map, drop_of_length-le, replicate, length-replicate}
use borrow.Author.Tests.{eq-eqb, ne_eqb}
use Rattle.lists.specs.Select.{is_in}
use Rattle.lists.proofs.TestLaws.{eq-or-ne}
use Rattle.lists.proofs.SelectLaws.{in-first, in-others, in-none}
use Rattle.marks.specs.Mark.{marked, with_mark}
use Rattle.marks.proofs.MarkLaws.{marked-zeros, marked-same, marked_other, length-with_mark}
use Rattle.checkpoints.specs.declared.KeptBlock.{KeptBlock}
use Rattle.checkpoints.specs.Scan.{numbers_of}
use Rattle.checkpoints.proofs.PlaceLaws.{length-numbers}
use Rattle.checkpoints.specs.Form.{Kept, marked_all, MarksKept}

-- ---- the loop over the blocks: what is left of them, from the i-th on
module _ (ws : List ℕ) (blocks : List KeptBlock) (i : ℕ) where
  pub marked_turn : i < length blocks
      → marked_all ws (drop i (numbers_of blocks)) ≡ marked_all (with_mark ws (get_or blocks i (record { number = 0; place = 0 })).number) (drop (i + 1) (numbers_of blocks))
  unfolding marked_all
  marked_turn h =
      let size : length (numbers_of blocks) ≡ length blocks = length-numbers blocks in
      ap (marked_all ws) (drop-cons (numbers_of blocks) i 0 (omega arith) ∙ ap (λ (j : ℕ). get_or (numbers_of blocks) i 0 ∷ drop j (numbers_of blocks)) (sym (add-one i)))
      ∙ ap (λ (n : ℕ). marked_all (with_mark ws n) (drop (i + 1) (numbers_of blocks))) (get_or-map (λ (b : KeptBlock). b.number) blocks i (record { number = 0; place = 0 }))

  pub marked-end : length blocks ≤ i → marked_all ws (drop i (numbers_of blocks)) ≡ ws
  unfolding marked_all
  marked-end h = ap (marked_all ws) (drop_of_length-le (numbers_of blocks) (omega (arith, length-numbers blocks)))

-- ---- what is marked
or-in : (n m : ℕ) (ws ns : List ℕ) → n / 64 < length ws → (marked (with_mark ws m) n || is_in n ns) ≡ (marked ws n || is_in n (m ∷ ns))
or-in n m ws ns low =
    ⊎_elim
    (λ (e : n ≡ m).
    ap (λ (b : Bool). b || is_in n ns) (ap (λ (k : ℕ). marked (with_mark ws k) n) (sym e) ∙ marked-same ws n low)
    ∙ sym (ap (λ (b : Bool). marked ws n || b) (in-first n m ns (eq-eqb m n (sym e))) ∙ or-true (marked ws n)))
    (λ (ne : n ≡ m → ⊥).
    ap (λ (b : Bool). b || is_in n ns) (marked_other ws m n ne)
    ∙ sym (ap (λ (b : Bool). marked ws n || b) (in-others n m ns (ne_eqb m n (λ z. ne (sym z))))))
    (eq-or-ne n m)

-- a number that the words have is marked where it was, or where it is one of the numbers
marked_all_lem : (n : ℕ) (ns ws : List ℕ) → n / 64 < length ws → marked (marked_all ws ns) n ≡ (marked ws n || is_in n ns)
unfolding marked_all
marked_all_lem n [] ws low = sym (ap (λ (b : Bool). marked ws n || b) (in-none n) ∙ or-false (marked ws n))
marked_all_lem n (m ∷ ns) ws low = marked_all_lem n ns (with_mark ws m) (omega (arith, length-with_mark ws m)) ∙ or-in n m ws ns low

-- of no marks, those of the blocks that came
pub marks-kept : (d : ℕ) → d ≤ 4096 → (t : Kept) → MarksKept d (marked_all (replicate 64 0) (take t.counts.blocks t.numbers)) t
marks-kept d few t n h =
    let ns = take t.counts.blocks t.numbers in
    marked_all_lem n ns (replicate 64 0) (omega (arith, length-replicate {A = ℕ} 64 0)) ∙ ap (λ (b : Bool). b || is_in n ns) (marked-zeros 64 n)
