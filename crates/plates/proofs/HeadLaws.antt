-- Laws of the first word of a line: what is kept of it as a number tells what it is. Assumes nothing.
use Prim.Native.Nat.{ℕ}
use mathlib.Core.Path.{◌≡◌, refl, sym, ap, ap₂, ◌∙◌}
use mathlib.Core.Bool.{Bool, true, false, cond, ◌&&◌}
use mathlib.Core.List.{List, [], ◌∷◌}
use native.Mathlib.Omega.{arith}
use lib.Dec.{ltb, eqb}
use lib.Pointwise.{pointwise}
use Rattle.std.specs.Prelude.{Result, Ok, Err}
use lib.ListN.{length, get_or}
use borrow.Author.Tests.{eqb-true}
use Rattle.std.specs.Cmp.Lexicographic.{same_text}
use Rattle.lists.proofs.TestLaws.{both, refuted}
use Rattle.text.specs.declared.Number.{Number}
use Rattle.text.specs.Decimal.{all_digits, is_number, value_of}
use Rattle.text.specs.Kept.{kept_all, no_number, number_with, number_is}
use Rattle.text.proofs.NumberLaws.{kept, number_with_all, kept-some, kept-digits, kept-is-number, kept-number-value}
use Rattle.records.specs.Kind.{unit_ok, most_unit}
use Rattle.plates.specs.declared.Fault.TheVariants.{NoHead, BadUnit}
use Rattle.plates.specs.declared.Fault.{Fault}
use Rattle.plates.specs.declared.PlateHead.{PlateHead}
use Rattle.plates.specs.declared.PlateHead.TheVariants as head
use Rattle.plates.specs.Hex.{hex_behind}
use Rattle.plates.specs.Words.{bad_line}
use Rattle.plates.specs.Plate.{is_area, on_hex, area_output, plates_of, headed}
use Rattle.plates.specs.Read.{head_of, on_head}

-- what a line gives by its first word, where n is its length
abbrev pub headed_by : Result PlateHead Fault → (n : ℕ) → List ℕ → List ℕ
headed_by (Ok h) n rest = on_hex (hex_behind n rest) (on_head h)
headed_by (Err fault) n rest = bad_line fault 1

pub headed-by : (first rest : List ℕ) → headed first rest ≡ headed_by (head_of first) (length first) rest
unfolding headed head_of
headed-by first rest = go (is_area first) (is_number most_unit first && unit_ok (value_of first)) (ltb 0 (length first) && all_digits first)
  where
    go : (a b z : Bool)
        → cond a (on_hex (hex_behind (length first) rest) area_output) (cond b (on_hex (hex_behind (length first) rest) (plates_of (value_of first))) (bad_line (cond z BadUnit NoHead) 1))
        ≡ headed_by (cond a (Ok head.Area) (cond b (Ok (head.Unit (value_of first))) (Err (cond z BadUnit NoHead)))) (length first) rest
    go true b z = refl
    go false true z = refl
    go false false z = refl

-- ---- what is kept of the word
all-kept : (n : Number) (w : List ℕ) → kept_all number_with n w ≡ number_with_all n w
unfolding kept_all number_with_all
all-kept n [] = refl
all-kept n (b ∷ w) = all-kept (number_with n b) w

-- the head, where n is kept of the word
abbrev pub head_by : Bool → Number → Result PlateHead Fault
head_by area n =
    cond area (Ok head.Area)
    (cond (number_is most_unit n && unit_ok n.value) (Ok (head.Unit n.value))
    (Err (cond (n.some && n.digits) BadUnit NoHead)))

head-kept : (w : List ℕ) → head_of w ≡ head_by (is_area w) (kept w)
unfolding head_of
head-kept w =
    ap (λ (h : Result PlateHead Fault). cond (is_area w) (Ok head.Area) h)
    (go (is_number most_unit w) refl
    ∙ ap₂ (λ (a b : Bool). cond (number_is most_unit (kept w) && unit_ok (kept w).value) (Ok (head.Unit (kept w).value)) (Err (cond (a && b) BadUnit NoHead))) (sym (kept-some w)) (sym (kept-digits w)))
  where
    other : Result PlateHead Fault
    other = Err (cond (ltb 0 (length w) && all_digits w) BadUnit NoHead)

    is : number_is most_unit (kept w) ≡ is_number most_unit w
    is = kept-is-number w most_unit (omega arith)

    go : (t : Bool) → is_number most_unit w ≡ t
        → cond (is_number most_unit w && unit_ok (value_of w)) (Ok (head.Unit (value_of w))) other
        ≡ cond (number_is most_unit (kept w) && unit_ok (kept w).value) (Ok (head.Unit (kept w).value)) other
    go true e = rw (is, kept-number-value w most_unit (omega arith) e)
    go false e = rw (is, e)

pub head-is : (w : List ℕ) (n : Number) → n ≡ kept_all number_with no_number w → head_of w ≡ head_by (is_area w) n
head-is w n e = head-kept w ∙ ap (head_by (is_area w)) (sym (e ∙ all-kept no_number w))

-- ---- the word area, compared
four : (w : List ℕ) → length w ≡ 4 → w ≡ get_or w 0 0 ∷ get_or w 1 0 ∷ get_or w 2 0 ∷ get_or w 3 0 ∷ []
four [] e = absurd (omega arith)
four (a ∷ []) e = absurd (omega arith)
four (a ∷ b ∷ []) e = absurd (omega arith)
four (a ∷ b ∷ c ∷ []) e = absurd (omega arith)
four (a ∷ b ∷ c ∷ d ∷ []) e = refl
four (a ∷ b ∷ c ∷ d ∷ x ∷ w) e = absurd (omega arith)

area-bytes : (w : List ℕ) → is_area w ≡ true → w ≡ 97 ∷ 114 ∷ 101 ∷ 97 ∷ []
area-bytes w e =
    let l = eqb (length w) 4 in
    let x = eqb (get_or w 0 0) 97 in
    let y = eqb (get_or w 1 0) 114 in
    let z = eqb (get_or w 2 0) 101 in
    let a = both (l && x && y && z) (eqb (get_or w 3 0) 97) e in
    let b = both (l && x && y) z a.0 in
    let c = both (l && x) y b.0 in
    let d = both l x c.0 in
    four w (eqb-true _ _ d.0) ∙ rw (eqb-true _ _ d.1, eqb-true _ _ c.1, eqb-true _ _ b.1, eqb-true _ _ a.1)

pub area-word : (w : List ℕ) → true ≡ pointwise eqb w (97 ∷ 114 ∷ 101 ∷ 97 ∷ []) → is_area w ≡ true
area-word w e = let is : w ≡ 97 ∷ 114 ∷ 101 ∷ 97 ∷ [] = same_text w (97 ∷ 114 ∷ 101 ∷ 97 ∷ []) e in rw is

pub other-word : (w : List ℕ) → false ≡ pointwise eqb w (97 ∷ 114 ∷ 101 ∷ 97 ∷ []) → is_area w ≡ false
other-word w e = sym (refuted (is_area w) (λ z. let f : false ≡ true = e ∙ rw (area-bytes w z) in absurd (cc)))
