-- Laws of a line by its cases: its first word is its first bytes, and a U that is read is in range. Assumes nothing.
use Prim.Native.Nat.{ℕ, ◌+◌, ◌-◌, ◌≤◌}
use mathlib.Core.Path.{◌≡◌, refl, sym, ◌∙◌}
use mathlib.Core.Bool.{Bool, true, false, cond, ◌&&◌}
use mathlib.Core.List.{List}
use native.Mathlib.Omega.{arith}
use lib.Dec.{ltb}
use lib.ListN.{length, take, drop, get_or}
use lib.Seq.{length-take-le}
use borrow.Author.Tests.{le-ltb, ne_eqb}
use Rattle.std.specs.Prelude.{Result, Ok, Err}
use Rattle.lists.proofs.TestLaws.{both}
use Rattle.text.specs.Line.{space, first_part}
use Rattle.text.proofs.FeedPartLaws.{first-is}
use Rattle.text.specs.Decimal.{all_digits, is_number, value_of}
use Rattle.records.specs.Kind.{unit_ok, most_unit}
use Rattle.plates.specs.declared.Fault.{Fault}
use Rattle.plates.specs.declared.Fault.TheVariants.{NoHead, BadUnit}
use Rattle.plates.specs.declared.PlateHead.{PlateHead}
use Rattle.plates.specs.declared.PlateHead.TheVariants as head
use Rattle.plates.specs.Plate.{most_line, carriage_return, is_area, headed, plate_of}
use Rattle.plates.specs.Read.{head_of, UnitFits}
use Rattle.plates.proofs.HeadLaws.{headed_by, headed-by}

-- a line that is read by its first word, which ends at n
pub plate-headed : (line : List ℕ) (n : ℕ) → (length line ≡ 0 → ⊥) → length line ≤ most_line
    → (get_or line (length line - 1) 0 ≡ carriage_return → ⊥) → n ≡ 0 + length (first_part space (drop 0 line))
    → plate_of line ≡ headed (take n line) (drop n line)
unfolding plate_of
plate-headed line n some low end e =
    let f : n ≡ length (first_part space line) = omega (arith, e) in
    rw (ne_eqb (length line) 0 some, le-ltb most_line (length line) low, ne_eqb (get_or line (length line - 1) 0) carriage_return end)
    (rw (f, first-is space line))

-- ---- by the head of the first word, which has n bytes
pub headed-part : (line : List ℕ) (n : ℕ) → n ≤ length line → (h : Result PlateHead Fault) → h ≡ head_of (take n line)
    → headed (take n line) (drop n line) ≡ headed_by h n (drop n line)
headed-part line n low h e = headed-by (take n line) (drop n line) ∙ rw (sym e, length-take-le n line low)

-- ---- the U of a head is in its range
abbrev HeadFits : Result PlateHead Fault → Type 0
HeadFits (Ok h) = UnitFits h
HeadFits (Err fault) = Unit {0}

head-unit : (w : List ℕ) → HeadFits (head_of w)
unfolding head_of
head-unit w = go (is_area w) (is_number most_unit w && unit_ok (value_of w)) (λ e. (both (is_number most_unit w) (unit_ok (value_of w)) e).1)
  where
    go : (a b : Bool) → (b ≡ true → unit_ok (value_of w) ≡ true)
        → HeadFits (cond a (Ok head.Area) (cond b (Ok (head.Unit (value_of w))) (Err (cond (ltb 0 (length w) && all_digits w) BadUnit NoHead))))
    go true b h = tt
    go false true h = h refl
    go false false h = tt

pub unit_fits : (w : List ℕ) (h : PlateHead) → Ok h ≡ head_of w → UnitFits h
unit_fits w h e = rw (sym e) at (head-unit w)
