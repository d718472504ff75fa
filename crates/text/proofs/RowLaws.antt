-- Laws of rows: what is kept of a line says whether it is a row, and its three numbers. Assumes nothing.
use mathlib.Core.Path.{◌≡◌, ap, ap₂, ◌∙◌}
use mathlib.Core.Bool.{Bool, true, ◌&&◌}
use mathlib.Core.List.{List}
use Prim.Native.Nat.{ℕ, ◌≤◌, ◌<◌}
use native.Mathlib.Omega.{arith}
use lib.Dec.{eqb, leb}
use lib.ListN.{length}
use borrow.Author.Tests.{leb-true}
use Rattle.lists.proofs.TestLaws.{both}
use Rattle.text.specs.Line.{words_of, word}
use Rattle.text.specs.Decimal.{is_number, most_number}
use Rattle.text.specs.Kept.{too_large, no_line, line_with_all, number_is}
use Rattle.text.specs.Row.{is_row, row_at, is_row_kept}
use Rattle.text.specs.declared.Number.{Number}
use Rattle.text.specs.declared.Line.{Line}
use Rattle.text.proofs.KeptLaws.{kept_of, kept_line}
use Rattle.text.proofs.WordLaws.{kept-count, lead-test, first-test, second-test, lead-value, first-value, second-value}

small : most_number < too_large
small = omega arith

count : (ws : List (List ℕ)) → eqb (kept_of ws).words 3 ≡ eqb (length ws) 3
unfolding kept_of
count ws = kept-count 4 (length ws) 3 (omega arith)

row_words : (line : List ℕ) → is_row_kept (kept_of (words_of line)) ≡ is_row line
unfolding is_row_kept is_row
row_words line =
    let ws = words_of line in
    ap₂ ◌&&◌ (ap₂ ◌&&◌ (ap₂ ◌&&◌ (count ws) (lead-test ws most_number small)) (first-test ws most_number small)) (second-test ws most_number small)

pub row_is : (line : List ℕ) → is_row_kept (line_with_all no_line line) ≡ is_row line
row_is line = ap is_row_kept (kept_line line) ∙ row_words line

-- four tests in a row
all-four : (a b c d : Bool) → a && b && c && d ≡ true → (a ≡ true) × (b ≡ true) × (c ≡ true) × (d ≡ true)
all-four a b c d e =
    let p = both (a && b && c) d e in
    let q = both (a && b) c p.0 in
    let r = both a b q.0 in
    (r.0, r.1, q.1, p.1)

-- the three numbers of a row
pub record RowValues (line : List ℕ) : Type 0 where
  pub lead : (line_with_all no_line line).lead.value ≡ row_at line 0
  pub first : (line_with_all no_line line).first.value ≡ row_at line 1
  pub second : (line_with_all no_line line).second.value ≡ row_at line 2

pub row-values : (line : List ℕ) → is_row line ≡ true → RowValues line
unfolding is_row
row-values line e =
    let ws = words_of line in
    let f = all-four (eqb (length ws) 3) (is_number most_number (word ws 0)) (is_number most_number (word ws 1)) (is_number most_number (word ws 2)) e in
    record {
      lead = ap (λ (l : Line). l.lead.value) (kept_line line) ∙ lead-value ws most_number small f.1;
      first = ap (λ (l : Line). l.first.value) (kept_line line) ∙ first-value ws most_number small f.2;
      second = ap (λ (l : Line). l.second.value) (kept_line line) ∙ second-value ws most_number small f.3;
    }

-- each of them is at most 4,294,967,295
pub record RowLow (l : Line) : Type 0 where
  pub lead : l.lead.value ≤ most_number
  pub first : l.first.value ≤ most_number
  pub second : l.second.value ≤ most_number

pub row_low : (l : Line) → is_row_kept l ≡ true → RowLow l
unfolding is_row_kept
row_low l e =
    let f = all-four (eqb l.words 3) (number_is most_number l.lead) (number_is most_number l.first) (number_is most_number l.second) e in
    record { lead = low l.lead f.1; first = low l.first f.2; second = low l.second f.3 }
  where
    low : (n : Number) → number_is most_number n ≡ true → n.value ≤ most_number
    low n h = leb-true n.value most_number (both (n.some && n.digits) (leb n.value most_number) h).1
