-- A program that answers its input line by line: what it prints, and the same byte by byte. Assumes nothing.
use Rattle.std.specs.Prelude.{ℕ, ◌≡◌, Bool, false, cond, ◌||◌, eqb, length}
use mathlib.Core.List.{List, [], ◌∷◌, ◌++◌, drop_last}
use Rattle.text.specs.Line.{split, lines_of, newline}
use Rattle.text.specs.Kept.{kept_all}

-- what a line gives: what is kept after it, what is printed, and whether it ends the program
pub record Answered (S : Type 0) : Type 0 where
  pub next : S
  pub printed : List ℕ
  pub last : Bool

-- a program that answers its input line by line: S is what it keeps between two lines, L what of a line under way
pub record Program (S L : Type 0) : Type 0 where
  -- what is kept before the first line
  pub start : S
  -- the answer to a line
  pub answer : S → List ℕ → Answered S
  -- what is kept of a line before its first byte, with one byte more, and whether no byte has come
  pub no_line : L
  pub line_with : L → ℕ → L
  pub is_empty_line : L → Bool
  -- the answer, by what is kept of the line
  pub answer_kept : S → L → Answered S
  -- what is printed at the end of the input, where no line ended the program
  pub finish : S → List ℕ

-- what is kept of a whole line
abbrev pub kept_line : {S L : Type 0} → Program S L → List ℕ → L
kept_line p line = kept_all p.line_with p.no_line line

-- what is kept of a line is enough: for its answer, and to tell the empty line
pub record KeptRight {S L : Type 0} (p : Program S L) : Type 0 where
  pub answers : (s : S) (line : List ℕ) → p.answer_kept s (kept_line p line) ≡ p.answer s line
  pub empty : (line : List ℕ) → p.is_empty_line (kept_line p line) ≡ eqb (length line) 0

-- line after line, up to the end or to one that ends the program
unfoldable pub printed_lines : {S L : Type 0} → Program S L → S → List (List ℕ) → List ℕ
printed_lines p s [] = p.finish s
printed_lines p s (line ∷ lines) = let a = p.answer s line in a.printed ++ cond a.last [] (printed_lines p a.next lines)

-- what the program prints for its whole input
abbrev pub output : {S L : Type 0} → Program S L → List ℕ → List ℕ
output p input = printed_lines p p.start (lines_of input)

-- ---- where the program ends before its input does

-- the lines that have come with their newline: the parts between the newlines but the last, which is under way
abbrev pub ended_lines : List ℕ → List (List ℕ)
ended_lines input = drop_last (split newline input)

-- whether one of the lines ends the program
unfoldable pub any_last : {S L : Type 0} → Program S L → S → List (List ℕ) → Bool
any_last p s [] = false
any_last p s (line ∷ lines) = let a = p.answer s line in a.last || any_last p a.next lines

-- ---- byte by byte

-- what the program keeps between two bytes: its state, what is kept of the line under way, and whether a line has ended the program
pub record Reading (S L : Type 0) : Type 0 where
  pub state : S
  pub line : L
  pub over : Bool

abbrev pub reading : {S L : Type 0} → S → L → Bool → Reading S L
reading state line over = record { state = state; line = line; over = over }

abbrev pub first_reading : {S L : Type 0} → Program S L → Reading S L
first_reading p = reading p.start p.no_line false

-- the line under way is at its end
abbrev pub line_answered : {S L : Type 0} → Program S L → Reading S L → Answered S
line_answered p r = p.answer_kept r.state r.line

-- one byte more; after a line that ends the program nothing is read
unfoldable pub fed : {S L : Type 0} → Program S L → Reading S L → ℕ → Reading S L
fed p r b =
    cond r.over r
    (cond (eqb b newline) (reading (line_answered p r).next p.no_line (line_answered p r).last) (reading r.state (p.line_with r.line b) false))

unfoldable pub fed_printed : {S L : Type 0} → Program S L → Reading S L → ℕ → List ℕ
fed_printed p r b = cond r.over [] (cond (eqb b newline) (line_answered p r).printed [])

unfoldable pub fed_all : {S L : Type 0} → Program S L → Reading S L → List ℕ → Reading S L
fed_all p r [] = r
fed_all p r (b ∷ bs) = fed_all p (fed p r b) bs

unfoldable pub fed_all_printed : {S L : Type 0} → Program S L → Reading S L → List ℕ → List ℕ
fed_all_printed p r [] = []
fed_all_printed p r (b ∷ bs) = fed_printed p r b ++ fed_all_printed p (fed p r b) bs

-- at the end of the input: a last line without its newline is answered too
unfoldable pub end_printed : {S L : Type 0} → Program S L → Reading S L → List ℕ
end_printed p r =
    cond r.over []
    (cond (p.is_empty_line r.line) (p.finish r.state)
    (let a = line_answered p r in a.printed ++ cond a.last [] (p.finish a.next)))
