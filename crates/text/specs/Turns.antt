-- The input of a program in parts of any size: what each turn gives, and what all of them come to. Assumes nothing.
use Rattle.std.specs.Prelude.{ℕ, ◌≡◌, ◌⊎◌, Bool, true, false, cond, not, ◌&&◌, length}
use mathlib.Core.List.{List, [], ◌∷◌, ◌++◌, flatten}
use Rattle.text.specs.Line.{is_empty}
use Rattle.text.specs.Feed.{Program, output, ended_lines, any_last, Reading, first_reading, fed_all, fed_all_printed, end_printed}

-- ---- a turn: a part of the input, or its end, which is an empty part

-- what is kept after it
abbrev pub turn_next : {S L : Type 0} → Program S L → Reading S L → List ℕ → Reading S L
turn_next p r part = fed_all p r part

-- what is written
unfoldable pub turn_printed : {S L : Type 0} → Program S L → Reading S L → List ℕ → List ℕ
turn_printed p r part = cond (is_empty part) (end_printed p r) (fed_all_printed p r part)

-- whether more is read after it: neither after the end of the input nor after a line that ends the program
unfoldable pub turn_more : {S L : Type 0} → Program S L → Reading S L → List ℕ → Bool
turn_more p r part = cond (is_empty part) false (not (turn_next p r part).over)

-- ---- turn after turn, while more is to be read

-- what is kept after all of them
unfoldable pub all_next : {S L : Type 0} → Program S L → Reading S L → List (List ℕ) → Reading S L
all_next p r [] = r
all_next p r (part ∷ parts) = all_next p (turn_next p r part) parts

-- all that is written; no turn is made after one after which nothing is read
unfoldable pub all_printed : {S L : Type 0} → Program S L → Reading S L → List (List ℕ) → List ℕ
all_printed p r [] = []
all_printed p r (part ∷ parts) = turn_printed p r part ++ cond (turn_more p r part) (all_printed p (turn_next p r part) parts) []

-- whether more is read after each of them
unfoldable pub all_more : {S L : Type 0} → Program S L → Reading S L → List (List ℕ) → Bool
all_more p r [] = true
all_more p r (part ∷ parts) = turn_more p r part && all_more p (turn_next p r part) parts

-- whether the program ends after them: more is read after each but the last
abbrev pub is_none : List (List ℕ) → Bool
is_none [] = true
is_none (part ∷ parts) = false

unfoldable pub ends_after : {S L : Type 0} → Program S L → Reading S L → List (List ℕ) → Bool
ends_after p r [] = false
ends_after p r (part ∷ parts) = cond (turn_more p r part) (ends_after p (turn_next p r part) parts) (is_none parts)

-- ---- what the toolchain leaves open: no contract of a read says what it gave, or that one was made. So the two below
-- say what becomes of some parts, whichever they are, and not that they were read

-- a turn was made on some part
pub record SomeTurn {S L : Type 0} (p : Program S L) (r next : Reading S L) (more : Bool) : Type 0 where
  pub part : List ℕ
  pub next_is : next ≡ turn_next p r part
  pub more_is : more ≡ turn_more p r part

-- a loop has to end: the largest number of turns
abbrev pub most_turns : ℕ
most_turns = 18446744073709551615

-- turns were made on some parts, up to one after which no more is read, or the largest number of them
pub record SomeTurns {S L : Type 0} (p : Program S L) (first last : Reading S L) : Type 0 where
  pub parts : List (List ℕ)
  pub last_is : last ≡ all_next p first parts
  pub all_made : (ends_after p first parts ≡ true) ⊎ ((all_more p first parts ≡ true) × (length parts ≡ most_turns))

-- turns were made on some parts, none after one after which no more is read: what a write that fails leaves
pub record TurnsMade {S L : Type 0} (p : Program S L) (first last : Reading S L) : Type 0 where
  pub parts : List (List ℕ)
  pub last_is : last ≡ all_next p first parts
  pub so_far : (ends_after p first parts ≡ true) ⊎ (all_more p first parts ≡ true)

-- ---- what is claimed of a program over any parts

-- none of them is empty: the end of the input is not among them
abbrev pub none_empty : List (List ℕ) → Bool
none_empty [] = true
none_empty (part ∷ parts) = not (is_empty part) && none_empty parts

pub record RunRight {S L : Type 0} (p : Program S L) (parts : List (List ℕ)) : Type 0 where
  -- where the program has ended after these turns, all that it wrote is the output of all that it read
  pub ended : ends_after p (first_reading p) parts ≡ true → all_printed p (first_reading p) parts ≡ output p (flatten parts)
  -- an input in any parts, then its end: all that is written is the output of the whole input
  pub whole : none_empty parts ≡ true → all_printed p (first_reading p) (parts ++ [] ∷ []) ≡ output p (flatten parts)
  -- and it goes on reading exactly while none of the lines that have come is the last
  pub more : none_empty parts ≡ true → all_more p (first_reading p) parts ≡ not (any_last p p.start (ended_lines (flatten parts)))
