-- What is kept of a line while its bytes come one by one. Assumes nothing.
use Rattle.std.specs.Prelude.{ℕ, ◌+◌, ◌-◌, ◌*◌, min, Bool, true, false, cond, ◌&&◌, List, [], ◌∷◌, leb, ltb, eqb}
use Rattle.text.specs.Decimal.{zero_digit, is_digit}
use Rattle.text.specs.Line.{space}
use Rattle.text.specs.declared.Number.{Number}
use Rattle.text.specs.declared.Line.{Line}

-- ---- whatever is kept: byte after byte
unfoldable pub kept_all : {L : Type 0} → (L → ℕ → L) → L → List ℕ → L
kept_all f l [] = l
kept_all f l (b ∷ bs) = kept_all f (f l b) bs

-- ---- the struct Line: a line that may be a command or a row of numbers

-- the least number above every limit of a command's or a row's numbers
abbrev pub too_large : ℕ
too_large = 4294967296

abbrev pub no_number : Number
no_number = record { some = false; digits = true; value = 0 }

-- one byte more of a word
unfoldable pub number_with : Number → ℕ → Number
number_with n b =
    cond (is_digit b)
    (record { some = true; digits = n.digits; value = min too_large (10 * min too_large n.value + (b - zero_digit)) })
    (record { some = true; digits = false; value = n.value })

-- the word is a number of at most this; most is below too_large
abbrev pub number_is : ℕ → Number → Bool
number_is most n = n.some && n.digits && leb n.value most

abbrev pub no_line : Line
no_line = record { words = 1; letters = 0; letter = 0; lead = no_number; first = no_number; second = no_number }

-- a space: the next word begins
abbrev pub next_word : Line → Line
next_word l = record { words = cond (ltb l.words 4) (l.words + 1) 4; letters = l.letters; letter = l.letter; lead = l.lead; first = l.first; second = l.second }

-- a byte of the first word, which is kept as a letter and as a number (lead), of the second and of the third
abbrev pub with_letter : Line → ℕ → Line
with_letter l b =
    record {
      words = l.words;
      letters = cond (ltb l.letters 2) (l.letters + 1) 2;
      letter = cond (eqb l.letters 0) b l.letter;
      lead = number_with l.lead b;
      first = l.first;
      second = l.second;
    }

abbrev pub with_first_number : Line → ℕ → Line
with_first_number l b = record { words = l.words; letters = l.letters; letter = l.letter; lead = l.lead; first = number_with l.first b; second = l.second }

abbrev pub with_second_number : Line → ℕ → Line
with_second_number l b = record { words = l.words; letters = l.letters; letter = l.letter; lead = l.lead; first = l.first; second = number_with l.second b }

-- one byte more of a line; of a fourth word nothing is kept
unfoldable pub line_with : Line → ℕ → Line
line_with l b =
    cond (eqb b space) (next_word l)
    (cond (eqb l.words 1) (with_letter l b)
    (cond (eqb l.words 2) (with_first_number l b)
    (cond (eqb l.words 3) (with_second_number l b)
    l)))

abbrev pub line_with_all : Line → List ℕ → Line
line_with_all l bytes = kept_all line_with l bytes

-- no byte has come
abbrev pub is_empty_line : Line → Bool
is_empty_line l = eqb l.words 1 && eqb l.letters 0
