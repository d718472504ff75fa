-- A row: a line of three numbers. Assumes nothing.
use Rattle.std.specs.Prelude.{ℕ, Bool, ◌&&◌, List, eqb, length}
use Rattle.text.specs.Line.{words_of, word}
use Rattle.text.specs.Decimal.{is_number, value_of, most_number}
use Rattle.text.specs.Kept.{number_is}
use Rattle.text.specs.declared.Line.{Line}

-- exactly three words, parted by single spaces, each a number of at most 4,294,967,295
unfoldable pub is_row : List ℕ → Bool
is_row line =
    let ws = words_of line in
    eqb (length ws) 3 && is_number most_number (word ws 0) && is_number most_number (word ws 1) && is_number most_number (word ws 2)

-- the number at a place of a row: 0, 1 or 2
abbrev pub row_at : List ℕ → ℕ → ℕ
row_at line i = value_of (word (words_of line) i)

-- the same test, of what is kept of a line; its numbers are then the values of lead, first and second
unfoldable pub is_row_kept : Line → Bool
is_row_kept l = eqb l.words 3 && number_is most_number l.lead && number_is most_number l.first && number_is most_number l.second
