-- What `plate` prints of a line, and of its input. Assumes nothing.
use Rattle.std.specs.Prelude.{ℕ, zero, suc, ◌+◌, ◌-◌, Bool, false, cond, ◌&&◌, List, [], ◌∷◌, ◌++◌, leb, ltb, eqb, length, drop, get_or}
use Rattle.text.specs.Line.{is_empty, space, first_part}
use Rattle.text.specs.Decimal.{all_digits, is_number, value_of}
use Rattle.text.specs.Feed.{Answered, Program, output}
use Rattle.records.specs.declared.Reader.TheVariants.{Test}
use Rattle.records.specs.Cases.{on_found}
use Rattle.records.specs.Kind.{unit_ok, most_unit}
use Rattle.records.specs.Read.{read_record, used_of}
use Rattle.records.specs.Area.{area_of, area_length}
use Rattle.rules.specs.Choose.{area_choice}
use Rattle.plates.specs.declared.Fault.TheVariants.{Empty, Long, Return, NoHead, BadUnit}
use Rattle.plates.specs.Hex.{Hex, whole, bad, hex_behind}
use Rattle.plates.specs.Words.{record_line, end_line, short_line, refused_line, area_line, area_length_line, bad_line}

-- ---- the records of some bytes in turn, each as the record test reads it, up to what stops it. s stands at place at.
-- At most so many are read: each has at least one byte, so that one more than there are bytes is enough
unfoldable pub plates_from : (most u at : ℕ) → List ℕ → List ℕ
plates_from zero u at s = []
plates_from (suc most) u at s =
    let r = read_record Test u s in
    cond (is_empty s) (end_line at)
    (on_found r
    (record_line at r ++ plates_from most u (at + used_of r) (drop (used_of r) s))
    (λ n. short_line at s n)
    (λ n. refused_line at s n))

unfoldable pub plates_of : ℕ → List ℕ → List ℕ
plates_of u s = plates_from (length s + 1) u 0 s

-- ---- a record area
unfoldable pub area_output : List ℕ → List ℕ
area_output s = cond (eqb (length s) area_length) (area_line (area_of s) (area_choice (area_of s))) (area_length_line (length s))

-- ---- a line

-- its longest
abbrev pub most_line : ℕ
most_line = 65536

-- "carriage return"
abbrev pub carriage_return : ℕ
carriage_return = 13

abbrev pub ends_with_return : List ℕ → Bool
ends_with_return line = eqb (get_or line (length line - 1) 0) carriage_return

-- the word `area`
abbrev pub is_area : List ℕ → Bool
is_area w = eqb (length w) 4 && eqb (get_or w 0 0) 97 && eqb (get_or w 1 0) 114 && eqb (get_or w 2 0) 101 && eqb (get_or w 3 0) 97

-- what is read of the hexadecimal bytes behind the first word: a fault, or what these bytes give
abbrev pub on_hex : Hex → (List ℕ → List ℕ) → List ℕ
on_hex (whole bytes) given = given bytes
on_hex (bad fault place) given = bad_line fault place

-- "the word area and 8 bytes", or "U and bytes"
unfoldable pub headed : List ℕ → List ℕ → List ℕ
headed first rest =
    let bytes = hex_behind (length first) rest in
    cond (is_area first) (on_hex bytes area_output)
    (cond (is_number most_unit first && unit_ok (value_of first)) (on_hex bytes (plates_of (value_of first)))
    (bad_line (cond (ltb 0 (length first) && all_digits first) BadUnit NoHead) 1))

unfoldable pub plate_of : List ℕ → List ℕ
plate_of line =
    let first = first_part space line in
    cond (is_empty line) (bad_line Empty 1)
    (cond (ltb most_line (length line)) (bad_line Long (most_line + 1))
    (cond (ends_with_return line) (bad_line Return (length line))
    (headed first (drop (length first) line))))

-- ---- the program

-- what is kept of a line: its bytes, up to one more than the longest line has
abbrev pub kept_with : List ℕ → ℕ → List ℕ
kept_with l b = cond (leb (length l) most_line) (l ++ (b ∷ [])) l

abbrev pub plate_answer : List ℕ → Answered (Unit {0})
plate_answer line = record { next = tt; printed = plate_of line; last = false }

-- it answers each line by itself, up to the end of its input
abbrev pub plate_program : Program (Unit {0}) (List ℕ)
plate_program =
    record {
      start = tt;
      answer = λ s line. plate_answer line;
      no_line = [];
      line_with = kept_with;
      is_empty_line = is_empty;
      answer_kept = λ s l. plate_answer l;
      finish = λ s. [];
    }

abbrev pub plate_output : List ℕ → List ℕ
plate_output input = output plate_program input
