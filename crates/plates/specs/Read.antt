-- What the code keeps and reads of a line, as the definitions say it. Assumes nothing.
use Rattle.std.specs.Prelude.{ℕ, ◌+◌, ◌*◌, ◌≤◌, ◌≡◌, true, cond, ◌&&◌, List, ltb, eqb, length, take, Option, None, Some, Result, Ok, Err}
use Rattle.text.specs.Line.{space}
use Rattle.text.specs.Decimal.{all_digits, is_number, value_of}
use Rattle.records.specs.Kind.{unit_ok, most_unit}
use Rattle.plates.specs.declared.Fault.{Fault}
use Rattle.plates.specs.declared.Fault.TheVariants.{NoHead, BadUnit, NotHex, Half}
use Rattle.plates.specs.declared.BadLine.{BadLine}
use Rattle.plates.specs.declared.HexStep.{HexStep}
use Rattle.plates.specs.declared.HexStep.TheVariants.{Between, First, Whole}
use Rattle.plates.specs.declared.KeptLine.{KeptLine}
use Rattle.plates.specs.declared.PlateHead.{PlateHead}
use Rattle.plates.specs.declared.PlateHead.TheVariants as head
use Rattle.plates.specs.Hex.{Hex, whole, bad, no_digit, digit_of}
use Rattle.plates.specs.Words.{bad_line}
use Rattle.plates.specs.Plate.{is_area, area_output, plates_of}

-- the line under way
abbrev pub kept_of : KeptLine → List ℕ
kept_of l = take l.length l.bytes

-- a digit's value, or that there is none
abbrev pub digit_or_none : Option ℕ → ℕ
digit_or_none None = no_digit
digit_or_none (Some d) = d

-- so many bytes at the head of these, or what is wrong
abbrev pub hex_of : Result ℕ BadLine → List ℕ → Hex
hex_of (Ok n) bytes = whole (take n bytes)
hex_of (Err b) bytes = bad b.fault b.place

-- one character behind the first digit half of a byte, or behind none
unfoldable pub hex_step : (half c : ℕ) → Result HexStep Fault
hex_step half c =
    let d = digit_of c in
    cond (eqb c space) (cond (eqb half no_digit) (Ok Between) (Err Half))
    (cond (eqb d no_digit) (Err NotHex)
    (cond (eqb half no_digit) (Ok (First d))
    (Ok (Whole (16 * half + d)))))

-- the first word of a line, or what is wrong with it
unfoldable pub head_of : List ℕ → Result PlateHead Fault
head_of first =
    cond (is_area first) (Ok head.Area)
    (cond (is_number most_unit first && unit_ok (value_of first)) (Ok (head.Unit (value_of first)))
    (Err (cond (ltb 0 (length first) && all_digits first) BadUnit NoHead)))

-- the most bytes that two digits each stand for in a line
abbrev pub most_bytes : ℕ
most_bytes = 32768

-- ---- a line that is read: its first word, and the count of the bytes behind it

-- the U of a head is in its range
abbrev pub UnitFits : PlateHead → Type 0
UnitFits head.Area = Unit {0}
UnitFits (head.Unit u) = unit_ok u ≡ true

abbrev pub ReadBound : PlateHead × ℕ → Type 0
ReadBound r = (r.1 ≤ most_bytes) × UnitFits r.0

-- what is printed of it, where these are the bytes
abbrev pub on_head : PlateHead → List ℕ → List ℕ
on_head head.Area bytes = area_output bytes
on_head (head.Unit u) bytes = plates_of u bytes

abbrev pub output_of : Result (PlateHead × ℕ) BadLine → List ℕ → List ℕ
output_of (Ok r) bytes = on_head r.0 (take r.1 bytes)
output_of (Err b) bytes = bad_line b.fault b.place
