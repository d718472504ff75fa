-- Why a line is no command. Assumes nothing.
use Rattle.std.specs.Prelude.{ℕ, ◌+◌, ◌≤◌, ◌<◌, ◌≡◌, Bool, true, false, cond, not, ◌&&◌, ◌||◌, List, ltb, eqb}
use Rattle.text.specs.declared.Line.{Line}
use Rattle.text.specs.declared.Number.{Number}
use Rattle.text.specs.Decimal.{most_number}
use Rattle.text.specs.Kept.{no_line, line_with, is_empty_line, kept_all, number_is}
use Rattle.script.specs.Command.{letter_w, letter_d, letter_s, letter_c, letter_m, letter_a, letter_t, letter_f, letter_k, most_byte}
use Rattle.traces.specs.declared.TraceLine.{TraceLine}
use Rattle.traces.specs.declared.LineFault.{LineFault}
use Rattle.traces.specs.declared.LineFault.TheVariants.{Empty, Return, Letter, Count, Digits, Large}
use Rattle.traces.specs.Command.{letter_x, letter_p}

-- ---- what is kept of a line: as `pair` keeps it, and the last byte
abbrev pub no_trace_line : TraceLine
no_trace_line = record { line = no_line; last = 0 }

abbrev pub trace_line_with : TraceLine → ℕ → TraceLine
trace_line_with l b = record { line = line_with l.line b; last = b }

abbrev pub trace_line_of : List ℕ → TraceLine
trace_line_of line = kept_all trace_line_with no_trace_line line

-- ---- the letters by how many numbers follow them
abbrev pub with_two : ℕ → Bool
with_two letter = eqb letter letter_w || eqb letter letter_d || eqb letter letter_x

abbrev pub with_one : ℕ → Bool
with_one letter = eqb letter letter_s || eqb letter letter_c

abbrev pub with_none : ℕ → Bool
with_none letter = eqb letter letter_m || eqb letter letter_a || eqb letter letter_t || eqb letter letter_f || eqb letter letter_k || eqb letter letter_p

unfoldable pub is_letter : ℕ → Bool
is_letter letter = with_two letter || with_one letter || with_none letter

unfoldable pub wanted_of : ℕ → ℕ
wanted_of letter = cond (with_two letter) 2 (cond (with_one letter) 1 0)

-- the largest first number: of `c` a byte
abbrev pub most_first : ℕ → ℕ
most_first letter = cond (eqb letter letter_c) most_byte most_number

abbrev pub in_digits : Number → Bool
in_digits n = n.some && n.digits

abbrev pub carriage_return : ℕ
carriage_return = 13

-- the first that is wrong, of a line that is no command
unfoldable pub fault_of : TraceLine → LineFault
fault_of k =
    let l = k.line in
    let letter = l.letter in
    cond (is_empty_line l) Empty
    (cond (eqb k.last carriage_return) Return
    (cond (not (eqb l.letters 1 && is_letter letter)) Letter
    (cond (not (eqb l.words (wanted_of letter + 1))) (Count (wanted_of letter))
    (cond (not (in_digits l.first)) (Digits 1)
    (cond (ltb (most_first letter) l.first.value) (Large 1 (most_first letter))
    (cond (not (in_digits l.second)) (Digits 2)
    (Large 2 most_byte)))))))

-- the first number of a line, or the second
abbrev pub number_at : ℕ → Line → Number
number_at i l = cond (eqb i 1) l.first l.second

-- the largest first number of a letter, or the largest second
abbrev pub most_at : ℕ → ℕ → ℕ
most_at i letter = cond (eqb i 1) (most_first letter) most_byte

abbrev pub has_letter : Line → Bool
has_letter l = eqb l.letters 1 && is_letter l.letter

-- ---- what is claimed of it: what it says of the line is so, and the tests before it hold

-- a letter, as many numbers as it wants, and this is one of them; the first is right where it is the second
pub record AtNumber (i : ℕ) (l : Line) : Type 0 where
  pub letter : has_letter l ≡ true
  pub words : eqb l.words (wanted_of l.letter + 1) ≡ true
  pub low : 1 ≤ i
  pub high : i ≤ wanted_of l.letter
  pub first : i ≡ 2 → number_is (most_first l.letter) l.first ≡ true

-- neither empty nor with a carriage return at its end
pub record Plain (k : TraceLine) : Type 0 where
  pub some : is_empty_line k.line ≡ false
  pub end : eqb k.last carriage_return ≡ false

abbrev pub FaultRight : LineFault → TraceLine → Type 0
FaultRight Empty k = is_empty_line k.line ≡ true
FaultRight Return k = (is_empty_line k.line ≡ false) × (k.last ≡ carriage_return)
FaultRight Letter k = Plain k × (has_letter k.line ≡ false)
FaultRight (Count n) k = Plain k × (has_letter k.line ≡ true) × (n ≡ wanted_of k.line.letter) × (eqb k.line.words (n + 1) ≡ false)
FaultRight (Digits i) k = Plain k × AtNumber i k.line × (in_digits (number_at i k.line) ≡ false)
FaultRight (Large i most) k =
    Plain k × AtNumber i k.line × (in_digits (number_at i k.line) ≡ true) × (most ≡ most_at i k.line.letter) × (most < (number_at i k.line).value)
