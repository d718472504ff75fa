-- Bytes written in hexadecimal. Assumes nothing.
use Rattle.std.specs.Prelude.{ℕ, ◌+◌, ◌-◌, ◌*◌, ◌/◌, ◌%◌, cond, List, [], ◌∷◌, ltb, eqb}
use Rattle.lists.specs.Refusal.{within}
use Rattle.text.specs.Line.{space}
use Rattle.plates.specs.declared.Fault.{Fault}
use Rattle.plates.specs.declared.Fault.TheVariants.{NotHex, Half}

-- where there is no digit
abbrev pub no_digit : ℕ
no_digit = 16

-- the value of a digit: 0 to 9, a to f, A to F
unfoldable pub digit_of : ℕ → ℕ
digit_of b =
    cond (within 48 57 b) (b - 48)
    (cond (within 97 102 b) (b - 87)
    (cond (within 65 70 b) (b - 55) no_digit))

-- what is read: whole bytes, or what is wrong and the place of it in the line, from 1
pub data Hex : Type 0 where
  whole : List ℕ → Hex
  bad : Fault → ℕ → Hex

abbrev pub with_byte : ℕ → Hex → Hex
with_byte b (whole bytes) = whole (b ∷ bytes)
with_byte b (bad fault place) = bad fault place

-- two digits a byte; spaces may stand between bytes. half is the first digit of a byte under way, or no_digit, and place
-- that of the next character
unfoldable pub hex_from : (half place : ℕ) → List ℕ → Hex
hex_from half place [] = cond (eqb half no_digit) (whole []) (bad Half place)
hex_from half place (c ∷ s) =
    let d = digit_of c in
    cond (eqb c space) (cond (eqb half no_digit) (hex_from no_digit (place + 1) s) (bad Half place))
    (cond (eqb d no_digit) (bad NotHex place)
    (cond (eqb half no_digit) (hex_from d (place + 1) s)
    (with_byte (16 * half + d) (hex_from no_digit (place + 1) s))))

-- s, which stands behind the first n characters of a line
abbrev pub hex_behind : ℕ → List ℕ → Hex
hex_behind n s = hex_from no_digit (n + 1) s

-- ---- written: two digits for each byte
abbrev pub hex_digit : ℕ → ℕ
hex_digit d = cond (ltb d 10) (48 + d) (87 + d)

unfoldable pub written : List ℕ → List ℕ
written [] = []
written (b ∷ bs) = hex_digit (b / 16) ∷ hex_digit (b % 16) ∷ written bs
