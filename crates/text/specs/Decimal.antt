-- Decimal numbers, read and printed. Assumes nothing.
use Rattle.std.specs.Prelude.{ℕ, zero, suc, ◌+◌, ◌-◌, ◌*◌, ◌/◌, ◌%◌, Bool, true, cond, ◌&&◌, List, [], ◌∷◌, leb, ltb, length}
use Rattle.lists.specs.Refusal.{within}

-- the byte of digit 0
abbrev pub zero_digit : ℕ
zero_digit = 48

abbrev pub is_digit : ℕ → Bool
is_digit b = within zero_digit (zero_digit + 9) b

unfoldable pub all_digits : List ℕ → Bool
all_digits [] = true
all_digits (b ∷ bs) = is_digit b && all_digits bs

-- the number that digits go on to, from what stands before them
unfoldable pub value_from : ℕ → List ℕ → ℕ
value_from n [] = n
value_from n (b ∷ bs) = value_from (10 * n + (b - zero_digit)) bs

abbrev pub value_of : List ℕ → ℕ
value_of word = value_from 0 word

-- a word is a number of at most this: one digit or more, any count of them
unfoldable pub is_number : ℕ → List ℕ → Bool
is_number most word = ltb 0 (length word) && all_digits word && leb (value_of word) most

-- "other numbers at most 4,294,967,295"
abbrev pub most_number : ℕ
most_number = 4294967295

-- the digits of a number below 10 ^ k, in front of what is given
unfoldable pub digits_before : ℕ → ℕ → List ℕ → List ℕ
digits_before zero n rest = rest
digits_before (suc k) n rest = cond (ltb n 10) ((zero_digit + n) ∷ rest) (digits_before k (n / 10) ((zero_digit + n % 10) ∷ rest))

-- a number of 64 bits has at most 20 digits
abbrev pub decimal : ℕ → List ℕ
decimal n = digits_before 20 n []
