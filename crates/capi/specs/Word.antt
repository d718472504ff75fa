-- Numbers, flags and answers as 64-bit words. Assumes nothing.
use Rattle.rules.specs.declared.Accepted.{Accepted}
use Rattle.records.specs.declared.Unread.{Unread}
use Rattle.records.specs.declared.Unread.TheVariants.{Short, Refused}
use Rattle.std.specs.Prelude.{ℕ, ◌+◌, ◌*◌, ◌/◌, ◌%◌, ◌≡◌, Bool, true, ◌&&◌, cond, List, [], ◌∷◌, leb, eqb, take, drop, Result, Ok, Err}
use Rattle.records.specs.Read.{cut_short}
use Rattle.rules.specs.Reply.{number_of, value_of}

-- ---- the answer of a call as one word: the number in the low 16 bits, a count of bytes in the next 16, above them the
-- value. Each part is taken modulo its width, so that the sum cannot wrap; that nothing is cut off is a law of each
-- call
abbrev pub answer_word : ℕ → ℕ → ℕ → ℕ
answer_word number count value = number % 65536 + 65536 * (count % 65536) + 4294967296 * (value % 4294967296)

-- its parts, as the caller takes them out: the bytes counted are those missing where it is cut short, else those used
abbrev pub answer_number : ℕ → ℕ
answer_number word = word % 65536

abbrev pub answer_cut_short : ℕ → Bool
answer_cut_short word = eqb (answer_number word) cut_short

abbrev pub answer_count : ℕ → ℕ
answer_count word = word / 65536 % 65536

abbrev pub answer_used : ℕ → ℕ
answer_used word = cond (answer_cut_short word) 0 (answer_count word)

abbrev pub answer_missing : ℕ → ℕ
answer_missing word = cond (answer_cut_short word) (answer_count word) 0

abbrev pub answer_value : ℕ → ℕ
answer_value word = word / 4294967296

-- it says that the record is cut short, and that so many bytes are missing
abbrev pub SaysMissing : (word n : ℕ) → Type 0
SaysMissing word n = (answer_cut_short word ≡ true) × (answer_missing word ≡ n)

-- of a call that reads no record
abbrev pub reply_word : ℕ → ℕ → ℕ
reply_word number value = answer_word number 0 value

-- of one that reads a record; cut short has its number, 256, and the bytes missing
abbrev pub count_of : Result Accepted Unread → ℕ
count_of (Ok a) = a.used
count_of (Err (Short missing)) = missing
count_of (Err (Refused number)) = 0

abbrev pub record_word : Result Accepted Unread → ℕ
record_word a = answer_word (number_of a) (count_of a) (value_of a)

-- ---- a word that fits a field of 32 bits, of 16 bits
abbrev pub most32 : ℕ
most32 = 4294967295

abbrev pub fits32 : ℕ → Bool
fits32 n = leb n most32

abbrev pub most16 : ℕ
most16 = 65535

abbrev pub fits16 : ℕ → Bool
fits16 n = leb n most16

-- words that all fit a field with this largest number
unfoldable pub all_fit : (most : ℕ) → List ℕ → Bool
all_fit most [] = true
all_fit most (n ∷ ns) = leb n most && all_fit most ns

abbrev pub all_fit32 : List ℕ → Bool
all_fit32 = all_fit most32

abbrev pub all_fit16 : List ℕ → Bool
all_fit16 = all_fit most16

-- the words from one place on, up to another
abbrev pub between : ℕ → ℕ → List ℕ → List ℕ
between from to w = drop from (take to w)

-- ---- a flag: 0 or 1
abbrev pub is_flag : ℕ → Bool
is_flag n = leb n 1

abbrev pub flag_of : ℕ → Bool
flag_of n = eqb n 1

abbrev pub flag_word : Bool → ℕ
flag_word b = cond b 1 0

-- ---- what a call leaves of what it is lent: the new where it is lent a state, else the old
abbrev pub Leaves : Bool → List ℕ → List ℕ → List ℕ → Type 0
Leaves ok new old after = after ≡ cond ok new old
