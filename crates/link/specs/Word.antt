-- The answers of the record test and of the disk choice, each as one number. Assumes nothing.
use Rattle.std.specs.Prelude.{ℕ, ◌+◌, ◌*◌, ◌/◌, ◌%◌, ◌≡◌, Bool, true, cond, eqb, Result}
use Rattle.records.specs.declared.Record.{Record}
use Rattle.records.specs.declared.Unread.{Unread}
use Rattle.records.specs.Cases.{on_found}
use Rattle.records.specs.Read.{number_of, kind_of, used_of}
use Rattle.records.specs.declared.refusal.Refusal.{Refusal}
use Rattle.rules.specs.declared.Disk.{Disk}
use Rattle.rules.specs.Choose.{choice_number, disk_of}

-- the number in the low 8 bits, the kind in the next 8, the bytes used above them
abbrev pub word_of : Result Record Unread → ℕ
word_of r = number_of r + 256 * kind_of r + 65536 * used_of r

-- cut short is the bytes missing, above 16 bits that are 0; every other answer its number, kind and bytes used
abbrev pub test_word : Result Record Unread → ℕ
test_word r = on_found r (word_of r) (λ n. 65536 * n) (λ n. word_of r)

-- its parts, as the caller takes them out: the refusal's number, the kind, whether it is cut short, the bytes used and
-- those missing
abbrev pub test_number : ℕ → ℕ
test_number word = word % 256

abbrev pub test_kind : ℕ → ℕ
test_kind word = word / 256 % 256

abbrev pub test_cut_short : ℕ → Bool
test_cut_short word = eqb (word % 65536) 0

abbrev pub test_used : ℕ → ℕ
test_used word = cond (test_cut_short word) 0 (word / 65536)

abbrev pub test_missing : ℕ → ℕ
test_missing word = cond (test_cut_short word) (word / 65536) 0

-- it says that the record is cut short, and that so many bytes are missing
abbrev pub SaysMissing : (word n : ℕ) → Type 0
SaysMissing word n = (test_cut_short word ≡ true) × (test_missing word ≡ n)

-- the number in the low 8 bits, the disk above them
abbrev pub choice_word : Result Disk Refusal → ℕ
choice_word c = choice_number c + 256 * disk_of c
