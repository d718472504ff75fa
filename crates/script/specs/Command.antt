-- The commands of the program `pair`, one a line. Assumes nothing.
use Rattle.std.specs.Prelude.{ℕ, Bool, cond, ◌&&◌, List, eqb, length, get_or}
use Rattle.text.specs.Line.{words_of, word}
use Rattle.text.specs.Decimal.{is_number, value_of, most_number}
use Rattle.text.specs.declared.Line.{Line}
use Rattle.text.specs.Kept.{number_is}
use Rattle.script.specs.declared.Command.{Command}
use Rattle.script.specs.declared.Command.TheVariants.{Write, Disk, Send, Close, Move, Acknowledge, Take, Flush, Takeover, Other}

-- the letters
abbrev pub letter_w : ℕ
letter_w = 119

abbrev pub letter_d : ℕ
letter_d = 100

abbrev pub letter_s : ℕ
letter_s = 115

abbrev pub letter_c : ℕ
letter_c = 99

abbrev pub letter_m : ℕ
letter_m = 109

abbrev pub letter_a : ℕ
letter_a = 97

abbrev pub letter_t : ℕ
letter_t = 116

abbrev pub letter_f : ℕ
letter_f = 102

abbrev pub letter_k : ℕ
letter_k = 107

abbrev pub question_mark : ℕ
question_mark = 63

-- "v is 0 to 255, other numbers at most 4,294,967,295" (text/specs/Decimal.antt)
abbrev pub most_byte : ℕ
most_byte = 255

-- a line of this letter and this many words
abbrev pub is_line : ℕ → ℕ → List (List ℕ) → Bool
is_line letter words ws = eqb (length ws) words && eqb (length (word ws 0)) 1 && eqb (get_or (word ws 0) 0 0) letter

unfoldable pub command_of_words : List (List ℕ) → Command
command_of_words ws =
    cond (is_line letter_w 3 ws && is_number most_number (word ws 1) && is_number most_byte (word ws 2)) (Write (value_of (word ws 1)) (value_of (word ws 2)))
    (cond (is_line letter_d 3 ws && is_number most_number (word ws 1) && is_number most_byte (word ws 2)) (Disk (value_of (word ws 1)) (value_of (word ws 2)))
    (cond (is_line letter_s 2 ws && is_number most_number (word ws 1)) (Send (value_of (word ws 1)))
    (cond (is_line letter_c 2 ws && is_number most_byte (word ws 1)) (Close (value_of (word ws 1)))
    (cond (is_line letter_m 1 ws) Move
    (cond (is_line letter_a 1 ws) Acknowledge
    (cond (is_line letter_t 1 ws) Take
    (cond (is_line letter_f 1 ws) Flush
    (cond (is_line letter_k 1 ws) Takeover
    Other))))))))

abbrev pub command_of : List ℕ → Command
command_of line = command_of_words (words_of line)

-- ---- the same, of what is kept of a line

-- a line of this letter and this many words
abbrev pub is_kept_line : ℕ → ℕ → Line → Bool
is_kept_line letter words l = eqb l.words words && eqb l.letters 1 && eqb l.letter letter

unfoldable pub command_of_line : Line → Command
command_of_line l =
    cond (is_kept_line letter_w 3 l && number_is most_number l.first && number_is most_byte l.second) (Write l.first.value l.second.value)
    (cond (is_kept_line letter_d 3 l && number_is most_number l.first && number_is most_byte l.second) (Disk l.first.value l.second.value)
    (cond (is_kept_line letter_s 2 l && number_is most_number l.first) (Send l.first.value)
    (cond (is_kept_line letter_c 2 l && number_is most_byte l.first) (Close l.first.value)
    (cond (is_kept_line letter_m 1 l) Move
    (cond (is_kept_line letter_a 1 l) Acknowledge
    (cond (is_kept_line letter_t 1 l) Take
    (cond (is_kept_line letter_f 1 l) Flush
    (cond (is_kept_line letter_k 1 l) Takeover
    Other))))))))

-- the letter that is printed
abbrev pub letter_of : Command → ℕ
letter_of (Write p v) = letter_w
letter_of (Disk b v) = letter_d
letter_of (Send n) = letter_s
letter_of (Close v) = letter_c
letter_of Move = letter_m
letter_of Acknowledge = letter_a
letter_of Take = letter_t
letter_of Flush = letter_f
letter_of Takeover = letter_k
letter_of Other = question_mark
