-- The words of `trace`: a command, a number, why a line is no command. Assumes nothing.
use Rattle.std.specs.Prelude.{ℕ, Bool, cond, ◌||◌, List, [], ◌∷◌, ◌++◌, eqb}
use Rattle.text.specs.Ascii.{ascii}
use Rattle.text.specs.Line.{space}
use Rattle.text.specs.Decimal.{decimal}
use Rattle.records.specs.Number.{out_of_range, no_such_unit, bad_size, bad_packet, no_room, bad_kind, bad_length, bad_epoch, out_of_order, bad_counts, bad_ack, bad_area, wrong_mode, allowance_used, stream_full, queue_full, slots_full, nothing_free, last_epoch, blocks_due, no_such_port}
use Rattle.records.specs.Read.{cut_short}
use Rattle.script.specs.declared.Command.{Command}
use Rattle.script.specs.declared.Command.TheVariants as command
use Rattle.script.specs.Command.{letter_of, letter_m, letter_a}
use Rattle.traces.specs.declared.TraceCommand.{TraceCommand}
use Rattle.traces.specs.declared.TraceCommand.TheVariants.{Pair, Set, Tick}
use Rattle.traces.specs.declared.LineFault.{LineFault}
use Rattle.traces.specs.declared.LineFault.TheVariants.{Empty, Return, Letter, Count, Digits, Large}
use Rattle.traces.specs.Command.{letter_x, trace_letter_of}

-- ---- a command as it is written: its letter and its numbers
abbrev pub numbers_in : Command → List ℕ
numbers_in (command.Write p v) = (space ∷ decimal p) ++ (space ∷ decimal v)
numbers_in (command.Disk b v) = (space ∷ decimal b) ++ (space ∷ decimal v)
numbers_in (command.Send n) = space ∷ decimal n
numbers_in (command.Close v) = space ∷ decimal v
numbers_in command.Move = []
numbers_in command.Acknowledge = []
numbers_in command.Take = []
numbers_in command.Flush = []
numbers_in command.Takeover = []
numbers_in command.Other = []

abbrev pub trace_numbers_in : TraceCommand → List ℕ
trace_numbers_in (Pair c) = numbers_in c
trace_numbers_in (Set i v) = (space ∷ decimal i) ++ (space ∷ decimal v)
trace_numbers_in Tick = []

unfoldable pub command_words : TraceCommand → List ℕ
command_words c = trace_letter_of c ∷ trace_numbers_in c

-- ---- a number, of a command with this letter

-- 18: nothing to move, no ACK to read, no packet that may leave
unfoldable pub nothing_words : (letter : ℕ) → List ℕ
nothing_words letter =
    cond (eqb letter letter_m || eqb letter letter_x) (ascii "no record on its way")
    (cond (eqb letter letter_a) (ascii "no ACK to read") (ascii "nothing may be handed out yet"))

unfoldable pub number_words : (letter number : ℕ) → List ℕ
number_words letter number =
    cond (eqb number 0) (ascii "accepted")
    (cond (eqb number out_of_range) (ascii "no such byte on the link")
    (cond (eqb number no_such_unit) (ascii "no such page or block")
    (cond (eqb number bad_size) (ascii "not within a page, or no block")
    (cond (eqb number bad_packet) (ascii "packet not of 1 to 1514 bytes")
    (cond (eqb number no_room) (ascii "reply or destination too short")
    (cond (eqb number bad_kind) (ascii "kind not for this end")
    (cond (eqb number bad_length) (ascii "length not its kind's")
    (cond (eqb number bad_epoch) (ascii "epoch not the next one")
    (cond (eqb number out_of_order) (ascii "out of order in its checkpoint")
    (cond (eqb number bad_counts) (ascii "counts not those received")
    (cond (eqb number bad_ack) (ascii "ACK old, or of an open epoch")
    (cond (eqb number bad_area) (ascii "record area not valid")
    (cond (eqb number wrong_mode) (ascii "not in this mode")
    (cond (eqb number allowance_used) (ascii "the epoch has all its blocks")
    (cond (eqb number stream_full) (ascii "no space in the stream")
    (cond (eqb number queue_full) (ascii "no space for the packet")
    (cond (eqb number slots_full) (ascii "slots for blocks are full")
    (cond (eqb number nothing_free) (nothing_words letter)
    (cond (eqb number last_epoch) (ascii "the last epoch is open")
    (cond (eqb number blocks_due) (ascii "blocks are still due")
    (cond (eqb number no_such_port) (ascii "no such port")
    (cond (eqb number cut_short) (ascii "cut short")
    (ascii "refused")))))))))))))))))))))))

-- ---- a fault
abbrev pub fault_words : LineFault → List ℕ
fault_words Empty = ascii "the line is empty"
fault_words Return = ascii "ends with a carriage return"
fault_words Letter = ascii "unknown letter"
fault_words (Count wanted) = ascii "numbers wanted: " ++ decimal wanted
fault_words (Digits which) = ascii "number " ++ decimal which ++ ascii " is not in digits"
fault_words (Large which most) = ascii "number " ++ decimal which ++ ascii " is above " ++ decimal most

-- ---- the answer: its number, and in words what it is; 1 of a line that is no command says why it is none
abbrev pub is_other : TraceCommand → Bool
is_other c = eqb (trace_letter_of c) (letter_of command.Other)

unfoldable pub answer_words : TraceCommand → LineFault → (number : ℕ) → List ℕ
answer_words c fault number =
    decimal number ++ (space ∷ cond (is_other c) (fault_words fault) (number_words (trace_letter_of c) number))
