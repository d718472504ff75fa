-- A row of the table: a command, its answer, and what is at both ends after it. Assumes nothing.
use Rattle.std.specs.Prelude.{ℕ, ◌*◌, Bool, cond, List, [], ◌∷◌, ◌++◌, length, get_or}
use Rattle.text.specs.Ascii.{ascii}
use Rattle.text.specs.Line.{space, newline}
use Rattle.text.specs.Decimal.{decimal}
use Rattle.text.specs.Column.{left, right}
use Rattle.rules.specs.declared.Mode.{Mode}
use Rattle.rules.specs.declared.Mode.TheVariants.{Receiving, TakingOver, Active}
use Rattle.rules.specs.World.{World}
use Rattle.script.specs.Pair.{pair_settings}

-- the header line
abbrev pub header_line : List ℕ
header_line =
    ascii "command  answer                           value  open acked received    primary pages   primary blocks    standby pages   standby blocks held waiting link staged due\n"

-- numbers, each at the right of a column of its width
unfoldable pub in_columns : List (ℕ × ℕ) → List ℕ
in_columns [] = []
in_columns (c ∷ cs) = right c.0 (decimal c.1) ++ in_columns cs

-- the first byte of each page of a memory, or of each block of a disk
abbrev pub head_at : List ℕ → ℕ → List ℕ
head_at s i = decimal (get_or s (i * pair_settings.u) 0)

unfoldable pub heads : List ℕ → List ℕ
heads s = right 5 (head_at s 0) ++ right 4 (head_at s 1) ++ right 4 (head_at s 2) ++ right 4 (head_at s 3)

-- the open, the acknowledged and the received epoch
unfoldable pub epoch_columns : World → List ℕ
epoch_columns w =
    right 6 (decimal w.primary.state.epoch) ++ right 6 (decimal w.primary.state.acknowledged) ++ right 9 (decimal w.standby.state.received)

unfoldable pub head_columns : World → List ℕ
head_columns w = heads w.primary.memory ++ heads w.primary.disk ++ heads w.standby.memory ++ heads w.standby.disk

-- packets held, bytes waiting and on the link, slots staged and due
unfoldable pub count_columns : World → List ℕ
count_columns w =
    right 5 (decimal w.primary.state.queue.count)
    ++ right 8 (decimal w.primary.state.waiting)
    ++ right 5 (decimal (length w.link))
    ++ right 7 (decimal w.standby.state.slots.staged)
    ++ right 4 (decimal w.standby.state.slots.due)

-- what is not as at the start
abbrev pub mode_remark : Mode → List ℕ
mode_remark Receiving = []
mode_remark TakingOver = ascii "  standby taking over"
mode_remark Active = ascii "  standby active"

unfoldable pub remarks : World → (damaged : Bool) → List ℕ
remarks w damaged =
    cond w.primary.state.alone (ascii "  primary alone") []
    ++ mode_remark w.standby.state.mode
    ++ cond damaged (ascii "  no run of document 01: link damaged") []

-- a space behind the command, however long it is
unfoldable pub row_of : (command answer : List ℕ) → (value : ℕ) → World → (damaged : Bool) → List ℕ
row_of command answer value w damaged =
    left 9 (command ++ (space ∷ [])) ++ left 33 answer ++ right 5 (decimal value) ++ epoch_columns w ++ head_columns w ++ count_columns w ++ remarks w damaged ++ (newline ∷ [])
