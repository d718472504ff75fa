-- The words of `plate`: a record as its plate says, what stops the reading, the record area, a bad line. Assumes
-- nothing.
use Rattle.std.specs.Prelude.{ℕ, cond, List, [], ◌∷◌, ◌++◌, leb, eqb, length, Result, Ok, Err}
use Rattle.lists.specs.LittleEndian.{le_at}
use Rattle.text.specs.Ascii.{ascii}
use Rattle.text.specs.Line.{newline}
use Rattle.text.specs.Decimal.{decimal}
use Rattle.records.specs.declared.Record.{Record}
use Rattle.records.specs.declared.Unread.{Unread}
use Rattle.records.specs.declared.Record.TheVariants.{Page, Block, State, Commit, Ack}
use Rattle.records.specs.declared.Area.{Area}
use Rattle.records.specs.declared.Area.TheVariants.{Zero, Activation, Neither}
use Rattle.records.specs.Number.{refusal_number, out_of_range, bad_length}
use Rattle.records.specs.Kind.{header_length}
use Rattle.records.specs.Read.{kind_of, used_of}
use Rattle.records.specs.declared.refusal.Refusal.{Refusal}
use Rattle.rules.specs.declared.Disk.{Disk}
use Rattle.rules.specs.declared.Disk.TheVariants.{PrimaryDisk, StandbyDisk}
use Rattle.plates.specs.declared.Fault.{Fault}
use Rattle.plates.specs.declared.Fault.TheVariants.{Empty, Long, Return, NoHead, BadUnit, NotHex, Half}

-- ---- a record: "kind, epoch, page or block number, counts, bytes used"
abbrev pub name_of : Result Record Unread → List ℕ
name_of (Ok (Page w e p c)) = ascii "PAGE"
name_of (Ok (Block e n c)) = ascii "BLOCK"
name_of (Ok (State e c)) = ascii "STATE"
name_of (Ok (Commit w e p b c)) = ascii "COMMIT"
name_of (Ok (Ack e c)) = ascii "ACK"
name_of (Err u) = []

-- its epoch, and what else its kind has
abbrev pub fields_of : Result Record Unread → List ℕ
fields_of (Ok (Page w e p c)) = ascii ", epoch " ++ decimal e ++ ascii ", page " ++ decimal p
fields_of (Ok (Block e n c)) = ascii ", epoch " ++ decimal e ++ ascii ", block " ++ decimal n
fields_of (Ok (State e c)) = ascii ", epoch " ++ decimal e
fields_of (Ok (Commit w e p b c)) = ascii ", epoch " ++ decimal e ++ ascii ", pages " ++ decimal p ++ ascii ", blocks " ++ decimal b
fields_of (Ok (Ack e c)) = ascii ", epoch " ++ decimal e
fields_of (Err u) = []

-- a line begins with the place of its record among the bytes, from 0
abbrev pub placed : ℕ → List ℕ → List ℕ
placed at s = ascii "at " ++ decimal at ++ ascii ": " ++ s ++ (newline ∷ [])

unfoldable pub record_line : ℕ → Result Record Unread → List ℕ
record_line at r =
    placed at (name_of r ++ ascii " (kind " ++ decimal (kind_of r) ++ ascii ")" ++ fields_of r ++ ascii ", " ++ decimal (used_of r) ++ ascii " bytes")

-- ---- what stops the reading: no bytes are left; the record is cut short, by n bytes of its header or of its body; it
-- is refused with 6 or with 7. s is what stands at the place
unfoldable pub end_line : ℕ → List ℕ
end_line at = placed at (ascii "end")

unfoldable pub short_line : ℕ → List ℕ → ℕ → List ℕ
short_line at s n =
    placed at
    (cond (leb header_length (length s)) (ascii "cut short (256), bytes of its body missing: ") (ascii "cut short (256), bytes of its header missing: ") ++ decimal n)

-- "length, kind": the two fields of a header
abbrev pub length_field : List ℕ → ℕ
length_field s = le_at 2 s 0

abbrev pub kind_field : List ℕ → ℕ
kind_field s = le_at 2 s 2

unfoldable pub refused_line : ℕ → List ℕ → (number : ℕ) → List ℕ
refused_line at s number =
    placed at
    (ascii "refused with "
    ++ decimal number
    ++ cond (eqb number bad_length)
    (ascii ", length " ++ decimal (length_field s) ++ ascii " is not that of kind " ++ decimal (kind_field s))
    (ascii ", kind " ++ decimal (kind_field s) ++ ascii " is not known on the link"))

-- ---- the record area
abbrev pub area_words : Area → List ℕ
area_words Zero = ascii "all zeros"
area_words (Activation epoch) = ascii "ACTIVATION (kind 6), epoch " ++ decimal epoch
area_words Neither = ascii "neither zeros nor an activation"

abbrev pub disk_words : Result Disk Refusal → List ℕ
disk_words (Ok PrimaryDisk) = ascii "the primary's disk is valid"
disk_words (Ok StandbyDisk) = ascii "the standby's disk is valid"
disk_words (Err refusal) = ascii "refused with " ++ decimal (refusal_number refusal) ++ ascii ", no disk is chosen"

unfoldable pub area_line : Area → Result Disk Refusal → List ℕ
area_line a c = ascii "record area: " ++ area_words a ++ ascii "; " ++ disk_words c ++ (newline ∷ [])

-- another length than 8 is 1
unfoldable pub area_length_line : ℕ → List ℕ
area_length_line n = ascii "record area: not 8 bytes but " ++ decimal n ++ ascii "; refused with " ++ decimal out_of_range ++ (newline ∷ [])

-- ---- a bad line: its first fault, with the place
abbrev pub fault_words : Fault → List ℕ
fault_words Empty = ascii "the line is empty"
fault_words Long = ascii "the line is longer than 65536 bytes"
fault_words Return = ascii "the line ends with a carriage return"
fault_words NoHead = ascii "neither U nor the word area"
fault_words BadUnit = ascii "U is not 64 to 4096 in steps of 64"
fault_words NotHex = ascii "not a hexadecimal digit"
fault_words Half = ascii "the second digit of a byte is missing"

unfoldable pub bad_line : Fault → ℕ → List ℕ
bad_line fault place = ascii "bad line, place " ++ decimal place ++ ascii ": " ++ fault_words fault ++ (newline ∷ [])
