-- The kinds of records and their lengths (document 01, "Records"; document 02, Job 7), and the range of U. Assumes
-- nothing.
use Rattle.std.specs.Prelude.{ℕ, ◌+◌, ◌%◌, Bool, true, false, cond, ◌&&◌, ◌||◌, ltb, eqb}
use Rattle.lists.specs.Refusal.{within}
use Rattle.records.specs.declared.Reader.{Reader}
use Rattle.records.specs.declared.Reader.TheVariants.{Test, Standby, Primary}

-- U, bytes in a page and in a block: 64 to 4,096, a multiple of 64
abbrev pub least_unit : ℕ
least_unit = 64

abbrev pub most_unit : ℕ
most_unit = 4096

unfoldable pub unit_ok : ℕ → Bool
unit_ok u = within least_unit most_unit u && eqb (u % least_unit) 0

-- the kinds of the table
abbrev pub PAGE : ℕ
PAGE = 1

abbrev pub BLOCK : ℕ
BLOCK = 2

abbrev pub STATE : ℕ
STATE = 3

abbrev pub COMMIT : ℕ
COMMIT = 4

abbrev pub ACK : ℕ
ACK = 5

abbrev pub ACTIVATION : ℕ
ACTIVATION = 6

-- document 02, Job 7: "Kind 8 is PAGE with a 4-byte page number", "kind 9 is COMMIT with two 4-byte counts"
abbrev pub WIDEPAGE : ℕ
WIDEPAGE = 8

abbrev pub WIDECOMMIT : ℕ
WIDECOMMIT = 9

-- wide: more than 4,096 memory pages. "Up to M 4,096 the writer uses kinds 1 and 4 as before, above that only 8 and 9"
abbrev pub most_narrow_pages : ℕ
most_narrow_pages = 4096

abbrev pub is_wide : ℕ → Bool
is_wide m = ltb most_narrow_pages m

abbrev pub page_kind : (wide : Bool) → ℕ
page_kind false = PAGE
page_kind true = WIDEPAGE

abbrev pub commit_kind : (wide : Bool) → ℕ
commit_kind false = COMMIT
commit_kind true = WIDECOMMIT

-- the bytes of a page number, and of each count of a COMMIT
abbrev pub number_width : (wide : Bool) → ℕ
number_width false = 2
number_width true = 4

-- where the first of them ends: behind the header, the epoch and itself
abbrev pub number_end : (wide : Bool) → ℕ
number_end wide = 8 + number_width wide

-- and the second, with which a COMMIT ends
abbrev pub counts_end : (wide : Bool) → ℕ
counts_end wide = number_end wide + number_width wide

-- a kind is a COMMIT, of either width: "Every other rule treats 8 as 1 and 9 as 4"
abbrev pub is_commit : ℕ → Bool
is_commit kind = eqb kind COMMIT || eqb kind WIDECOMMIT

-- bytes of a processor state
abbrev pub processor_bytes : ℕ
processor_bytes = 64

-- the lengths of the bodies: of a PAGE or a BLOCK besides its U bytes, of a STATE, a COMMIT, of a wide PAGE besides its
-- U bytes, a wide COMMIT, and of a record with an epoch alone
abbrev pub unit_body : ℕ
unit_body = 6

abbrev pub state_body : ℕ
state_body = 68

abbrev pub commit_body : ℕ
commit_body = 8

abbrev pub wide_page_body : ℕ
wide_page_body = 8

abbrev pub wide_commit_body : ℕ
wide_commit_body = 12

abbrev pub epoch_body : ℕ
epoch_body = 4

-- the length of the body of a kind, 0 for what is no kind
unfoldable pub body_length : ℕ → ℕ → ℕ
body_length u kind =
    cond (eqb kind PAGE) (u + unit_body)
    (cond (eqb kind BLOCK) (u + unit_body)
    (cond (eqb kind STATE) state_body
    (cond (eqb kind COMMIT) commit_body
    (cond (eqb kind ACK) epoch_body
    (cond (eqb kind ACTIVATION) epoch_body
    (cond (eqb kind WIDEPAGE) (u + wide_page_body)
    (cond (eqb kind WIDECOMMIT) wide_commit_body 0)))))))

-- "A record is a 2-byte length of the body, a 2-byte kind, then the body"
abbrev pub header_length : ℕ
header_length = 4

unfoldable pub record_length : ℕ → ℕ → ℕ
record_length u kind = header_length + body_length u kind

-- "Kinds 1 to 4 go to the standby, 5 to the primary", and "A standby reads only the kinds that its M calls for"; the
-- record test passes 1 to 5, 8 and 9: it "has no M, passes them all"
abbrev pub is_for : Reader → ℕ → Bool
is_for Test kind = within PAGE ACK kind || within WIDEPAGE WIDECOMMIT kind
is_for (Standby wide) kind = eqb kind (page_kind wide) || eqb kind BLOCK || eqb kind STATE || eqb kind (commit_kind wide)
is_for Primary kind = eqb kind ACK
