-- Reading one record: what stands at the head of some bytes, for a reader. Assumes nothing.
use Rattle.std.specs.Prelude.{ℕ, ◌-◌, Bool, true, false, cond, List, leb, eqb, length, Result, Ok, Err}
use Rattle.lists.specs.LittleEndian.{le_at}
use Rattle.records.specs.declared.Cursor.{Cursor}
use Rattle.records.specs.declared.Reader.{Reader}
use Rattle.records.specs.declared.Record.{Record}
use Rattle.records.specs.declared.Unread.{Unread}
use Rattle.records.specs.declared.Record.TheVariants.{Page, Block, State, Commit, Ack}
use Rattle.records.specs.declared.Unread.TheVariants.{Short, Refused}
use Rattle.records.specs.Number.{out_of_range, bad_kind, bad_length}
use Rattle.records.specs.Cases.{on_ack, on_found}
use Rattle.records.specs.Kind.{unit_ok, PAGE, BLOCK, STATE, COMMIT, ACK, WIDEPAGE, WIDECOMMIT, page_kind, commit_kind, number_width, number_end, body_length, record_length, header_length, is_for}

-- a field of bytes from start on, up to the end of its record
abbrev pub cursor : ℕ → ℕ → Cursor
cursor start end = record { start = start; end = end }

-- a PAGE, and a COMMIT, of either width
abbrev pub page_at : ℕ → Bool → List ℕ → Result Record Unread
page_at u wide s =
    Ok (Page wide (le_at 4 s 4) (le_at (number_width wide) s 8) (cursor (number_end wide) (record_length u (page_kind wide))))

abbrev pub commit_at : ℕ → Bool → List ℕ → Result Record Unread
commit_at u wide s =
    let n = number_width wide in
    let end = record_length u (commit_kind wide) in
    Ok (Commit wide (le_at 4 s 4) (le_at n s 8) (le_at n s (number_end wide)) (cursor end end))

-- the record of a kind whose bytes are all there: each kind with its own fields
unfoldable pub fields_of : ℕ → ℕ → List ℕ → Result Record Unread
fields_of u kind s =
    let end = record_length u kind in
    cond (eqb kind PAGE) (page_at u false s)
    (cond (eqb kind BLOCK) (Ok (Block (le_at 4 s 4) (le_at 2 s 8) (cursor 10 end)))
    (cond (eqb kind STATE) (Ok (State (le_at 4 s 4) (cursor 8 end)))
    (cond (eqb kind COMMIT) (commit_at u false s)
    (cond (eqb kind WIDEPAGE) (page_at u true s)
    (cond (eqb kind WIDECOMMIT) (commit_at u true s)
    (Ok (Ack (le_at 4 s 4) (cursor 8 end))))))))

-- in this order: 1, header incomplete, 6 for that reader, 7, body incomplete, the record. What is incomplete is cut
-- short by what is missing of it: "4 less the bytes present for the header", "then the rest of the body"
unfoldable pub read_record : Reader → ℕ → List ℕ → Result Record Unread
read_record reader u s =
    let kind = le_at 2 s 2 in
    cond (unit_ok u)
    (cond (leb header_length (length s))
    (cond (is_for reader kind)
    (cond (eqb (le_at 2 s 0) (body_length u kind))
    (cond (leb (record_length u kind) (length s)) (fields_of u kind s) (Err (Short (record_length u kind - length s))))
    (Err (Refused bad_length)))
    (Err (Refused bad_kind)))
    (Err (Short (header_length - length s))))
    (Err (Refused out_of_range))

-- the number that stands for cut short where one is wanted: none of document 01's
abbrev pub cut_short : ℕ
cut_short = 256

-- the paper's number of each case: 0 is accepted
abbrev pub number_of : Result Record Unread → ℕ
number_of r = on_found r 0 (λ n. cut_short) (λ n. n)

-- the number of a record of another kind than its reader takes: 6; what is cut short has nothing more to be refused
-- for, and stays so
abbrev pub other_refusal : Result Record Unread → ℕ
other_refusal r = on_found r bad_kind (λ n. 0) (λ n. n)

-- its kind; 0 where there is no record
abbrev pub kind_of : Result Record Unread → ℕ
kind_of (Ok (Page w e p c)) = page_kind w
kind_of (Ok (Block e n c)) = BLOCK
kind_of (Ok (State e c)) = STATE
kind_of (Ok (Commit w e p b c)) = commit_kind w
kind_of (Ok (Ack e c)) = ACK
kind_of (Err u) = 0

-- the value of a read: the record's own kind, and for an ACK its epoch; "Every refusal's value is 0"
abbrev pub value_of : Result Record Unread → ℕ
value_of r = on_ack r (λ e c. e) (kind_of r)

-- its field of bytes, empty where it has none
abbrev pub cursor_of : Result Record Unread → Cursor
cursor_of (Ok (Page w e p c)) = c
cursor_of (Ok (Block e n c)) = c
cursor_of (Ok (State e c)) = c
cursor_of (Ok (Commit w e p b c)) = c
cursor_of (Ok (Ack e c)) = c
cursor_of (Err u) = cursor 0 0

-- the bytes used; "A record cut short or refused uses 0"
abbrev pub used_of : Result Record Unread → ℕ
used_of r = (cursor_of r).end

-- "how many more bytes would complete it"; 0 where it is not cut short
abbrev pub missing_of : Result Record Unread → ℕ
missing_of r = on_found r 0 (λ n. n) (λ n. 0)
