-- What a read at the standby is refused with, and the record that an accepted one finds. Assumes nothing.
use Rattle.std.specs.Prelude.{ℕ, ◌+◌, Bool, cond, ◌&&◌, ◌||◌, not, List, [], ◌∷◌, leb, ltb, eqb, Result, Err}
use Rattle.lists.specs.Refusal.{Test, test, refusal}
use Rattle.records.specs.declared.Record.{Record}
use Rattle.records.specs.declared.Unread.{Unread}
use Rattle.records.specs.declared.Unread.TheVariants.{Refused}
use Rattle.records.specs.declared.Reader.{Reader}
use Rattle.records.specs.declared.Reader.TheVariants as reader
use Rattle.records.specs.Kind.{ACK, is_wide, record_length}
use Rattle.records.specs.Cases.{by_kind}
use Rattle.records.specs.Read.{read_record, other_refusal}
use Rattle.records.specs.Number.{out_of_range, no_such_unit, no_room, bad_epoch, out_of_order, bad_counts, wrong_mode, allowance_used, slots_full}
use Rattle.staging.specs.Slot.{free_slots, is_staged}
use Rattle.rules.specs.declared.Standby.{Standby}
use Rattle.rules.specs.declared.ReadLent.{ReadLent}
use Rattle.rules.specs.Blocks.{block_allowed}
use Rattle.rules.specs.StandbyState.{standby_ok, is_receiving, memory_length, slots_length, marks_length}
use Rattle.rules.specs.Reply.{unless_refused}

-- "Lent lengths are exact"; the reply buffer may be of any length
unfoldable pub read_lent_ok : Standby → ReadLent → Bool
read_lent_ok s l =
    eqb l.memory (memory_length s)
    && eqb l.pages (memory_length s)
    && eqb l.marks (marks_length s)
    && eqb l.blocks (slots_length s)

-- the epoch is the last received plus 1; else 8
abbrev pub is_next : Standby → ℕ → Bool
is_next s epoch = eqb epoch (s.received + 1)

-- PAGE: 2 8 9 ("PAGE not above the last or after STATE"). Of pages that came in rising order the last is at least their
-- count less 1, so that a page below their count is not above the last: an accepted PAGE leaves at most M pages, in
-- states that no run reaches too
abbrev pub page_tests : Standby → ℕ → ℕ → List Test
page_tests s epoch page =
    test no_such_unit (ltb page s.settings.m)
    ∷ test bad_epoch (is_next s epoch)
    ∷ test out_of_order (leb s.next page && leb s.pages page && not s.seen)
    ∷ []

unfoldable pub page_refusal : Standby → ℕ → ℕ → ℕ
page_refusal s epoch page = refusal (page_tests s epoch page)

-- BLOCK: 2 8 9 14 17, with so many slots free for it ("BLOCK after PAGE or STATE": a page came where the next page is
-- not 0 or pages are counted; "17 isn't given where a slot is reused")
abbrev pub block_tests : Standby → (free : ℕ) → ℕ → ℕ → List Test
block_tests s free epoch block =
    test no_such_unit (ltb block s.settings.d)
    ∷ test bad_epoch (is_next s epoch)
    ∷ test out_of_order (eqb s.next 0 && eqb s.pages 0 && not s.seen)
    ∷ test allowance_used (block_allowed (is_staged s.slots block) s.settings.b s.blocks s.records)
    ∷ test slots_full (is_staged s.slots block || ltb 0 free)
    ∷ []

unfoldable pub block_refusal : Standby → (free : ℕ) → ℕ → ℕ → ℕ
block_refusal s free epoch block = refusal (block_tests s free epoch block)

-- STATE: 8 9 ("second STATE")
abbrev pub state_tests : Standby → ℕ → List Test
state_tests s epoch = test bad_epoch (is_next s epoch) ∷ test out_of_order (not s.seen) ∷ []

unfoldable pub state_refusal : Standby → ℕ → ℕ
state_refusal s epoch = refusal (state_tests s epoch)

-- COMMIT: 5 8 9 ("COMMIT without STATE") 10 ("COMMIT's count is still of records")
abbrev pub commit_tests : Standby → ℕ → ℕ → ℕ → ℕ → List Test
commit_tests s reply epoch pages blocks =
    test no_room (leb (record_length s.settings.u ACK) reply)
    ∷ test bad_epoch (is_next s epoch)
    ∷ test out_of_order s.seen
    ∷ test bad_counts (eqb pages s.pages && eqb blocks s.records)
    ∷ []

unfoldable pub commit_refusal : Standby → ℕ → ℕ → ℕ → ℕ → ℕ
commit_refusal s reply epoch pages blocks = refusal (commit_tests s reply epoch pages blocks)

-- the slots that are free for a BLOCK
abbrev pub free_for : Standby → ℕ
free_for s = free_slots s.slots s.settings.s

abbrev pub record_refusal : Standby → ℕ → Result Record Unread → ℕ
record_refusal s reply r =
    by_kind r (λ e p c. page_refusal s e p) (λ e n c. block_refusal s (free_for s) e n) (λ e c. state_refusal s e) (λ e p b c. commit_refusal s reply e p b) (other_refusal r)

-- "A standby reads only the kinds that its M calls for" (document 02, Job 7)
abbrev pub reader_of : Standby → Reader
reader_of s = reader.Standby (is_wide s.settings.m)

-- the record at the head of the bytes where it is accepted, else cut short or the number
unfoldable pub judged : Standby → ReadLent → List ℕ → Result Record Unread
judged s l bytes =
    let r = read_record (reader_of s) s.settings.u bytes in
    cond (standby_ok s && read_lent_ok s l)
    (cond (is_receiving s.mode) (unless_refused (record_refusal s l.reply r) r) (Err (Refused wrong_mode)))
    (Err (Refused out_of_range))
