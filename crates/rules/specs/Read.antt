-- What a read at the standby leaves, by the record that was judged. Assumes nothing.
use Rattle.rules.specs.declared.ReadReply.{ReadReply}
use Rattle.std.specs.Prelude.{ℕ, ◌+◌, ◌-◌, List, length, Result}
use Rattle.lists.specs.Part.{part, put}
use Rattle.lists.specs.Page.{with_page}
use Rattle.records.specs.declared.Cursor.{Cursor}
use Rattle.records.specs.declared.Record.{Record}
use Rattle.records.specs.declared.Unread.{Unread}
use Rattle.records.specs.Cases.{on_page, on_block, on_commit, by_kind}
use Rattle.records.specs.Write.{ack_record}
use Rattle.marks.specs.Mark.{with_mark, cleared}
use Rattle.pages.specs.Dirty.{installed}
use Rattle.staging.specs.Slot.{is_staged, with_block, with_block_bytes, all_due}
use Rattle.rules.specs.declared.Standby.{Standby}
use Rattle.rules.specs.declared.ReadLent.{ReadLent}
use Rattle.rules.specs.Blocks.{blocks_with}
use Rattle.rules.specs.StandbyState.{with_pages_next, with_slots_blocks, with_pending_seen, with_no_records, with_received_slots_processor, with_no_ticks}
use Rattle.rules.specs.Reply.{answer_of}
use Rattle.rules.specs.Judge.{judged}

-- the bytes field of a record
abbrev pub bytes_at : Cursor → List ℕ → List ℕ
bytes_at c bytes = part c.start (c.end - c.start) bytes

-- a checkpoint is sealed: the next record belongs to the next epoch
abbrev pub sealed_state : Standby → Standby
sealed_state s = with_no_records s

-- and it is installed: "keeps the processor state, makes the epoch's staged blocks due"; its epoch is the last received
abbrev pub installed_state : Standby → ℕ → Standby
installed_state s epoch = with_received_slots_processor s epoch (all_due s.slots) s.pending

-- a block is staged: one BLOCK more, in the slot of its number
abbrev pub staged_state : Standby → ℕ → Standby
staged_state s n =
    with_slots_blocks s (with_block s.slots n) (blocks_with (is_staged s.slots n) s.blocks) (s.records + 1)

-- the state after a record is accepted: the count "returns to 0 at each accepted record of kinds 1 to 4" (document 02,
-- Job 1); any other answer leaves the state
abbrev pub read_state : Standby → List ℕ → Result Record Unread → Standby
read_state s bytes r =
    let t = with_no_ticks s in
    by_kind r
    (λ e p c. with_pages_next t (t.pages + 1) (p + 1))
    (λ e n c. staged_state t n)
    (λ e c. with_pending_seen t (bytes_at c bytes))
    (λ e p b c. installed_state (sealed_state t) e)
    s

-- each lent buffer: "A record cut short or refused .. changes nothing"
abbrev pub memory_after : Standby → List ℕ → List ℕ → List ℕ → Result Record Unread → List ℕ
memory_after s memory staged marks r = on_commit r (λ e p b c. installed memory staged marks s.settings.u s.settings.m) memory

abbrev pub staged_pages_after : Standby → List ℕ → List ℕ → Result Record Unread → List ℕ
staged_pages_after s bytes staged r = on_page r (λ e p c. with_page s.settings.u staged p (bytes_at c bytes)) staged

abbrev pub staged_marks_after : Standby → List ℕ → Result Record Unread → List ℕ
staged_marks_after s marks r = on_page r (λ e p c. with_mark marks p) (on_commit r (λ e p b c. cleared marks s.settings.m) marks)

abbrev pub staged_blocks_after : Standby → List ℕ → List ℕ → Result Record Unread → List ℕ
staged_blocks_after s bytes slots r = on_block r (λ e n c. with_block_bytes s.settings.u s.slots n slots (bytes_at c bytes)) slots

-- "writes the ACK into the first 8 bytes of the reply buffer"
abbrev pub reply_after : List ℕ → Result Record Unread → List ℕ
reply_after reply r = on_commit r (λ e p b c. put reply 0 (ack_record e)) reply

-- the lengths of what is lent
abbrev pub read_lent : List ℕ → List ℕ → List ℕ → List ℕ → List ℕ → ReadLent
read_lent memory staged_pages staged_marks staged_blocks reply =
    record { memory = length memory; pages = length staged_pages; marks = length staged_marks; blocks = length staged_blocks; reply = length reply }

-- ---- the call: the record judged, and everything by it
unfoldable pub read_reply : Standby → ReadLent → List ℕ → ReadReply Standby
read_reply s l bytes = record { state = read_state s bytes (judged s l bytes); answer = answer_of (judged s l bytes) }

unfoldable pub read_memory : Standby → ReadLent → List ℕ → List ℕ → List ℕ → List ℕ → List ℕ
read_memory s l bytes memory staged marks = memory_after s memory staged marks (judged s l bytes)

unfoldable pub read_staged_pages : Standby → ReadLent → List ℕ → List ℕ → List ℕ
read_staged_pages s l bytes staged = staged_pages_after s bytes staged (judged s l bytes)

unfoldable pub read_staged_marks : Standby → ReadLent → List ℕ → List ℕ → List ℕ
read_staged_marks s l bytes marks = staged_marks_after s marks (judged s l bytes)

unfoldable pub read_staged_blocks : Standby → ReadLent → List ℕ → List ℕ → List ℕ
read_staged_blocks s l bytes slots = staged_blocks_after s bytes slots (judged s l bytes)

unfoldable pub read_reply_bytes : Standby → ReadLent → List ℕ → List ℕ → List ℕ
read_reply_bytes s l bytes reply = reply_after reply (judged s l bytes)
