-- What a site stands for: the world of the step rules. Assumes nothing.
use Rattle.rules.specs.declared.Accepted.{Accepted}
use Rattle.records.specs.declared.Unread.{Unread}
use Rattle.std.specs.Prelude.{ℕ, zero, suc, ◌+◌, ◌-◌, Bool, List, [], ◌++◌, take, replicate, Result}
use Rattle.records.specs.Write.{ack_record}
use Rattle.rules.specs.declared.ReadLent.{ReadLent}
use Rattle.rules.specs.Reply.{commit_accepted, number_of, value_of}
use Rattle.rules.specs.Read.{read_lent, read_reply, read_memory, read_staged_pages, read_staged_marks, read_staged_blocks, read_reply_bytes}
use Rattle.rules.specs.World.{World, PrimaryEnd, StandbyEnd}
use Rattle.rules.specs.Step.{outcome}
use Rattle.script.specs.declared.PrimaryBox.{PrimaryBox}
use Rattle.script.specs.declared.StandbyBox.{StandbyBox}
use Rattle.script.specs.declared.Site.{Site}
use Rattle.script.specs.declared.StandbyRead.{StandbyRead}
use Rattle.script.specs.declared.Performed.{Performed}
use Rattle.script.specs.Pair.{Done, ack_bytes}

abbrev pub primary_of : PrimaryBox → PrimaryEnd
primary_of p = record { state = p.state; memory = p.memory; disk = p.disk; dirty = p.dirty; held = p.held; stream = p.stream }

abbrev pub standby_of : StandbyBox → StandbyEnd
standby_of s =
    record { state = s.state; memory = s.memory; disk = s.disk; staged_pages = s.pages; staged_marks = s.marks; staged_blocks = s.blocks; area = s.area }

-- the ACKs of n epochs, from this one on
unfoldable pub acks_from : ℕ → ℕ → List ℕ
acks_from epoch zero = []
acks_from epoch (suc n) = ack_record epoch ++ acks_from (suc epoch) n

-- the ACKs of the epochs from first to last; none where first lies behind last
unfoldable pub acks_between : ℕ → ℕ → List ℕ
acks_between first last = acks_from first (last + 1 - first)

unfoldable pub world_of : Site → World
world_of s =
    record {
      primary = primary_of s.primary;
      standby = standby_of s.standby;
      link = take s.linked s.link;
      acks = acks_between s.unread s.standby.state.received;
    }

-- what a command gave, as the step rules say it
abbrev pub done_of : Performed → Done
done_of p = record { next = world_of p.site; outcome = outcome p.number p.value; last = p.last }

-- ---- a read at the standby's box

-- a COMMIT was accepted
abbrev pub is_commit : Result Accepted Unread → Bool
is_commit a = commit_accepted (number_of a) (value_of a)

-- the lengths of what the read is lent: the box's buffers, and a reply buffer of an ACK's bytes
abbrev pub box_lent : StandbyBox → ReadLent
box_lent b = read_lent b.memory b.pages b.marks b.blocks (replicate ack_bytes 0)

-- the box after it, the answer, and the reply buffer, which was zeros
unfoldable pub standby_read : StandbyBox → List ℕ → StandbyRead
standby_read b bytes =
    let r = read_reply b.state (box_lent b) bytes in
    record {
      standby = record {
        state = r.state;
        memory = read_memory b.state (box_lent b) bytes b.memory b.pages b.marks;
        disk = b.disk;
        pages = read_staged_pages b.state (box_lent b) bytes b.pages;
        marks = read_staged_marks b.state (box_lent b) bytes b.marks;
        blocks = read_staged_blocks b.state (box_lent b) bytes b.blocks;
        area = b.area;
      };
      answer = r.answer;
      reply = read_reply_bytes b.state (box_lent b) bytes (replicate ack_bytes 0);
    }
