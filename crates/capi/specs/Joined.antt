-- The ends of a world as a host lends them, and what it sends over the link. Assumes nothing.
use Rattle.std.specs.Prelude.{ℕ, cond, List, [], take}
use Rattle.rules.specs.Reply.{commit_accepted}
use Rattle.rules.specs.World.{World, PrimaryEnd, StandbyEnd}
use Rattle.rules.specs.Step.{Stepped, stepped}
use Rattle.capi.specs.Word.{answer_number, answer_value}
use Rattle.capi.specs.PrimaryWords.{primary_of}
use Rattle.capi.specs.StandbyCalls.{LentStandby, standby_in}

abbrev pub primary_end : (w memory disk dirty held stream : List ℕ) → PrimaryEnd
primary_end w memory disk dirty held stream =
    record { state = primary_of w; memory = memory; disk = disk; dirty = dirty; held = held; stream = stream }

abbrev pub standby_end : (w : LentStandby) (memory disk pages marks blocks area : List ℕ) → StandbyEnd
standby_end w memory disk pages marks blocks area =
    record {
      state = standby_in w;
      memory = memory;
      disk = disk;
      staged_pages = pages;
      staged_marks = marks;
      staged_blocks = blocks;
      area = area;
    }

-- a world with other bytes under way to the standby, and with other ACKs under way to the primary
abbrev pub with_link : World → List ℕ → World
with_link κ link = record { primary = κ.primary; standby = κ.standby; link = link; acks = κ.acks }

abbrev pub with_acks : World → List ℕ → World
with_acks κ acks = record { primary = κ.primary; standby = κ.standby; link = κ.link; acks = acks }

-- a step as the host is told of it: the world after it, and the answer's number and value
abbrev pub told_step : World → (answer : ℕ) → Stepped
told_step κ answer = stepped κ (answer_number answer) (answer_value answer)

-- what a host sends back of a read: the first 8 bytes of the reply where a COMMIT was accepted, else nothing
abbrev pub ack_sent : (answer : ℕ) (reply : List ℕ) → List ℕ
ack_sent answer reply = cond (commit_accepted (answer_number answer) (answer_value answer)) (take 8 reply) []
