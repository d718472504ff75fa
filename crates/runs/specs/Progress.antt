-- Progress: the two ends never disagree on what was sent. Demand 3 alone is true of ends that do: the standby would
-- refuse for ever, and nothing would be lost. After every list of calls the standby accepts the primary's next record,
-- and the primary the next ACK, once it is given whole; and with nothing more written the two catch up. Assumes
-- nothing.
use Rattle.std.specs.Prelude.{ℕ, zero, suc, ◌+◌, ◌-◌, ◌*◌, ◌≤◌, ◌<◌, min, ◌≡◌, Bool, true, false, ◌&&◌, ◌||◌, not, List, [], ◌∷◌, ◌++◌, map, leb, ltb, eqb, length, take, drop, replicate}
use Rattle.lists.specs.LittleEndian.{le_at}
use Rattle.lists.specs.Refusal.{Test, test, refusal}
use Rattle.lists.specs.Select.{times_in}
use Rattle.records.specs.Kind.{BLOCK, ACK, is_wide, page_kind, commit_kind, is_commit, header_length, record_length}
use Rattle.records.specs.Read.{cut_short}
use Rattle.records.specs.Number.{no_room, slots_full}
use Rattle.settings.specs.declared.Settings.{Settings}
use Rattle.settings.specs.Range.{most_packet_bytes}
use Rattle.staging.specs.Slot.{is_staged}
use Rattle.rules.specs.StandbyState.{is_receiving}
use Rattle.rules.specs.World.{World, Processor, Call, Buffers}
use Rattle.rules.specs.World as call
use Rattle.runs.specs.Plain.{Checkpoint, Plain, of_port, taken_of, checkpoint_at}
use Rattle.runs.specs.Run.{Both, Steps, steps, run, start_both}
use Rattle.runs.specs.Cut.{Cut, counted_calls}
use Rattle.runs.specs.Demand3.{AllAccepted}
use Rattle.runs.specs.Corollaries.{AfterStart}

abbrev pub number_of : Steps → World → Call → ℕ
number_of κ w c = (κ.real w c).outcome.number

-- ---- the record at the head of some bytes: "A record is a 2-byte length of the body, a 2-byte kind, then the body"

-- it is whole: its header is there, and as many bytes more as that says
abbrev pub whole_record : List ℕ → Bool
whole_record bytes = leb header_length (length bytes) && leb (header_length + le_at 2 bytes 0) (length bytes)

-- the bytes behind it
abbrev pub without_first : List ℕ → List ℕ
without_first bytes = drop (header_length + le_at 2 bytes 0) bytes

abbrev pub kind_at : List ℕ → ℕ
kind_at bytes = le_at 2 bytes 2

-- the block that a BLOCK names, behind its epoch
abbrev pub block_at : List ℕ → ℕ
block_at bytes = le_at 2 bytes 8

-- ---- the number of a call that reads one

-- while receiving, a read answers other than 0 for three things only: less than the whole next record, which is cut
-- short; a COMMIT with a reply under 8 bytes, 5; a BLOCK that its epoch does not have staged, with all S slots staged,
-- 17. So it never answers 2, 6 to 10 or 14: both ends count an epoch's blocks and records alike
abbrev pub read_tests : Settings → World → ℕ → List ℕ → List Test
read_tests g w n reply =
    let bytes = take n w.link in
    test cut_short (whole_record bytes)
    ∷ test no_room (not (is_commit (kind_at bytes)) || leb (record_length g.u ACK) (length reply))
    ∷ test slots_full (not (eqb (kind_at bytes) BLOCK) || is_staged w.standby.state.slots (block_at bytes) || ltb w.standby.state.slots.staged g.s)
    ∷ []

abbrev pub read_number : Settings → World → ℕ → List ℕ → ℕ
read_number g w n reply = refusal (read_tests g w n reply)

-- while protected, an ACK call answers other than 0 for less than a whole ACK only, which is cut short. So it never
-- answers 6, 7 or 11
abbrev pub ack_number : World → ℕ → ℕ
ack_number w n = refusal (test cut_short (whole_record (take n w.acks)) ∷ [])

-- what 17 waits for: all S slots are staged and one at least is due, and any flush of one or more lets the same read be
-- accepted
pub record WaitsForFlush (κ : Steps) (g : Settings) (w : World) (n : ℕ) (reply : List ℕ) : Type 0 where
  pub staged : w.standby.state.slots.staged ≡ g.s
  pub due : 0 < w.standby.state.slots.due
  pub flushed : (k : ℕ) → 0 < k → AllAccepted κ w (call.flush k ∷ call.read n reply ∷ [])

pub record GoesOn (κ : Steps) (g : Settings) (w : World) : Type 0 where
  pub reads : is_receiving w.standby.state.mode ≡ true → (n : ℕ) (reply : List ℕ)
      → number_of κ w (call.read n reply) ≡ read_number g w n reply
  pub waits : is_receiving w.standby.state.mode ≡ true → (n : ℕ) (reply : List ℕ)
      → number_of κ w (call.read n reply) ≡ slots_full → WaitsForFlush κ g w n reply
  -- an accepted read uses exactly the record
  pub read_uses : is_receiving w.standby.state.mode ≡ true → (n : ℕ) (reply : List ℕ)
      → number_of κ w (call.read n reply) ≡ 0 → (κ.real w (call.read n reply)).next.link ≡ without_first w.link
  pub acks : w.primary.state.alone ≡ false → (n : ℕ) → number_of κ w (call.ack n) ≡ ack_number w n
  -- and so does an accepted ACK call
  pub ack_uses : w.primary.state.alone ≡ false → (n : ℕ)
      → number_of κ w (call.ack n) ≡ 0 → (κ.real w (call.ack n)).next.acks ≡ without_first w.acks

-- after every accepted start and every list of calls, wherever the pair is cut
abbrev pub ProgressOf : Steps → Type 0
ProgressOf κ =
    AfterStart (λ (g : Settings) (processor : Processor) (buffers : Buffers).
    (calls : List Call) (cut : Cut) → GoesOn κ g (run κ g.u (start_both g processor buffers) (counted_calls cut calls)).world)

abbrev pub Progress : Type 0
Progress = ProgressOf steps

-- ---- catching up

-- an exchange: one drain, rounds of a flush and a read, and ACK calls. These are the arguments of its calls
pub record Exchange : Type 0 where
  pub drained : ℕ
  pub destination : List ℕ
  -- how many rounds; in each the same: the flush's budget, the bytes given to the read, and its reply
  pub turns : ℕ
  pub budget : ℕ
  pub given : ℕ
  pub reply : List ℕ
  -- how many ACK calls, and the bytes given to each
  pub ack_turns : ℕ
  pub ack_given : ℕ

abbrev pub rounds : ℕ → ℕ → ℕ → List ℕ → List Call
rounds zero budget given reply = []
rounds (suc k) budget given reply = call.flush budget ∷ (call.read given reply ∷ rounds k budget given reply)

abbrev pub exchange_calls : Exchange → List Call
exchange_calls x =
    call.drain x.drained x.destination
    ∷ (rounds x.turns x.budget x.given x.reply ++ replicate x.ack_turns (call.ack x.ack_given))

-- the arguments may be any that are enough at a world
pub record Enough (g : Settings) (w : World) (x : Exchange) : Type 0 where
  -- the drain is of all that waits
  pub drain : w.primary.state.waiting ≤ min x.drained (length x.destination)
  -- more than enough rounds: one for each record to read if all were COMMITs, the shortest. Each flush has a budget of
  -- one or more, each read is given a whole record and has room for the ACK
  pub turns : length w.link + w.primary.state.waiting ≤ record_length g.u (commit_kind (is_wide g.m)) * x.turns
  pub flush : 0 < x.budget
  pub read : record_length g.u (page_kind (is_wide g.m)) ≤ x.given
  pub room : record_length g.u ACK ≤ length x.reply
  -- there are as many ACK calls as closed epochs are not acknowledged; each is given a whole ACK
  pub ack_turns : w.primary.state.epoch ≤ w.primary.state.acknowledged + 1 + x.ack_turns
  pub ack : record_length g.u ACK ≤ x.ack_given

-- the last checkpoint of the plain pair
abbrev pub last_checkpoint : Plain → Checkpoint
last_checkpoint p = checkpoint_at p (length p.checkpoints - 1)

-- how many of its packets of a port have not left
abbrev pub not_taken : Plain → ℕ → ℕ
not_taken p port = length (of_port port (last_checkpoint p).packets) - taken_of p port

-- the last checkpoint is received and acknowledged; so its packets that had not left can then all be taken, in any
-- order of the ports
pub record CaughtUp (κ : Steps) (before after : Both) : Type 0 where
  -- by the plain pair
  pub r : after.plain.r + 1 ≡ length after.plain.checkpoints
  pub a : after.plain.a + 1 ≡ length after.plain.checkpoints
  -- by the real ends: it is the epoch before the open one
  pub received : after.world.standby.state.received + 1 ≡ before.world.primary.state.epoch
  pub acknowledged : after.world.primary.state.acknowledged + 1 ≡ before.world.primary.state.epoch
  pub takes : (destination : List ℕ) → most_packet_bytes ≤ length destination
      → (ports : List ℕ) → ((port : ℕ) → times_in port ports ≤ not_taken before.plain port)
      → AllAccepted κ after.world (map (λ (port : ℕ). call.take port destination) ports)

-- where the primary is protected and the standby receives, every exchange that is enough leads there
abbrev pub CatchesUp : Steps → Settings → Both → Type 0
CatchesUp κ g b =
    b.world.primary.state.alone ≡ false → is_receiving b.world.standby.state.mode ≡ true
    → (x : Exchange) → Enough g b.world x → CaughtUp κ b (run κ g.u b (exchange_calls x))

-- after every accepted start and every list of calls, wherever the pair is cut
abbrev pub CatchUpOf : Steps → Type 0
CatchUpOf κ =
    AfterStart (λ (g : Settings) (processor : Processor) (buffers : Buffers).
    (calls : List Call) (cut : Cut) → CatchesUp κ g (run κ g.u (start_both g processor buffers) (counted_calls cut calls)))

abbrev pub CatchUp : Type 0
CatchUp = CatchUpOf steps
