-- "one refused or cut short: nothing changes", of both ends and of the plain pair. Assumes nothing.
use Rattle.std.specs.Prelude.{Result}
use Prim.Native.Nat.{ℕ}
use mathlib.Core.Path.{◌≡◌, refl, ap}
use mathlib.Core.List.{List, append-nil}
use lib.ListN.{take}
use borrow.Author.Tests.{ne_eqb}
use Rattle.records.specs.declared.Record.{Record}
use Rattle.records.specs.declared.Unread.{Unread}
use Rattle.records.proofs.ReadLaws.{found-cases}
use Rattle.rules.specs.Reply.{number_of}
use Rattle.rules.specs.PrimaryWrites.{memory_write_reply, memory_write_memory, memory_write_dirty, disk_write_reply, disk_write_disk, disk_write_stream}
use Rattle.rules.specs.Packets.{packet_reply, packet_held, take_reply, take_held, take_destination}
use Rattle.rules.specs.Checkpoint.{checkpoint_reply, checkpoint_dirty, checkpoint_stream}
use Rattle.rules.specs.Stream.{drain_reply, drain_stream, drain_destination}
use Rattle.rules.specs.PrimaryTick.{primary_tick_reply}
use Rattle.rules.specs.Flush.{flush_reply, flush_staged_blocks, flush_disk}
use Rattle.rules.specs.Takeover.{standby_tick_reply, standby_tick_marks, activation_reply, activation_area, active_memory_write_reply, active_memory_write_memory, active_disk_write_reply, active_disk_write_disk}
use Rattle.rules.proofs.ReplyLaws.{answer-found}
use Rattle.rules.specs.World.{World, Call}
use Rattle.rules.specs.World as call
use Rattle.rules.specs.Step.{step}
use Rattle.runs.specs.Plain.{plain_step}
use Rattle.runs.specs.Run.{Both, steps, run_call}
use Rattle.runs.proofs.RecordSteps.{ack_seen, ack_by, ack-step, read_seen, read_by, read_step}
use Rattle.runs.proofs.SumSteps.{primary-sum-world, standby-sum-world}

-- a call of the world that was not accepted
abbrev pub NotAccepted : World → Call → Type 0
NotAccepted w c = (step w c).outcome.number ≡ 0 → ⊥

module _ (w : World) where
  -- the calls with a refusal
  refused-memory-write : (page offset : ℕ) (bytes : List ℕ) → NotAccepted w (call.memory_write page offset bytes) → (step w (call.memory_write page offset bytes)).next ≡ w
  unfolding step memory_write_reply memory_write_memory memory_write_dirty
  refused-memory-write page offset bytes ne = rw (ne_eqb _ _ ne)

  refused-disk-write : (block : ℕ) (bytes : List ℕ) → NotAccepted w (call.disk_write block bytes) → (step w (call.disk_write block bytes)).next ≡ w
  unfolding step disk_write_reply disk_write_disk disk_write_stream
  refused-disk-write block bytes ne = rw (ne_eqb _ _ ne)

  refused-packet : (port : ℕ) (bytes : List ℕ) → NotAccepted w (call.packet port bytes) → (step w (call.packet port bytes)).next ≡ w
  unfolding step packet_reply packet_held
  refused-packet port bytes ne = rw (ne_eqb _ _ ne)

  refused-checkpoint : (processor : call.Processor) → NotAccepted w (call.checkpoint processor) → (step w (call.checkpoint processor)).next ≡ w
  unfolding step checkpoint_reply checkpoint_dirty checkpoint_stream
  refused-checkpoint processor ne = rw (ne_eqb _ _ ne)

  refused-drain : (n : ℕ) (destination : List ℕ) → NotAccepted w (call.drain n destination) → (step w (call.drain n destination)).next ≡ w
  unfolding step drain_reply drain_stream drain_destination
  refused-drain n destination ne = rw (ne_eqb _ _ ne) (ap (λ (l : List ℕ). record { primary = w.primary; standby = w.standby; link = l; acks = w.acks }) (append-nil w.link))

  refused-take : (port : ℕ) (destination : List ℕ) → NotAccepted w (call.take port destination) → (step w (call.take port destination)).next ≡ w
  unfolding step take_reply take_held take_destination
  refused-take port destination ne = rw (ne_eqb _ _ ne)

  refused-primary-tick : NotAccepted w call.primary_tick → (step w call.primary_tick).next ≡ w
  unfolding step primary_tick_reply
  refused-primary-tick ne = rw (ne_eqb _ _ ne)

  refused-flush : (n : ℕ) → NotAccepted w (call.flush n) → (step w (call.flush n)).next ≡ w
  unfolding step flush_reply flush_staged_blocks flush_disk
  refused-flush n ne = rw (ne_eqb _ _ ne)

  refused-standby-tick : NotAccepted w call.standby_tick → (step w call.standby_tick).next ≡ w
  unfolding step standby_tick_reply standby_tick_marks
  refused-standby-tick ne = rw (ne_eqb _ _ ne)

  refused-activation : NotAccepted w call.activation → (step w call.activation).next ≡ w
  unfolding step activation_reply activation_area
  refused-activation ne = rw (ne_eqb _ _ ne)

  refused-active-memory-write : (page offset : ℕ) (bytes : List ℕ) → NotAccepted w (call.active_memory_write page offset bytes)
      → (step w (call.active_memory_write page offset bytes)).next ≡ w
  unfolding step active_memory_write_reply active_memory_write_memory
  refused-active-memory-write page offset bytes ne = rw (ne_eqb _ _ ne)

  refused-active-disk-write : (block : ℕ) (bytes : List ℕ) → NotAccepted w (call.active_disk_write block bytes) → (step w (call.active_disk_write block bytes)).next ≡ w
  unfolding step active_disk_write_reply active_disk_write_disk
  refused-active-disk-write block bytes ne = rw (ne_eqb _ _ ne)

  -- the calls that read a record
  ack-by : (r : Result Record Unread) → ((ack_by w r).outcome.number ≡ 0 → ⊥) → (ack_by w r).next ≡ w
  ack-by =
      found-cases (λ r. ((ack_by w r).outcome.number ≡ 0 → ⊥) → (ack_by w r).next ≡ w)
      (λ r h ne. absurd (ne (ap number_of (answer-found r h)))) (λ n ne. refl) (λ n ne. refl)

  refused-ack : (n : ℕ) → NotAccepted w (call.ack n) → (step w (call.ack n)).next ≡ w
  refused-ack n ne = rw (ack-step w n) (ack-by (ack_seen w n) (rw (ack-step w n) at ne))

  read-by : (bytes reply : List ℕ) (r : Result Record Unread) → ((read_by w bytes reply r).outcome.number ≡ 0 → ⊥) → (read_by w bytes reply r).next ≡ w
  read-by bytes reply =
      found-cases (λ r. ((read_by w bytes reply r).outcome.number ≡ 0 → ⊥) → (read_by w bytes reply r).next ≡ w)
      (λ r h ne. absurd (ne (ap number_of (answer-found r h)))) (λ n ne. rw append-nil) (λ n ne. rw (ne_eqb n 0 ne) (rw append-nil))

  refused-read : (n : ℕ) (reply : List ℕ) → NotAccepted w (call.read n reply) → (step w (call.read n reply)).next ≡ w
  refused-read n reply ne = rw (read_step w n reply) (read-by (take n w.link) reply (read_seen w n reply) (rw (read_step w n reply) at ne))

  -- ---- any call
  pub refused-world : (c : Call) → NotAccepted w c → (step w c).next ≡ w
  refused-world (call.memory_write page offset bytes) ne = refused-memory-write page offset bytes ne
  refused-world (call.disk_write block bytes) ne = refused-disk-write block bytes ne
  refused-world (call.packet port bytes) ne = refused-packet port bytes ne
  refused-world (call.checkpoint processor) ne = refused-checkpoint processor ne
  refused-world (call.drain n destination) ne = refused-drain n destination ne
  refused-world (call.ack n) ne = refused-ack n ne
  refused-world (call.take port destination) ne = refused-take port destination ne
  refused-world call.primary_tick ne = refused-primary-tick ne
  refused-world call.primary_sum ne = primary-sum-world w
  refused-world (call.read n reply) ne = refused-read n reply ne
  refused-world (call.flush n) ne = refused-flush n ne
  refused-world call.standby_tick ne = refused-standby-tick ne
  refused-world call.activation ne = refused-activation ne
  refused-world (call.active_memory_write page offset bytes) ne = refused-active-memory-write page offset bytes ne
  refused-world (call.active_disk_write block bytes) ne = refused-active-disk-write block bytes ne
  refused-world (call.standby_sum order) ne = standby-sum-world w order

pub refused-both : (u : ℕ) (b : Both) (c : Call) → NotAccepted b.world c → run_call steps u b c ≡ b
unfolding plain_step
refused-both u b c ne = rw (ne_eqb _ _ ne, refused-world b.world c ne)
