-- Which calls of the primary leave the held packets as they are, and what an accepted packet and an accepted take do to
-- their count. Assumes nothing.
use Rattle.std.specs.Prelude.{Result}
use mathlib.Core.Path.{◌≡◌, refl}
use mathlib.Core.List.{List}
use mathlib.Core.Logic.{⊎_elim}
use Prim.Native.Nat.{ℕ, ◌+◌, ◌-◌, ◌<◌}
use native.Mathlib.Omega.{arith}
use lib.ListN.{length}
use Rattle.lists.specs.Refusal.{pick}
use Rattle.lists.proofs.TestLaws.{by-test}
use Rattle.records.specs.declared.Record.{Record}
use Rattle.records.specs.declared.Unread.{Unread}
use Rattle.records.proofs.ReadLaws.{on-ack}
use Rattle.settings.specs.Range.{most_packets}
use Rattle.detector.specs.Tick.{expired, ticked}
use Rattle.queue.specs.Held.{added, without_packet}
use Rattle.rules.specs.declared.Primary.{Primary}
use Rattle.rules.specs.PrimaryState.{with_waiting}
use Rattle.rules.specs.PrimaryWrites.{memory_write_refusal, memory_write_reply, disk_write_refusal, disk_write_state, disk_write_reply}
use Rattle.rules.specs.Packets.{packet_refusal, packet_reply, take_refusal, take_reply}
use Rattle.rules.specs.Checkpoint.{checkpoint_refusal, checkpoint_state, checkpoint_reply}
use Rattle.rules.specs.Stream.{drain_count, drain_refusal, drain_reply, ack_state, ack_judged, ack_reply}
use Rattle.rules.specs.PrimaryTick.{outstanding, primary_tick_refusal, primary_tick_state, primary_tick_reply}
use Rattle.rules.specs.Sums.{primary_sum_refusal, primary_sum_reply}
use Rattle.rules.proofs.ReplyLaws.{pick-cases}
use Rattle.rules.proofs.PacketLaws.{packet-accepted, take-accepted}

-- ---- calls that leave the packets and the block numbers
abbrev pub Kept : (old new : Primary) → Type 0
Kept old new = (new.queue ≡ old.queue) × (new.numbers ≡ old.numbers)

kept : (number : ℕ) (old new : Primary) → Kept old new → Kept old (pick number new old)
kept number old new k = pick-cases (Kept old) number new old (λ z. k) (λ z. (refl, refl))

module _ (p : Primary) where
  pub memory-write-kept : (memory dirty page offset n : ℕ) → Kept p (memory_write_reply p memory dirty page offset n).state
  unfolding memory_write_reply
  memory-write-kept memory dirty page offset n = kept (memory_write_refusal p memory dirty page offset n) p p (refl, refl)

  pub checkpoint-kept : (memory dirty stream pages : ℕ) → Kept p (checkpoint_reply p memory dirty stream pages).state
  unfolding checkpoint_reply checkpoint_state
  checkpoint-kept memory dirty stream pages = kept (checkpoint_refusal p memory dirty stream pages) p (checkpoint_state p pages) (refl, refl)

  pub drain_kept : (stream n destination : ℕ) → Kept p (drain_reply p stream n destination).state
  unfolding drain_reply
  drain_kept stream n destination = kept (drain_refusal p stream) p (with_waiting p (p.waiting - drain_count p n destination)) (refl, refl)

  pub tick-kept : Kept p (primary_tick_reply p).state
  unfolding primary_tick_reply primary_tick_state
  tick-kept =
      let d = ticked p.detector (outstanding p) in
      kept (primary_tick_refusal p) p (primary_tick_state p)
      (⊎_elim (λ e. rw e (refl, refl)) (λ e. rw e (⊎_elim (λ x. rw x (refl, refl)) (λ x. rw x (refl, refl)) (by-test (expired d)))) (by-test p.alone))

  on-ack-kept : (r : Result Record Unread) → Kept p (ack_state p r)
  on-ack-kept r = on-ack (Kept p) _ p r (λ e c q. (refl, refl)) (refl, refl)

  pub ack-kept : (bytes : List ℕ) → Kept p (ack_reply p bytes).state
  unfolding ack_reply
  ack-kept bytes = on-ack-kept (ack_judged p bytes)

  pub sum_kept : (memory : List ℕ) → Kept p (primary_sum_reply p memory).state
  unfolding primary_sum_reply
  sum_kept memory = kept (primary_sum_refusal p (length memory)) p p (refl, refl)

  -- ---- a disk write leaves the packets, whatever it remembers of its block
  pub disk-write-queue : (disk stream block n : ℕ) → (disk_write_reply p disk stream block n).state.queue ≡ p.queue
  unfolding disk_write_reply disk_write_state
  disk-write-queue disk stream block n =
      pick-cases (λ (s : Primary). s.queue ≡ p.queue) (disk_write_refusal p disk stream block n) (disk_write_state p block) p
      (λ z. ⊎_elim (λ e. rw e) (λ e. rw e) (by-test p.alone)) (λ z. refl)

  -- ---- a packet accepted is one more, a take accepted one less
  pub packet-count : (held port n : ℕ) → packet_refusal p held port n ≡ 0
      → (p.queue.count < most_packets) × ((packet_reply p held port n).state.queue.count ≡ p.queue.count + 1)
  unfolding packet_reply added
  packet-count held port n z = ((packet-accepted p held port n z).count_low, rw z)

  pub take_count : (held port destination : ℕ) → take_refusal p held port destination ≡ 0
      → (0 < p.queue.count) × ((take_reply p held port destination).state.queue.count ≡ p.queue.count - 1)
  unfolding take_reply without_packet
  take_count held port destination z =
      let f = (take-accepted p held port destination z).released.some in
      (omega arith, rw z)
