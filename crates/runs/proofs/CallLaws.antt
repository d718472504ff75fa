-- Demands 1 and 2 over all calls: no call leaves number 1's ranges, Reached holds after an accepted start and is kept
-- by every call, and a refused or cut-short call changes nothing. Assumes nothing.
use mathlib.Core.Path.{◌≡◌, refl, sym, subst}
use mathlib.Core.Bool.{true, false}
use mathlib.Core.List.{List, []}
use Prim.Native.Nat.{ℕ, ◌-◌, ◌≤◌}
use native.Mathlib.Omega.{arith}
use borrow.Author.Tests.{ne_eqb}
use lib.ListN.{length, take}
use Rattle.records.specs.Number.{out_of_order}
use Rattle.settings.specs.declared.Settings.{Settings}
use Rattle.queue.specs.Held.{oldest_at, added, without_packet}
use Rattle.staging.specs.Slot.{flush_count, flushed}
use Rattle.detector.specs.Tick.{reset}
use Rattle.rules.specs.declared.Mode.TheVariants.{Active}
use Rattle.rules.specs.declared.Primary.{Primary}
use Rattle.rules.specs.declared.Standby.{Standby}
use Rattle.rules.specs.declared.ReadLent.{ReadLent}
use Rattle.rules.specs.StandbyState.{standby_ok, with_pages_next, with_slots_blocks, with_mode}
use Rattle.rules.specs.Start.{opened_standby}
use Rattle.rules.specs.PrimaryState.{with_queue, with_waiting, with_acknowledged_detector}
use Rattle.rules.specs.PrimaryWrites.{memory_write_refusal, memory_write_reply, disk_write_refusal, disk_write_state, disk_write_reply}
use Rattle.rules.specs.Packets.{packet_refusal, packet_reply, take_refusal, take_reply, take_destination}
use Rattle.rules.specs.Checkpoint.{dirty_count, checkpoint_refusal, checkpoint_state, checkpoint_reply}
use Rattle.rules.specs.Stream.{drain_refusal, drain_count, drain_reply, drain_destination, ack_judged, ack_reply}
use Rattle.rules.specs.PrimaryTick.{primary_tick_refusal, primary_tick_state, primary_tick_reply}
use Rattle.rules.specs.Judge.{page_refusal, judged}
use Rattle.rules.specs.Read.{read_lent, read_reply, read_reply_bytes}
use Rattle.rules.specs.Flush.{flush_refusal, flush_reply}
use Rattle.rules.specs.Takeover.{standby_tick_refusal, standby_tick_state, standby_tick_reply, activation_refusal, activation_reply, active_memory_write_refusal, active_memory_write_reply, active_disk_write_refusal, active_disk_write_reply}
use Rattle.rules.specs.Sums.{primary_sum_reply, standby_sum_reply}
use Rattle.rules.specs.Reached.{PrimaryInRange, PrimaryReached, StandbyInRange, StandbyReached, StaysInRange}
use Rattle.rules.specs.World.{World, Call, Processor, Buffers, start_lent, start_number, start_world}
use Rattle.rules.specs.World as call
use Rattle.rules.specs.Step.{step}
use Rattle.rules.proofs.WriteLaws.{DiskWriteRoom, disk-write-accepted, disk-write-in-range, disk-write-reached}
use Rattle.rules.proofs.CheckpointLaws.{CheckpointRoom, checkpoint-accepted, checkpoint-in-range, checkpoint-reached}
use Rattle.rules.proofs.PacketLaws.{PacketFacts, packet-accepted, packet-in-range, packet-reached, TakeFacts, take-accepted, take-in-range, take-reached}
use Rattle.rules.proofs.StreamLaws.{drain-in-range, drain-reached, AckFacts, ack-in-range, ack-reached, ack-kept}
use Rattle.rules.proofs.PrimaryTickLaws.{tick-in-range, tick-reached}
use Rattle.rules.proofs.ReadLaws.{read-in-range, read-reached, nothing_read}
use Rattle.rules.proofs.FlushLaws.{flushed-in-range, flushed-reached}
use Rattle.rules.proofs.TakeoverLaws.{ticked-in-range, ticked-reached, activated-in-range, activated-reached}
use Rattle.rules.proofs.ReplyLaws.{pick-cases, answer-refused}
use Rattle.runs.proofs.Compute.{all_steps}
use Rattle.runs.proofs.Small.{small, processor_of}
use Rattle.runs.proofs.SumSteps.{primary-sum-world, standby-sum-world}
use Rattle.runs.proofs.Refused.{NotAccepted, refused-world}
use Rattle.rules.proofs.StartLaws.{started-primary, started-standby}

pub record BothReached (w : World) : Type 0 where
  pub primary : PrimaryReached w.primary.state
  pub standby : StandbyReached w.standby.state

-- every call keeps what each end's own calls keep: of the primary; a memory write and a sum leave its state
module _ (P : Primary → Type 0)
    (writes : (p : Primary) (disk stream block n : ℕ) → DiskWriteRoom p disk stream block n → P p → P (disk_write_state p block))
    (packets : (p : Primary) (held port n : ℕ) → PacketFacts p held port n → P p → P (with_queue p (added p.queue p.epoch port n)))
    (closes : (p : Primary) (memory dirty stream pages : ℕ) → CheckpointRoom p memory dirty stream pages → P p → P (checkpoint_state p pages))
    (drains : (p : Primary) (n destination : ℕ) → P p → P (with_waiting p (p.waiting - drain_count p n destination)))
    (acks : (p : Primary) (e : ℕ) → AckFacts p e → P p → P (with_acknowledged_detector p e (reset p.detector)))
    (takes : (p : Primary) (held port destination : ℕ) → TakeFacts p held port destination → P p → P (with_queue p (without_packet p.queue (oldest_at p.queue port))))
    (ticks : (p : Primary) → P p → P (primary_tick_state p)) where
  primary-kept : (w : World) (c : Call) → P w.primary.state → P (step w c).next.primary.state
  unfolding step memory_write_reply disk_write_reply packet_reply checkpoint_reply drain_reply take_reply primary_tick_reply
  primary-kept w (call.memory_write page offset bytes) r =
      let e = w.primary in
      pick-cases P (memory_write_refusal e.state (length e.memory) (length e.dirty) page offset (length bytes)) e.state e.state (λ _. r) (λ _. r)
  primary-kept w (call.disk_write block bytes) r =
      let e = w.primary in
      pick-cases P (disk_write_refusal e.state (length e.disk) (length e.stream) block (length bytes)) _ e.state (λ z. writes e.state _ _ block _ (disk-write-accepted _ _ _ _ _ z) r) (λ _. r)
  primary-kept w (call.packet port bytes) r =
      let e = w.primary in
      pick-cases P (packet_refusal e.state (length e.held) port (length bytes)) _ e.state (λ z. packets e.state _ port _ (packet-accepted _ _ _ _ z) r) (λ _. r)
  primary-kept w (call.checkpoint processor) r =
      let e = w.primary in
      pick-cases P (checkpoint_refusal e.state (length e.memory) (length e.dirty) (length e.stream) (dirty_count e.state e.dirty)) _ e.state
      (λ z. closes e.state _ _ _ _ (checkpoint-accepted _ _ _ _ _ z) r) (λ _. r)
  primary-kept w (call.drain n destination) r =
      let e = w.primary in
      pick-cases P (drain_refusal e.state (length e.stream)) _ e.state (λ _. drains e.state n (length destination) r) (λ _. r)
  primary-kept w (call.ack n) r = ack-kept w.primary.state P (acks w.primary.state) (take n w.acks) r
  primary-kept w (call.take port destination) r =
      let e = w.primary in
      pick-cases P (take_refusal e.state (length e.held) port (length destination)) _ e.state (λ z. takes e.state _ port _ (take-accepted _ _ _ _ z) r) (λ _. r)
  primary-kept w call.primary_tick r = pick-cases P (primary_tick_refusal w.primary.state) _ w.primary.state (λ _. ticks w.primary.state r) (λ _. r)
  primary-kept w call.primary_sum r = subst (λ (x : World). P x.primary.state) (sym (primary-sum-world w)) r
  primary-kept w (call.read n reply) r = r
  primary-kept w (call.flush n) r = r
  primary-kept w call.standby_tick r = r
  primary-kept w call.activation r = r
  primary-kept w (call.active_memory_write page offset bytes) r = r
  primary-kept w (call.active_disk_write block bytes) r = r
  primary-kept w (call.standby_sum order) r = r

-- and of the standby; a guest's write and a sum leave its state
module _ (P : Standby → Type 0)
    (read : (s : Standby) (l : ReadLent) (bytes : List ℕ) → P s → P (read_reply s l bytes).state)
    (flushes : (s : Standby) (count : ℕ) → count ≤ s.slots.due → P s → P (with_slots_blocks s (flushed s.slots count) s.blocks s.records))
    (ticks : (s : Standby) → P s → P (standby_tick_state s))
    (activates : (s : Standby) → P s → P (with_mode s Active)) where
  standby-kept : (w : World) (c : Call) → P w.standby.state → P (step w c).next.standby.state
  unfolding step flush_reply standby_tick_reply activation_reply active_memory_write_reply active_disk_write_reply
  standby-kept w (call.memory_write page offset bytes) r = r
  standby-kept w (call.disk_write block bytes) r = r
  standby-kept w (call.packet port bytes) r = r
  standby-kept w (call.checkpoint processor) r = r
  standby-kept w (call.drain n destination) r = r
  standby-kept w (call.ack n) r = r
  standby-kept w (call.take port destination) r = r
  standby-kept w call.primary_tick r = r
  standby-kept w call.primary_sum r = r
  standby-kept w (call.read n reply) r = read _ _ _ r
  standby-kept w (call.flush n) r =
      let e = w.standby in
      pick-cases P (flush_refusal e.state (length e.staged_blocks) (length e.disk)) _ e.state
      (λ _. flushes e.state (flush_count e.state.slots n) (omega arith) r) (λ _. r)
  standby-kept w call.standby_tick r =
      let e = w.standby in
      pick-cases P (standby_tick_refusal e.state (length e.staged_marks)) _ e.state (λ _. ticks e.state r) (λ _. r)
  standby-kept w call.activation r =
      let e = w.standby in
      pick-cases P (activation_refusal e.state (length e.area)) _ e.state (λ _. activates e.state r) (λ _. r)
  standby-kept w (call.active_memory_write page offset bytes) r =
      let e = w.standby in
      pick-cases P (active_memory_write_refusal e.state (length e.memory) page offset (length bytes)) e.state e.state (λ _. r) (λ _. r)
  standby-kept w (call.active_disk_write block bytes) r =
      let e = w.standby in
      pick-cases P (active_disk_write_refusal e.state (length e.disk) block (length bytes)) e.state e.state (λ _. r) (λ _. r)
  standby-kept w (call.standby_sum order) r = subst (λ (x : World). P x.standby.state) (sym (standby-sum-world w order)) r

pub stays-in-range : (w : World) (c : Call) → StaysInRange w c
stays-in-range w c =
    record {
      primary = primary-kept PrimaryInRange disk-write-in-range packet-in-range checkpoint-in-range drain-in-range ack-in-range take-in-range tick-in-range w c;
      standby = standby-kept StandbyInRange read-in-range flushed-in-range ticked-in-range activated-in-range w c;
    }

-- why a PAGE below the count of pages is refused: this standby has its M pages and the next page 0, in range though no
-- run reaches it. With no page counted the same PAGE is accepted; counted as one page more it leaves the range
abbrev full : Standby
full = with_pages_next (opened_standby small (processor_of 1).bytes) 2 0

pub page-below-count : (standby_ok full ≡ true) × (page_refusal full 1 0 ≡ out_of_order) × (page_refusal (with_pages_next full 0 0) 1 0 ≡ 0) × (standby_ok (with_pages_next full 3 1) ≡ false)
unfolding all_steps
page-below-count = (refl, refl, refl, refl)

pub step-reached : (w : World) (c : Call) → BothReached w → BothReached (step w c).next
step-reached w c r =
    record {
      primary = primary-kept PrimaryReached disk-write-reached packet-reached checkpoint-reached drain-reached ack-reached take-reached tick-reached w c r.primary;
      standby = standby-kept StandbyReached read-reached flushed-reached ticked-reached activated-reached w c r.standby;
    }

pub start-reached : (g : Settings) (processor : Processor) (b : Buffers) → start_number g b ≡ 0 → BothReached (start_world g processor b)
unfolding start_world
start-reached g processor b e =
    record { primary = started-primary g (start_lent b) processor.bytes e; standby = started-standby g (start_lent b) processor.bytes e processor.size }

-- ---- a refused or cut-short call leaves the state and every lent buffer as before

-- the slices that a call is lent besides its end's buffers: the destination of drain and take, the reply of read
abbrev pub LentAsBefore : World → Call → Type 0
LentAsBefore w (call.memory_write page offset bytes) = Unit {0}
LentAsBefore w (call.disk_write block bytes) = Unit {0}
LentAsBefore w (call.packet port bytes) = Unit {0}
LentAsBefore w (call.checkpoint processor) = Unit {0}
LentAsBefore w (call.drain n destination) = drain_destination w.primary.state w.primary.stream n destination ≡ destination
LentAsBefore w (call.ack n) = Unit {0}
LentAsBefore w (call.take port destination) = take_destination w.primary.state w.primary.held port destination ≡ destination
LentAsBefore w call.primary_tick = Unit {0}
LentAsBefore w call.primary_sum = Unit {0}
LentAsBefore w (call.read n reply) =
    let s = w.standby in
    read_reply_bytes s.state (read_lent s.memory s.staged_pages s.staged_marks s.staged_blocks reply) (take n w.link) reply ≡ reply
LentAsBefore w (call.flush n) = Unit {0}
LentAsBefore w call.standby_tick = Unit {0}
LentAsBefore w call.activation = Unit {0}
LentAsBefore w (call.active_memory_write page offset bytes) = Unit {0}
LentAsBefore w (call.active_disk_write block bytes) = Unit {0}
LentAsBefore w (call.standby_sum order) = Unit {0}

pub record AsBefore (w : World) (c : Call) : Type 0 where
  pub world : (step w c).next ≡ w
  pub value : (step w c).outcome.value ≡ 0
  pub handed : (step w c).handed ≡ []
  pub lent : LentAsBefore w c

pub refused-as-before : (w : World) (c : Call) → NotAccepted w c → AsBefore w c
unfolding step memory_write_reply disk_write_reply packet_reply checkpoint_reply drain_reply drain_destination ack_reply take_reply take_destination primary_tick_reply read_reply read_reply_bytes flush_reply standby_tick_reply activation_reply active_memory_write_reply active_disk_write_reply primary_sum_reply standby_sum_reply
refused-as-before w (call.memory_write page offset bytes) ne = record { world = refused-world w (call.memory_write page offset bytes) ne; value = rw (ne_eqb _ _ ne); handed = refl; lent = tt }
refused-as-before w (call.disk_write block bytes) ne = record { world = refused-world w (call.disk_write block bytes) ne; value = rw (ne_eqb _ _ ne); handed = refl; lent = tt }
refused-as-before w (call.packet port bytes) ne = record { world = refused-world w (call.packet port bytes) ne; value = rw (ne_eqb _ _ ne); handed = refl; lent = tt }
refused-as-before w (call.checkpoint processor) ne = record { world = refused-world w (call.checkpoint processor) ne; value = rw (ne_eqb _ _ ne); handed = refl; lent = tt }
refused-as-before w (call.drain n destination) ne = record { world = refused-world w (call.drain n destination) ne; value = rw (ne_eqb _ _ ne); handed = refl; lent = rw (ne_eqb _ _ ne) }
refused-as-before w (call.ack n) ne = record { world = refused-world w (call.ack n) ne; value = (answer-refused (ack_judged w.primary.state (take n w.acks)) ne).0; handed = refl; lent = tt }
refused-as-before w (call.take port destination) ne = record { world = refused-world w (call.take port destination) ne; value = rw (ne_eqb _ _ ne); handed = rw (ne_eqb _ _ ne); lent = rw (ne_eqb _ _ ne) }
refused-as-before w call.primary_tick ne = record { world = refused-world w call.primary_tick ne; value = rw (ne_eqb _ _ ne); handed = refl; lent = tt }
refused-as-before w call.primary_sum ne = record { world = refused-world w call.primary_sum ne; value = rw (ne_eqb _ _ ne); handed = refl; lent = tt }
refused-as-before w (call.read n reply) ne =
    let s = w.standby in
    let l = read_lent s.memory s.staged_pages s.staged_marks s.staged_blocks reply in
    let f = nothing_read s.state (take n w.link) s.memory s.staged_pages s.staged_marks s.staged_blocks reply (judged s.state l (take n w.link)) ne in
    record { world = refused-world w (call.read n reply) ne; value = f.value-zero; handed = refl; lent = f.reply-same }
refused-as-before w (call.flush n) ne = record { world = refused-world w (call.flush n) ne; value = rw (ne_eqb _ _ ne); handed = refl; lent = tt }
refused-as-before w call.standby_tick ne = record { world = refused-world w call.standby_tick ne; value = rw (ne_eqb _ _ ne); handed = refl; lent = tt }
refused-as-before w call.activation ne = record { world = refused-world w call.activation ne; value = rw (ne_eqb _ _ ne); handed = refl; lent = tt }
refused-as-before w (call.active_memory_write page offset bytes) ne = record { world = refused-world w (call.active_memory_write page offset bytes) ne; value = rw (ne_eqb _ _ ne); handed = refl; lent = tt }
refused-as-before w (call.active_disk_write block bytes) ne = record { world = refused-world w (call.active_disk_write block bytes) ne; value = rw (ne_eqb _ _ ne); handed = refl; lent = tt }
refused-as-before w (call.standby_sum order) ne = record { world = refused-world w (call.standby_sum order) ne; value = rw (ne_eqb _ _ ne); handed = refl; lent = tt }
