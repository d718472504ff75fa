-- What each call does to the packets held. Assumes nothing.
use mathlib.Core.Path.{◌≡◌, refl}
use mathlib.Core.Bool.{Bool, true, false, cond}
use mathlib.Core.List.{List}
use Prim.Native.Nat.{ℕ, ◌+◌, ◌-◌, ◌≤◌, ◌<◌}
use native.Mathlib.Omega.{arith}
use lib.Dec.{eqb}
use lib.ListN.{length}
use borrow.Author.Tests.{ne_eqb}
use Rattle.settings.specs.Range.{most_packets}
use Rattle.queue.proofs.QueueLaws.{queue-tests}
use Rattle.rules.specs.Packets.{packet_reply, take_reply}
use Rattle.settings.specs.declared.Settings.{Settings}
use Rattle.rules.specs.Start.{start_refusal, opened_primary, no_primary, started}
use Rattle.rules.specs.World.{World, Call, Processor, Buffers, start_lent, start_world}
use Rattle.rules.specs.World as call
use Rattle.rules.specs.Step.{step}
use Rattle.rules.proofs.PrimaryFacts.{primary-facts}
use Rattle.rules.proofs.PacketLaws.{take-accepted}
use Rattle.rules.proofs.QueueLaws.{memory-write-kept, disk-write-queue, checkpoint-kept, drain_kept, ack-kept, tick-kept, sum_kept, packet-count, take_count}
use Rattle.trials.specs.Waits.{sends, takes, neither, on_packets}

-- the calls that neither send nor take one leave them
sends-not : (port : ℕ) → sends port ≡ neither → ⊥
sends-not port e = let z : ◌≡◌ {A = ℕ} 0 1 = cc in no z
  where
    no : ◌≡◌ {A = ℕ} 0 1 → ⊥
    no z = omega arith

takes-not : (port : ℕ) → takes port ≡ neither → ⊥
takes-not port e = let z : ◌≡◌ {A = ℕ} 0 1 = cc in no z
  where
    no : ◌≡◌ {A = ℕ} 0 1 → ⊥
    no z = omega arith

pub step-queue : (w : World) (c : Call) → on_packets c ≡ neither → (step w c).next.primary.state.queue ≡ w.primary.state.queue
unfolding step
step-queue w (call.packet port bytes) e = absurd (sends-not port e)
step-queue w (call.take port destination) e = absurd (takes-not port e)
step-queue w (call.memory_write page offset bytes) e = (memory-write-kept w.primary.state _ _ page offset _).0
step-queue w (call.disk_write block bytes) e = disk-write-queue w.primary.state _ _ block _
step-queue w (call.checkpoint processor) e = (checkpoint-kept w.primary.state _ _ _ _).0
step-queue w (call.drain n destination) e = (drain_kept w.primary.state _ n _).0
step-queue w (call.ack n) e = (ack-kept w.primary.state _).0
step-queue w call.primary_tick e = (tick-kept w.primary.state).0
step-queue w call.primary_sum e = (sum_kept w.primary.state w.primary.memory).0
step-queue w (call.read n reply) e = refl
step-queue w (call.flush n) e = refl
step-queue w call.standby_tick e = refl
step-queue w call.activation e = refl
step-queue w (call.active_memory_write page offset bytes) e = refl
step-queue w (call.active_disk_write block bytes) e = refl
step-queue w (call.standby_sum order) e = refl

-- the count of the packets held
abbrev pub held_count : World → ℕ
held_count w = w.primary.state.queue.count

pub step-packet : (w : World) (port : ℕ) (bytes : List ℕ) → (step w (call.packet port bytes)).outcome.number ≡ 0
    → (held_count w < most_packets) × (held_count (step w (call.packet port bytes)).next ≡ held_count w + 1)
unfolding step packet_reply
step-packet w port bytes z = packet-count w.primary.state (length w.primary.held) port (length bytes) z

pub step-take : (w : World) (port : ℕ) (destination : List ℕ) → (step w (call.take port destination)).outcome.number ≡ 0
    → (0 < held_count w) × (held_count (step w (call.take port destination)).next ≡ held_count w - 1)
unfolding step take_reply
step-take w port destination z = take_count w.primary.state (length w.primary.held) port (length destination) z

-- and no state that is accepted has more than 64
pub step-take-high : (w : World) (port : ℕ) (destination : List ℕ) → (step w (call.take port destination)).outcome.number ≡ 0 → held_count w ≤ most_packets
unfolding step take_reply
step-take-high w port destination z =
    let p = w.primary.state in
    let f = take-accepted p (length w.primary.held) port (length destination) z in
    (queue-tests p.queue p.epoch p.settings.q (primary-facts p f.ok).queue).count-high

-- refused, they leave them
pub step-packet-refused : (w : World) (port : ℕ) (bytes : List ℕ) → ((step w (call.packet port bytes)).outcome.number ≡ 0 → ⊥)
    → held_count (step w (call.packet port bytes)).next ≡ held_count w
unfolding step packet_reply
step-packet-refused w port bytes z = rw (ne_eqb _ _ z)

pub step-take-refused : (w : World) (port : ℕ) (destination : List ℕ) → ((step w (call.take port destination)).outcome.number ≡ 0 → ⊥)
    → held_count (step w (call.take port destination)).next ≡ held_count w
unfolding step take_reply
step-take-refused w port destination z = rw (ne_eqb _ _ z)

-- after start there are none, accepted or not
pub start-held : (g : Settings) (processor : Processor) (b : Buffers) → held_count (start_world g processor b) ≡ 0
unfolding start_world started
start-held g processor b = go (eqb (start_refusal g (start_lent b)) 0)
  where
    go : (v : Bool) → (cond v (opened_primary g) no_primary).queue.count ≡ 0
    go true = refl
    go false = refl
