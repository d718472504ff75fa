-- Ports are apart: what a packet or a take of one port leaves of another (document 02, Job 6: "That port's oldest
-- packet goes out, .. and 18 is judged for it"). Assumes nothing.
use Rattle.std.specs.Prelude.{ℕ, ◌≡◌, true, List, length}
use Rattle.settings.specs.Range.{most_packets}
use Rattle.queue.specs.Held.{oldest_at, has_packet, oldest, packet_bytes}
use Rattle.queue.specs.HeldList.{held_list, held_of}
use Rattle.rules.specs.declared.Primary.{Primary}
use Rattle.rules.specs.Packets.{packet_reply, packet_held, may_leave, take_refusal, take_reply, take_held}

-- a port is as it was
pub record PortAsBefore (p p' : Primary) (held held' : List ℕ) (port : ℕ) : Type 0 where
  -- all its packets in order, each with its epoch and its bytes
  pub packets : held_of port (held_list p'.queue held') ≡ held_of port (held_list p.queue held)
  -- whether it has one
  pub some : has_packet p'.queue port ≡ has_packet p.queue port
  -- its oldest, and that one's bytes
  pub oldest_is : has_packet p.queue port ≡ true → oldest p'.queue port ≡ oldest p.queue port
  pub bytes : has_packet p.queue port ≡ true
      → packet_bytes p'.queue (oldest_at p'.queue port) held' ≡ packet_bytes p.queue (oldest_at p.queue port) held
  -- whether it may leave, and so what a take of this port is refused with, whatever its destination
  pub freedom : may_leave p' port ≡ may_leave p port
  pub number : (destination : ℕ) → take_refusal p' (length held') port destination ≡ take_refusal p (length held) port destination

-- whatever the state, whose array has its 64 entries, and the buffers, the call accepted or refused
abbrev pub PacketApart : Type 0
PacketApart =
    (p : Primary) (held : List ℕ) (port : ℕ) (bytes : List ℕ) (other : ℕ) → length p.queue.packets ≡ most_packets → (other ≡ port → ⊥)
    → PortAsBefore p (packet_reply p (length held) port (length bytes)).state held (packet_held p held port bytes) other

abbrev pub TakeApart : Type 0
TakeApart =
    (p : Primary) (held : List ℕ) (port : ℕ) (destination : List ℕ) (other : ℕ) → length p.queue.packets ≡ most_packets → (other ≡ port → ⊥)
    → PortAsBefore p (take_reply p (length held) port (length destination)).state held (take_held p held port destination) other
