-- The queue as the list of what it holds: each packet with its epoch, port and bytes, the oldest first. Assumes
-- nothing.
use Rattle.std.specs.Prelude.{ℕ, Bool, List, [], ◌∷◌, eqb, take, drop}
use Rattle.lists.specs.Select.{selected}
use Rattle.queue.specs.declared.Packet.{Packet}
use Rattle.queue.specs.declared.Queue.{Queue}
use Rattle.queue.specs.Held.{held_packets}

pub record Held : Type 0 where
  pub epoch : ℕ
  pub port : ℕ
  pub bytes : List ℕ

-- these packets, whose bytes stand in s one after the other
unfoldable pub held_from : List Packet → List ℕ → List Held
held_from [] s = []
held_from (p ∷ ps) s = record { epoch = p.epoch; port = p.port; bytes = take p.length s } ∷ held_from ps (drop p.length s)

unfoldable pub held_list : Queue → List ℕ → List Held
held_list k held = held_from (held_packets k) held

abbrev pub is_held_of : ℕ → Held → Bool
is_held_of port h = eqb h.port port

-- the packets of a port, the oldest first
abbrev pub held_of : ℕ → List Held → List Held
held_of port held = selected (is_held_of port) held
