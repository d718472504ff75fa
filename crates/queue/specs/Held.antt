-- The held packets of all ports, in one queue. Assumes nothing.
use Rattle.std.specs.Prelude.{ℕ, ◌+◌, ◌-◌, Bool, true, ◌&&◌, List, [], ◌∷◌, leb, ltb, eqb, take, get_or, set, replicate}
use Rattle.lists.specs.Part.{part, put, removed, freed}
use Rattle.lists.specs.Select.{place_of}
use Rattle.settings.specs.Range.{most_packets, packet_length_ok, port_ok}
use Rattle.queue.specs.declared.Packet.{Packet}
use Rattle.queue.specs.declared.Queue.{Queue}

abbrev pub no_packet : Packet
no_packet = record { epoch = 0; length = 0; port = 0 }

abbrev pub empty_queue : Queue
empty_queue = record { count = 0; bytes = 0; packets = replicate most_packets no_packet }

-- the packets that are held, the oldest first
abbrev pub held_packets : Queue → List Packet
held_packets k = take k.count k.packets

abbrev pub packet_at : Queue → ℕ → Packet
packet_at k i = get_or k.packets i no_packet

-- ---- a port's packets are those that have it, and its oldest is the first of them
abbrev pub is_of_port : ℕ → Packet → Bool
is_of_port port p = eqb p.port port

-- its place; where the port has none, as many as are held
abbrev pub oldest_at : Queue → ℕ → ℕ
oldest_at k port = place_of (is_of_port port) (held_packets k)

abbrev pub has_packet : Queue → ℕ → Bool
has_packet k port = ltb (oldest_at k port) k.count

abbrev pub oldest : Queue → ℕ → Packet
oldest k port = packet_at k (oldest_at k port)

-- ---- the range: "over 64 packets, a packet length outside 1 to 1,514, lengths not summing to the held bytes, those over Q,
-- packet epochs falling or above the open one", of all ports together; and "a held port above 3" (document 02, Job 6)
abbrev pub packet_ok : ℕ → ℕ → Bool
packet_ok n port = packet_length_ok n && port_ok port

unfoldable pub packets_ok : List Packet → Bool
packets_ok [] = true
packets_ok (p ∷ ps) = packet_ok p.length p.port && packets_ok ps

unfoldable pub sum_lengths : List Packet → ℕ
sum_lengths [] = 0
sum_lengths (p ∷ ps) = p.length + sum_lengths ps

-- low ≤ the first epoch ≤ .. ≤ the last ≤ top
unfoldable pub epochs_ok : ℕ → ℕ → List Packet → Bool
epochs_ok low top [] = leb low top
epochs_ok low top (p ∷ ps) = leb low p.epoch && epochs_ok p.epoch top ps

unfoldable pub queue_ok : Queue → ℕ → ℕ → Bool
queue_ok k epoch q =
    leb k.count most_packets
    && packets_ok (held_packets k)
    && eqb (sum_lengths (held_packets k)) k.bytes
    && leb k.bytes q
    && epochs_ok 0 epoch (held_packets k)

-- ---- one packet more: its entry, and its bytes behind those held
unfoldable pub added : Queue → ℕ → ℕ → ℕ → Queue
added k epoch port n =
    record { count = k.count + 1; bytes = k.bytes + n; packets = set k.packets k.count (record { epoch = epoch; length = n; port = port }) }

unfoldable pub added_bytes : Queue → List ℕ → List ℕ → List ℕ
added_bytes k held packet = put held k.bytes packet

-- room for a packet of n bytes; not: "64 packets held, or Q would be passed"
abbrev pub has_space : Queue → ℕ → ℕ → Bool
has_space k q n = ltb k.count most_packets && leb (k.bytes + n) q

-- ---- the i-th packet: its bytes stand behind those of the packets before it
abbrev pub bytes_before : Queue → ℕ → ℕ
bytes_before k i = sum_lengths (take i k.packets)

unfoldable pub packet_bytes : Queue → ℕ → List ℕ → List ℕ
packet_bytes k i held = part (bytes_before k i) (packet_at k i).length held

-- ---- without it: the packets behind it move up, entries and bytes, the freed entry is 0, the bytes behind all stay
unfoldable pub without_packet : Queue → ℕ → Queue
without_packet k i =
    record { count = k.count - 1; bytes = k.bytes - (packet_at k i).length; packets = freed no_packet i 1 k.count k.packets }

unfoldable pub without_packet_bytes : Queue → ℕ → List ℕ → List ℕ
without_packet_bytes k i held = removed (bytes_before k i) (packet_at k i).length k.bytes held
