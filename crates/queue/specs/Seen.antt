-- What the code keeps as it looks at the held packets one after the other: what was seen of them so far, which in the
-- end decides the range, and where the first packet of a port stands. Assumes nothing.
use Rattle.std.specs.Prelude.{ℕ, ◌+◌, ◌<◌, ◌≡◌, Bool, false, ◌&&◌, cond, Option, Some, None, List, fold, length, take, leb, eqb}
use Rattle.lists.specs.Select.{place_of}
use Rattle.settings.specs.Range.{most_packets}
use Rattle.queue.specs.declared.Packet.{Packet}
use Rattle.queue.specs.declared.Seen.{Seen}
use Rattle.queue.specs.declared.Place.{Place}
use Rattle.queue.specs.Held.{packet_ok, is_of_port, sum_lengths}

abbrev pub none_seen : Option Seen
none_seen = Some (record { epoch = 0; bytes = 0 })

-- one packet more: nothing once one was out of range or its epoch fell
unfoldable pub seen_with : Option Seen → Packet → Option Seen
seen_with None p = None
seen_with (Some s) p = cond (packet_ok p.length p.port && leb s.epoch p.epoch) (Some (record { epoch = p.epoch; bytes = s.bytes + p.length })) None

abbrev pub seen_from : Option Seen → List Packet → Option Seen
seen_from s ps = fold seen_with s ps

abbrev pub seen_of : List Packet → Option Seen
seen_of ps = seen_from none_seen ps

-- whether a queue of this count and these bytes is in range, by what was seen of all its packets
unfoldable pub seen_ok : Option Seen → ℕ → ℕ → ℕ → ℕ → Bool
seen_ok None count bytes epoch q = false
seen_ok (Some s) count bytes epoch q = leb count most_packets && eqb s.bytes bytes && leb bytes q && leb s.epoch epoch

-- ---- the first packet of a port: none of these is, or its place and the bytes before its own
abbrev pub IsFirstOf : ℕ → List Packet → Option Place → Type 0
IsFirstOf port ps None = place_of (is_of_port port) ps ≡ length ps
IsFirstOf port ps (Some s) = (s.at < length ps) × (s.at ≡ place_of (is_of_port port) ps) × (s.before ≡ sum_lengths (take s.at ps))
