-- Packets: held with the open epoch and a port, and handed out, a port's oldest, once their epoch is acknowledged
-- (ports: document 02, Job 6). Assumes nothing.
use Rattle.rules.specs.declared.Reply.{Reply}
use Rattle.std.specs.Prelude.{ℕ, ◌+◌, Bool, ◌&&◌, ◌||◌, List, [], ◌∷◌, leb, eqb, length}
use Rattle.lists.specs.Refusal.{Test, test, refusal, pick}
use Rattle.lists.specs.Part.{put}
use Rattle.records.specs.Number.{out_of_range, bad_packet, no_room, queue_full, nothing_free, no_such_port}
use Rattle.settings.specs.Range.{packet_length_ok, port_ok}
use Rattle.queue.specs.Held.{oldest_at, has_packet, oldest, has_space, added, added_bytes, packet_bytes, without_packet, without_packet_bytes}
use Rattle.rules.specs.declared.Primary.{Primary}
use Rattle.rules.specs.PrimaryState.{primary_ok, with_queue}
use Rattle.rules.specs.Reply.{reply_of}

-- ---- packet: 1 4 23 16
abbrev pub packet_tests : Primary → ℕ → ℕ → ℕ → List Test
packet_tests p held port n =
    test out_of_range (primary_ok p && eqb held p.settings.q)
    ∷ test bad_packet (packet_length_ok n)
    ∷ test no_such_port (port_ok port)
    ∷ test queue_full (has_space p.queue p.settings.q n)
    ∷ []

unfoldable pub packet_refusal : Primary → ℕ → ℕ → ℕ → ℕ
packet_refusal p held port n = refusal (packet_tests p held port n)

unfoldable pub packet_reply : Primary → ℕ → ℕ → ℕ → Reply Primary
packet_reply p held port n =
    reply_of (packet_refusal p held port n) p (with_queue p (added p.queue p.epoch port n)) (p.queue.count + 1)

-- "copied and held with the open epoch"
unfoldable pub packet_held : Primary → List ℕ → ℕ → List ℕ → List ℕ
packet_held p held port packet = pick (packet_refusal p (length held) port (length packet)) (added_bytes p.queue held packet) held

-- ---- take: 1 23 18 5

-- protection is off
abbrev pub unprotected : Primary → Bool
unprotected p = p.alone

-- the release rule: the port has a packet, and of its oldest "its epoch is acknowledged or the primary is alone"
abbrev pub may_leave : Primary → ℕ → Bool
may_leave p port = has_packet p.queue port && (unprotected p || leb (oldest p.queue port).epoch p.acknowledged)

abbrev pub take_tests : Primary → ℕ → ℕ → ℕ → List Test
take_tests p held port destination =
    test out_of_range (primary_ok p && eqb held p.settings.q)
    ∷ test no_such_port (port_ok port)
    ∷ test nothing_free (may_leave p port)
    ∷ test no_room (leb (oldest p.queue port).length destination)
    ∷ []

unfoldable pub take_refusal : Primary → ℕ → ℕ → ℕ → ℕ
take_refusal p held port destination = refusal (take_tests p held port destination)

-- "That port's oldest packet goes out"
unfoldable pub take_reply : Primary → ℕ → ℕ → ℕ → Reply Primary
take_reply p held port destination =
    reply_of (take_refusal p held port destination) p (with_queue p (without_packet p.queue (oldest_at p.queue port)))
    (oldest p.queue port).length

unfoldable pub take_held : Primary → List ℕ → ℕ → List ℕ → List ℕ
take_held p held port destination =
    pick (take_refusal p (length held) port (length destination)) (without_packet_bytes p.queue (oldest_at p.queue port) held) held

-- "Drain and take fill the destination from its head; its later bytes stay"
unfoldable pub take_destination : Primary → List ℕ → ℕ → List ℕ → List ℕ
take_destination p held port destination =
    pick (take_refusal p (length held) port (length destination)) (put destination 0 (packet_bytes p.queue (oldest_at p.queue port) held)) destination
