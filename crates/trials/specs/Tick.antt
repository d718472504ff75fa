-- A tick, part by part in document 02's order, at the settings of `pair`. Assumes nothing.
use Rattle.std.specs.Prelude.{ℕ, suc, ◌%◌, Bool, not, List, [], ◌∷◌, ◌++◌, eqb, length, replicate}
use Rattle.records.specs.Read.{cut_short}
use Rattle.records.specs.Number.{nothing_free}
use Rattle.text.specs.Line.{is_empty}
use Rattle.rules.specs.StandbyState.{is_receiving}
use Rattle.rules.specs.World.{Call}
use Rattle.rules.specs.World as call
use Rattle.rules.specs.Step.{step}
use Rattle.script.specs.Command.{letter_w, letter_d, letter_s, letter_c, letter_m, letter_a, letter_t, letter_k}
use Rattle.script.specs.Pair.{pair_settings, processor_of, most_lent, used_port, ack_bytes, link_room}
use Rattle.trials.specs.Trial.{Trial, with_tick, with_sent, with_taken}
use Rattle.trials.specs.Part.{Part, note, must_note, must, quiet, last, then, in_order, when, each, whilst, bounded}

-- "filled as `w` and `d` do with 1"
abbrev pub filled : ℕ
filled = 1

-- ---- "a count n means pages or blocks 0 to n less 1, .. or n packets of 1 byte"
abbrev pub write_page : ℕ → Part
write_page p = must letter_w (λ t. call.memory_write p 0 (filled ∷ []))

abbrev pub write_block : ℕ → Part
write_block b = must letter_d (λ t. call.disk_write b (replicate pair_settings.u filled))

abbrev pub send_packet : ℕ → Part
send_packet i = must_note letter_s (λ t. call.packet used_port (0 ∷ [])) with_sent

-- ---- "a checkpoint at multiples of the interval"; its processor state, which no output shows, is that of `c 1`
abbrev pub at_interval : Trial → Bool
at_interval t = eqb (t.tick % t.interval) 0

abbrev pub checkpoint : Part
checkpoint = when at_interval (must letter_c (λ t. call.checkpoint (processor_of filled)))

-- ---- "the link's bytes", into what is free of the link, which all waiting fits (Runs: fits)
abbrev pub drain_link : Part
drain_link = quiet (λ t. call.drain t.rate (replicate (link_room t.world) 0))

-- ---- "reading": all unread bytes, again and again, until they are cut short
abbrev pub read_call : Trial → Call
read_call t = call.read (length t.world.link) (replicate ack_bytes 0)

abbrev pub reads_on : Trial → Bool
reads_on t = not (eqb (step t.world (read_call t)).outcome.number cut_short)

abbrev pub read_turn : Part
read_turn = must letter_m read_call

abbrev pub reading : Part
reading = bounded (λ t. suc (length t.world.link)) (whilst reads_on read_turn)

-- ---- "flush of all due"
abbrev pub flush : Part
flush = quiet (λ t. call.flush t.world.standby.state.slots.due)

-- ---- "ACKs", until none is unread
abbrev pub acks_unread : Trial → Bool
acks_unread t = not (is_empty t.world.acks)

abbrev pub ack_turn : Part
ack_turn = must letter_a (λ t. call.ack ack_bytes)

abbrev pub acks : Part
acks = bounded (λ t. suc (length t.world.acks)) (whilst acks_unread ack_turn)

-- ---- "both detectors", and a takeover, which ends the run
abbrev pub detectors : Part
detectors = then (quiet (λ t. call.primary_tick)) (quiet (λ t. call.standby_tick))

abbrev pub took_over : Trial → Bool
took_over t = not (is_receiving t.world.standby.state.mode)

abbrev pub taken_over : Part
taken_over = then flush (last letter_k (λ t. call.activation))

abbrev pub takeover : Part
takeover = when took_over taken_over

-- ---- "takes", until 18
abbrev pub take_call : Trial → Call
take_call t = call.take used_port (replicate most_lent 0)

abbrev pub may_take : Trial → Bool
may_take t = not (eqb (step t.world (take_call t)).outcome.number nothing_free)

abbrev pub take_turn : Part
take_turn = must_note letter_t take_call with_taken

abbrev pub takes : Part
takes = bounded (λ t. suc t.world.primary.state.queue.count) (whilst may_take take_turn)

-- ---- "Within a tick come pages, blocks, packets, a checkpoint .., the link's bytes, reading, flush of all due, ACKs, both
-- detectors, takes"
abbrev pub guest_parts : ℕ → ℕ → ℕ → List Part
guest_parts pages blocks packets = each write_page 0 pages ∷ each write_block 0 blocks ∷ each send_packet 0 packets ∷ checkpoint ∷ []

abbrev pub tick_parts : ℕ → ℕ → ℕ → List Part
tick_parts pages blocks packets = guest_parts pages blocks packets ++ (drain_link ∷ reading ∷ flush ∷ acks ∷ detectors ∷ takeover ∷ takes ∷ [])

unfoldable pub tick : ℕ → ℕ → ℕ → Part
tick pages blocks packets = in_order (note with_tick) (tick_parts pages blocks packets)
