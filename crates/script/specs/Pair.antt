-- What each command does: the two ends at the settings of `pair`, and their link. Assumes nothing.
use Rattle.std.specs.Prelude.{ℕ, ◌+◌, ◌-◌, ◌*◌, min, Bool, true, false, cond, ◌&&◌, [], ◌∷◌, eqb, length, replicate}
use Rattle.std.proofs.lemmas.List.{length-replicate}
use Rattle.lists.specs.LittleEndian.{le_at}
use Rattle.text.specs.Line.{is_empty}
use Rattle.records.specs.Kind.{ACK, header_length, processor_bytes, record_length}
use Rattle.records.specs.Area.{area_length}
use Rattle.settings.specs.declared.Settings.{Settings}
use Rattle.records.specs.Number.{out_of_range, nothing_free}
use Rattle.settings.specs.Range.{most_packet_bytes}
use Rattle.marks.specs.Mark.{words_for}
use Rattle.rules.specs.World.{World, Processor, Buffers, start_world}
use Rattle.rules.specs.World as call
use Rattle.rules.specs.Step.{Outcome, Stepped, step, outcome}
use Rattle.script.specs.declared.Command.{Command}
use Rattle.script.specs.declared.Command.TheVariants as command

-- "Settings: U 64, M 4, D 4, B 2, S 4, Q 256, L 1,024", and this T
abbrev pub settings_with : ℕ → Settings
settings_with t = record { u = 64; m = 4; d = 4; b = 2; s = 4; q = 256; l = 1024; t = t }

-- "T 3"
abbrev pub pair_settings : Settings
pair_settings = settings_with 3

-- a processor state "all v"
abbrev pub processor_of : ℕ → Processor
processor_of v = record { bytes = replicate processor_bytes v; size = length-replicate processor_bytes v }

-- buffers of the lengths that settings ask, all zeros
abbrev pub zero_buffers : Settings → Buffers
zero_buffers g =
    record {
      memory = replicate (g.m * g.u) 0;
      disk = replicate (g.d * g.u) 0;
      dirty = replicate (words_for g.m) 0;
      held = replicate g.q 0;
      stream = replicate g.l 0;
      standby_memory = replicate (g.m * g.u) 0;
      standby_disk = replicate (g.d * g.u) 0;
      staged_pages = replicate (g.m * g.u) 0;
      staged_marks = replicate (words_for g.m) 0;
      staged_blocks = replicate (g.s * g.u) 0;
      area = replicate area_length 0;
    }

-- "all zeros at start"
abbrev pub started_with : ℕ → World
started_with t = start_world (settings_with t) (processor_of 0) (zero_buffers (settings_with t))

abbrev pub pair_start : World
pair_start = started_with 3

-- the world after a command, what is printed of it, and whether it is the last
pub record Done : Type 0 where
  pub next : World
  pub outcome : Outcome
  pub last : Bool

abbrev pub done : Stepped → Done
done s = record { next = s.next; outcome = s.outcome; last = false }

abbrev pub refused : World → ℕ → Done
refused w number = record { next = w; outcome = outcome number 0; last = false }

-- a packet longer than 1,514 is refused whatever its length: so many bytes are lent at the most
abbrev pub most_lent : ℕ
most_lent = most_packet_bytes + 1

-- "`pair` uses port 0" (document 02, Job 6)
abbrev pub used_port : ℕ
used_port = 0

-- "drain one whole record": the bytes of the record at the head of the stream
abbrev pub first_record_length : World → ℕ
first_record_length w = header_length + le_at 2 w.primary.stream 0

-- the link, with a record drained into it where it is empty
abbrev pub drained : World → World
drained w =
    let n = first_record_length w in
    cond (is_empty w.link) (step w (call.drain n (replicate n 0))).next w

-- the bytes of the link: what is left on it and all that the stream may hold
abbrev pub link_bytes : ℕ
link_bytes = 2 * pair_settings.l

-- what is free of it
abbrev pub link_room : World → ℕ
link_room w = link_bytes - length w.link

-- the link, with up to n bytes drained into what is free of it
abbrev pub drained_bytes : ℕ → World → World
drained_bytes n w = (step w (call.drain n (replicate (link_room w) 0))).next

abbrev pub ack_bytes : ℕ
ack_bytes = record_length pair_settings.u ACK

-- "drain one whole record and read it; a refused one is read again by the next `m`"; "with nothing there is 18"
unfoldable pub move_done : World → Done
move_done w =
    cond (is_empty w.link && eqb w.primary.state.waiting 0) (refused w nothing_free)
    (let w' = drained w in done (step w' (call.read (length w'.link) (replicate ack_bytes 0))))

-- "next ACK"
unfoldable pub acknowledge_done : World → Done
acknowledge_done w = cond (is_empty w.acks) (refused w nothing_free) (done (step w (call.ack ack_bytes)))

-- "three standby ticks, flush of all due, activation; the end"
unfoldable pub takeover_done : World → Done
takeover_done w =
    let w1 = (step w call.standby_tick).next in
    let w2 = (step w1 call.standby_tick).next in
    let w3 = (step w2 call.standby_tick).next in
    let w4 = (step w3 (call.flush w3.standby.state.slots.due)).next in
    let s = step w4 call.activation in
    record { next = s.next; outcome = s.outcome; last = true }

unfoldable pub perform : World → Command → Done
perform w (command.Write p v) = done (step w (call.memory_write p 0 (v ∷ [])))
perform w (command.Disk b v) = done (step w (call.disk_write b (replicate pair_settings.u v)))
perform w (command.Send n) = done (step w (call.packet used_port (replicate (min n most_lent) 0)))
perform w (command.Close v) = done (step w (call.checkpoint (processor_of v)))
perform w command.Move = move_done w
perform w command.Acknowledge = acknowledge_done w
perform w command.Take = done (step w (call.take used_port (replicate most_lent 0)))
perform w command.Flush = done (step w (call.flush 1))
perform w command.Takeover = takeover_done w
perform w command.Other = refused w out_of_range
