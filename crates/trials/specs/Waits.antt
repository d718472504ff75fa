-- How long packets waited, by the calls of a trial. Assumes nothing.
use Rattle.std.specs.Prelude.{ℕ, ◌-◌, max, Bool, false, cond, ◌&&◌, List, [], ◌∷◌, ◌++◌, eqb}
use Rattle.rules.specs.World.{World, Call}
use Rattle.rules.specs.World as call
use Rattle.rules.specs.Step.{step}
use Rattle.script.specs.Pair.{used_port}
use Rattle.trials.specs.Part.{Made}

-- ---- the ticks of the accepted packets and of the accepted takes, in order
pub data OnPackets : Type 0 where
  sends : (port : ℕ) → OnPackets
  takes : (port : ℕ) → OnPackets
  neither : OnPackets

abbrev pub on_packets : Call → OnPackets
on_packets (call.packet port bytes) = sends port
on_packets (call.take port destination) = takes port
on_packets (call.memory_write page offset bytes) = neither
on_packets (call.disk_write block bytes) = neither
on_packets (call.checkpoint processor) = neither
on_packets (call.drain n destination) = neither
on_packets (call.ack n) = neither
on_packets call.primary_tick = neither
on_packets call.primary_sum = neither
on_packets (call.read n reply) = neither
on_packets (call.flush n) = neither
on_packets call.standby_tick = neither
on_packets call.activation = neither
on_packets (call.active_memory_write page offset bytes) = neither
on_packets (call.active_disk_write block bytes) = neither
on_packets (call.standby_sum order) = neither

-- of the port that trials use
abbrev pub is_packet : OnPackets → Bool
is_packet (sends port) = eqb port used_port
is_packet (takes port) = false
is_packet neither = false

abbrev pub is_take : OnPackets → Bool
is_take (sends port) = false
is_take (takes port) = eqb port used_port
is_take neither = false

unfoldable pub accepted_in : (OnPackets → Bool) → World → List Made → List ℕ
accepted_in is w [] = []
accepted_in is w (m ∷ ms) =
    let s = step w m.call in
    cond (is (on_packets m.call) && eqb s.outcome.number 0) (m.tick ∷ []) [] ++ accepted_in is s.next ms

-- ---- "the most ticks from a packet's sending to its take or the last tick begun, else 0". All are of one port, whose
-- oldest leaves (document 02, Job 6): so the n-th take is the n-th packet's
unfoldable pub waits : ℕ → List ℕ → List ℕ → List ℕ
waits end [] taken = []
waits end (i ∷ sent) [] = (end - i) ∷ waits end sent []
waits end (i ∷ sent) (j ∷ taken) = (j - i) ∷ waits end sent taken

unfoldable pub greatest : List ℕ → ℕ
greatest [] = 0
greatest (w ∷ ws) = max w (greatest ws)
