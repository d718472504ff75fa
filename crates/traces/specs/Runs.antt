-- A trace without damage is a run of the two ends, so that demand 3 holds of it. Assumes nothing.
use Rattle.std.specs.Prelude.{ℕ, min, ◌≡◌, Bool, true, false, cond, ◌&&◌, List, [], ◌∷◌, ◌++◌, ltb, eqb, length, replicate}
use Rattle.text.specs.Line.{is_empty}
use Rattle.text.specs.declared.Line.{Line}
use Rattle.text.specs.Feed.{Reading, ended_lines, first_reading, fed_all}
use Rattle.rules.specs.World.{World, Call}
use Rattle.rules.specs.World as call
use Rattle.rules.specs.Step.{Outcome, step}
use Rattle.script.specs.declared.Command.{Command}
use Rattle.script.specs.declared.Command.TheVariants as command
use Rattle.script.specs.Command.{letter_of}
use Rattle.script.specs.Output.{printed, pair_program}
use Rattle.script.specs.Pair.{processor_of, zero_buffers, pair_settings, pair_start, first_record_length, drained, most_lent, used_port, ack_bytes}
use Rattle.runs.specs.Run.{Both, steps, run, start_both}
use Rattle.runs.specs.Cut.{Cut, counted_calls}
use Rattle.runs.specs.Demand3.{WholeRun}
use Rattle.traces.specs.declared.TraceCommand.{TraceCommand}
use Rattle.traces.specs.declared.TraceCommand.TheVariants.{Pair, Set, Tick}
use Rattle.traces.specs.Command.{trace_command_of, traced, is_damage}
use Rattle.traces.specs.Fault.{FaultRight, fault_of, trace_line_of}
use Rattle.traces.specs.Output.{Trace, header_if, trace_program}
use Rattle.traces.specs.Words.{command_words, answer_words}
use Rattle.traces.specs.Row.{row_of}
use Rattle.traces.specs.declared.TraceLine.{TraceLine}

-- ---- the calls of a command: none where there is nothing to move, to read or to set, and of a line that is no command

-- nothing is on the link, and nothing waits
abbrev pub nothing_there : World → Bool
nothing_there w = is_empty w.link && eqb w.primary.state.waiting 0

-- the drain, where the link is empty
abbrev pub drain_calls : World → List Call
drain_calls w = let n = first_record_length w in cond (is_empty w.link) (call.drain n (replicate n 0) ∷ []) []

abbrev pub move_calls : World → List Call
move_calls w = cond (nothing_there w) [] (drain_calls w ++ (call.read (length (drained w).link) (replicate ack_bytes 0) ∷ []))

abbrev pub acknowledge_calls : World → List Call
acknowledge_calls w = cond (is_empty w.acks) [] (call.ack ack_bytes ∷ [])

-- the flush is of all that is due after the ticks
abbrev pub takeover_calls : World → List Call
takeover_calls w =
    let w1 = (step w call.standby_tick).next in
    let w2 = (step w1 call.standby_tick).next in
    let w3 = (step w2 call.standby_tick).next in
    call.standby_tick ∷ call.standby_tick ∷ call.standby_tick ∷ call.flush w3.standby.state.slots.due ∷ call.activation ∷ []

abbrev pub pair_calls : World → Command → List Call
pair_calls w (command.Write p v) = call.memory_write p 0 (v ∷ []) ∷ []
pair_calls w (command.Disk b v) = call.disk_write b (replicate pair_settings.u v) ∷ []
pair_calls w (command.Send n) = call.packet used_port (replicate (min n most_lent) 0) ∷ []
pair_calls w (command.Close v) = call.checkpoint (processor_of v) ∷ []
pair_calls w command.Move = move_calls w
pair_calls w command.Acknowledge = acknowledge_calls w
pair_calls w command.Take = call.take used_port (replicate most_lent 0) ∷ []
pair_calls w command.Flush = call.flush 1 ∷ []
pair_calls w command.Takeover = takeover_calls w
pair_calls w command.Other = []

-- an `x` that finds its byte drains as `m` does; setting the byte is no call
abbrev pub set_calls : World → ℕ → List Call
set_calls w i = cond (nothing_there w) [] (cond (ltb i (length (drained w).link)) (drain_calls w) [])

abbrev pub calls_of : World → TraceCommand → List Call
calls_of w (Pair c) = pair_calls w c
calls_of w (Set i v) = set_calls w i
calls_of w Tick = call.primary_tick ∷ []

-- line after line, up to the end or to `k`
unfoldable pub calls_of_lines : World → List (List ℕ) → List Call
calls_of_lines w [] = []
calls_of_lines w (line ∷ lines) =
    let c = trace_command_of line in
    let d = traced w c in
    calls_of w c ++ cond d.last [] (calls_of_lines d.next lines)

-- ---- the calls of a command make of both ends what the command does, unless it puts another byte on the link
abbrev pub EveryCommand : Type 0
EveryCommand = (b : Both) (c : TraceCommand) → let d = traced b.world c in
    is_damage c d ≡ false → d.next ≡ (run steps pair_settings.u b (calls_of b.world c)).world

-- ---- a trace
abbrev pub start_pair : Both
start_pair = start_both pair_settings (processor_of 0) (zero_buffers pair_settings)

-- both ends are what these calls make of them, and demand 3 holds of the calls wherever the pair is cut
pub record IsRun (w : World) (calls : List Call) : Type 0 where
  pub world : w ≡ (run steps pair_settings.u start_pair calls).world
  pub anywhere : (cut : Cut) → WholeRun steps pair_settings start_pair (counted_calls cut calls)

-- after whichever input, while no byte on the link was changed: the calls are those of its lines
abbrev pub EveryTrace : Type 0
EveryTrace = (input : List ℕ) → let t = (fed_all trace_program (first_reading trace_program) input).state in
    t.damaged ≡ false → IsRun t.world (calls_of_lines pair_start (ended_lines input))

-- ---- a line of `pair` does what it does in `pair`, and its row has the number and the value that `pair` prints
pub record LikePair (t : Trace) (line : List ℕ) (c : Command) : Type 0 where
  pub next : (trace_program.answer t line).next.world ≡ (pair_program.answer t.world line).next
  pub last : (trace_program.answer t line).last ≡ (pair_program.answer t.world line).last
  pub damaged : (trace_program.answer t line).next.damaged ≡ t.damaged
  pub outcome : Outcome
  pub printed_is : (pair_program.answer t.world line).printed ≡ printed (letter_of c) outcome
  pub row_is : (trace_program.answer t line).printed
      ≡ header_if t.headed ++ row_of (command_words (Pair c)) (answer_words (Pair c) (fault_of (trace_line_of line)) outcome.number) outcome.value (pair_program.answer t.world line).next t.damaged

abbrev pub EveryPairLine : Type 0
EveryPairLine = (t : Trace) (line : List ℕ) (c : Command) → trace_command_of line ≡ Pair c → LikePair t line c

-- ---- a script of `pair` is run as `pair` runs it: while no line is an `x` or a `p`, both ends are the same after
-- whichever input, and the program ends where `pair` does
abbrev pub is_pairs : TraceCommand → Bool
is_pairs (Pair c) = true
is_pairs (Set i v) = false
is_pairs Tick = false

unfoldable pub only_pairs : List (List ℕ) → Bool
only_pairs [] = true
only_pairs (line ∷ lines) = is_pairs (trace_command_of line) && only_pairs lines

pub record SameAsPair (t : Reading Trace TraceLine) (p : Reading World Line) : Type 0 where
  pub world : t.state.world ≡ p.state
  pub over : t.over ≡ p.over
  pub undamaged : t.state.damaged ≡ false

abbrev pub EveryScript : Type 0
EveryScript = (input : List ℕ) → only_pairs (ended_lines input) ≡ true
    → SameAsPair (fed_all trace_program (first_reading trace_program) input) (fed_all pair_program (first_reading pair_program) input)

-- ---- what is said of a line that is no command is so
abbrev pub EveryFault : Type 0
EveryFault = (line : List ℕ) → trace_command_of line ≡ Pair command.Other → FaultRight (fault_of (trace_line_of line)) (trace_line_of line)
