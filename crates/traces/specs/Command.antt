-- The commands of `trace`: those of `pair`, and two more. Assumes nothing.
use Rattle.std.specs.Prelude.{ℕ, Bool, false, cond, not, ◌&&◌, List, [], ◌∷◌, ltb, eqb, length, get_or}
use Rattle.lists.specs.Part.{put}
use Rattle.text.specs.Line.{is_empty, words_of, word}
use Rattle.text.specs.Decimal.{is_number, value_of, most_number}
use Rattle.text.specs.declared.Line.{Line}
use Rattle.text.specs.Kept.{number_is}
use Rattle.records.specs.Number.{out_of_range, nothing_free}
use Rattle.rules.specs.World.{World}
use Rattle.rules.specs.World as call
use Rattle.rules.specs.Step.{step, outcome}
use Rattle.script.specs.Command.{most_byte, is_line, is_kept_line, command_of, command_of_line, letter_of}
use Rattle.script.specs.Pair.{Done, done, refused, drained, perform}
use Rattle.traces.specs.declared.TraceCommand.{TraceCommand}
use Rattle.traces.specs.declared.TraceCommand.TheVariants.{Pair, Set, Tick}

-- the two letters more
abbrev pub letter_x : ℕ
letter_x = 120

abbrev pub letter_p : ℕ
letter_p = 112

-- `x i v`, `p`, or a line of `pair`
unfoldable pub trace_command_of : List ℕ → TraceCommand
trace_command_of line =
    let ws = words_of line in
    cond (is_line letter_x 3 ws && is_number most_number (word ws 1) && is_number most_byte (word ws 2)) (Set (value_of (word ws 1)) (value_of (word ws 2)))
    (cond (is_line letter_p 1 ws) Tick (Pair (command_of line)))

-- the same, of what is kept of a line
unfoldable pub trace_command_of_line : Line → TraceCommand
trace_command_of_line l =
    cond (is_kept_line letter_x 3 l && number_is most_number l.first && number_is most_byte l.second) (Set l.first.value l.second.value)
    (cond (is_kept_line letter_p 1 l) Tick (Pair (command_of_line l)))

abbrev pub trace_letter_of : TraceCommand → ℕ
trace_letter_of (Pair c) = letter_of c
trace_letter_of (Set i v) = letter_x
trace_letter_of Tick = letter_p

-- ---- `x i v`: byte i of what the next `m` reads becomes v; an empty link gets its record first, as `m` drains it. With
-- nothing there it is 18, with no byte i there 1, and the value is the byte that was there
abbrev pub with_link : World → List ℕ → World
with_link w link = record { primary = w.primary; standby = w.standby; link = link; acks = w.acks }

unfoldable pub set_done : World → ℕ → ℕ → Done
set_done w i v =
    let w' = drained w in
    cond (is_empty w.link && eqb w.primary.state.waiting 0) (refused w nothing_free)
    (cond (ltb i (length w'.link))
    (record { next = with_link w' (put w'.link i (v ∷ [])); outcome = outcome 0 (get_or w'.link i 0); last = false })
    (refused w out_of_range))

-- `p`: a tick of the primary
unfoldable pub traced : World → TraceCommand → Done
traced w (Pair c) = perform w c
traced w (Set i v) = set_done w i v
traced w Tick = done (step w call.primary_tick)

-- whether it is an `x` that put another byte on the link: then the run is no longer one of document 01's
abbrev pub is_damage : TraceCommand → Done → Bool
is_damage (Pair c) d = false
is_damage (Set i v) d = eqb d.outcome.number 0 && not (eqb d.outcome.value v)
is_damage Tick d = false
