-- What the turns of the program come to. Assumes nothing.
use Rattle.std.specs.Prelude.{ℕ, ◌≡◌, true, not}
use mathlib.Core.List.{List, [], ◌∷◌, ◌++◌, flatten}
use Rattle.text.specs.Feed.{ended_lines, any_last, first_reading}
use Rattle.text.specs.Turns.{all_printed, all_more, ends_after, none_empty}
use Rattle.traces.specs.Output.{trace_program, trace_output}

-- what is claimed of the program over any parts of its input
pub record RunRight (parts : List (List ℕ)) : Type 0 where
  -- where the program has ended after these turns, all that it wrote is the output of all that it read
  pub ended : ends_after trace_program (first_reading trace_program) parts ≡ true → all_printed trace_program (first_reading trace_program) parts ≡ trace_output (flatten parts)
  -- an input in any parts, then its end: all that is written is the output of the whole input
  pub whole : none_empty parts ≡ true → all_printed trace_program (first_reading trace_program) (parts ++ [] ∷ []) ≡ trace_output (flatten parts)
  -- and it goes on reading exactly while none of the lines that have come was `k`
  pub more : none_empty parts ≡ true → all_more trace_program (first_reading trace_program) parts ≡ not (any_last trace_program trace_program.start (ended_lines (flatten parts)))
