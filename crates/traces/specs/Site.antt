-- What the code keeps, as the definitions say it. Assumes nothing.
use Rattle.std.specs.Prelude.{ℕ, ◌≤◌, ◌≡◌, length, take}
use Rattle.text.specs.Feed.{Answered}
use Rattle.script.specs.Site.{world_of}
use Rattle.traces.specs.declared.TraceSite.{TraceSite}
use Rattle.traces.specs.declared.TraceAnswer.{TraceAnswer}
use Rattle.traces.specs.Output.{Trace}

abbrev pub trace_of : TraceSite → Trace
trace_of t = record { world = world_of t.site; damaged = t.damaged; headed = t.headed }

-- the most bytes of a row, and of a line's answer
abbrev pub row_bytes : ℕ
row_bytes = 1000

abbrev pub answer_bytes : ℕ
answer_bytes = 1200

-- the answer of the definition, what is printed of it at the head of the array
pub record AnswerDone (a : Answered Trace) (r : TraceAnswer) : Type 0 where
  pub next : trace_of r.after ≡ a.next
  pub printed : take r.length r.bytes ≡ a.printed
  pub last : r.last ≡ a.last
  pub low : r.length ≤ answer_bytes
  pub size : length r.bytes ≡ answer_bytes
