-- What `trace` prints for its input. Assumes nothing.
use Rattle.std.specs.Prelude.{ℕ, Bool, true, false, cond, ◌||◌, List, [], ◌++◌}
use Rattle.text.specs.Kept.{is_empty_line}
use Rattle.text.specs.Feed.{Answered, Program, output}
use Rattle.rules.specs.World.{World}
use Rattle.script.specs.Pair.{pair_start}
use Rattle.traces.specs.declared.TraceCommand.{TraceCommand}
use Rattle.traces.specs.declared.TraceLine.{TraceLine}
use Rattle.traces.specs.declared.LineFault.{LineFault}
use Rattle.traces.specs.Command.{trace_command_of, trace_command_of_line, traced, is_damage}
use Rattle.traces.specs.Fault.{no_trace_line, trace_line_with, trace_line_of, fault_of}
use Rattle.traces.specs.Words.{command_words, answer_words}
use Rattle.traces.specs.Row.{header_line, row_of}

-- what is kept between two lines: both ends and their link, whether a byte on the link was changed, and whether the header
-- line is printed
pub record Trace : Type 0 where
  pub world : World
  pub damaged : Bool
  pub headed : Bool

abbrev pub header_if : Bool → List ℕ
header_if headed = cond headed [] header_line

-- a command's answer: the header line before the first row, and the row
unfoldable pub trace_answer : Trace → TraceCommand → LineFault → Answered Trace
trace_answer t c fault =
    let d = traced t.world c in
    let damaged = t.damaged || is_damage c d in
    record {
      next = record { world = d.next; damaged = damaged; headed = true };
      printed = header_if t.headed ++ row_of (command_words c) (answer_words c fault d.outcome.number) d.outcome.value d.next damaged;
      last = d.last;
    }

-- of an input without a line the header line alone
abbrev pub finished : Trace → List ℕ
finished t = header_if t.headed

-- the program: a row for each line, up to the end or to `k`
abbrev pub trace_program : Program Trace TraceLine
trace_program =
    record {
      start = record { world = pair_start; damaged = false; headed = false };
      answer = λ t line. trace_answer t (trace_command_of line) (fault_of (trace_line_of line));
      no_line = no_trace_line;
      line_with = trace_line_with;
      is_empty_line = λ l. is_empty_line l.line;
      answer_kept = λ t l. trace_answer t (trace_command_of_line l.line) (fault_of l);
      finish = finished;
    }

abbrev pub trace_output : List ℕ → List ℕ
trace_output input = output trace_program input
