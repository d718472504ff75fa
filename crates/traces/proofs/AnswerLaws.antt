-- A line's answer is its command's, performed, and its row. Assumes nothing.
use Prim.Native.Nat.{ℕ, ◌+◌, ◌≤◌}
use mathlib.Core.Path.{◌≡◌, refl, sym, subst, ◌∙◌}
use mathlib.Core.Bool.{Bool, true, false, ◌||◌}
use mathlib.Core.List.{List, ◌++◌}
use native.Mathlib.Omega.{arith}
use lib.ListN.{length}
use Rattle.lists.specs.Part.{PutDone}
use Rattle.lists.proofs.PartLaws.{put-done-length}
use Rattle.text.specs.Feed.{Answered}
use Rattle.text.proofs.RunLaws.{taken-put}
use Rattle.script.specs.declared.Site.{Site}
use Rattle.script.specs.declared.Performed.{Performed}
use Rattle.script.specs.Pair.{Done, pair_start}
use Rattle.script.specs.Site.{world_of, done_of}
use Rattle.traces.specs.declared.TraceCommand.{TraceCommand}
use Rattle.traces.specs.declared.LineFault.{LineFault}
use Rattle.traces.specs.declared.TraceLine.{TraceLine}
use Rattle.traces.specs.declared.TraceSite.{TraceSite}
use Rattle.traces.specs.declared.TraceAnswer.{TraceAnswer}
use Rattle.traces.specs.Command.{trace_command_of_line, traced, is_damage}
use Rattle.traces.specs.Fault.{fault_of}
use Rattle.traces.specs.Words.{command_words, answer_words}
use Rattle.traces.specs.Row.{row_of}
use Rattle.traces.specs.Output.{Trace, header_if, trace_answer, trace_program}
use Rattle.traces.specs.Site.{trace_of, AnswerDone, answer_bytes}

-- before the first line
pub first-is : (s : Site) → world_of s ≡ pair_start → trace_of (record { site = s; damaged = false; headed = false }) ≡ trace_program.start
first-is s e = λ i. record { world = e i; damaged = false; headed = false }

-- the answer by what the command did
abbrev answer_of : Trace → TraceCommand → LineFault → Done → Answered Trace
answer_of t c fault d =
    record {
      next = record { world = d.next; damaged = t.damaged || is_damage c d; headed = true };
      printed = header_if t.headed ++ row_of (command_words c) (answer_words c fault d.outcome.number) d.outcome.value d.next (t.damaged || is_damage c d);
      last = d.last;
    }

module _ (t : TraceSite) (c : TraceCommand) (fault : LineFault) (p : Performed) (n : ℕ) (before bytes : List ℕ) (end : n ≤ answer_bytes) (room : length before ≡ answer_bytes) where
  abbrev text : Bool → List ℕ
  text damaged = header_if t.headed ++ row_of (command_words c) (answer_words c fault p.number) p.value (world_of p.site) damaged

  abbrev gives : Bool → TraceAnswer
  gives damaged = record { after = record { site = p.site; damaged = damaged; headed = true }; bytes = bytes; length = n; last = p.last }

  abbrev now-damaged : Bool
  now-damaged = t.damaged || is_damage c (done_of p)

  by-done : PutDone (text now-damaged) before 0 bytes n → AnswerDone (answer_of (trace_of t) c fault (done_of p)) (gives now-damaged)
  by-done d =
      let k : n ≡ 0 + length (text now-damaged) = d.position in
      record {
        next = refl;
        printed = taken-put (text now-damaged) before bytes n d;
        last = refl;
        low = end;
        size = put-done-length (text now-damaged) before bytes 0 n (omega arith) d ∙ room;
      }

  performed-is : (damaged : Bool) → done_of p ≡ traced (world_of t.site) c → damaged ≡ now-damaged → PutDone (text damaged) before 0 bytes n
      → AnswerDone (trace_answer (trace_of t) c fault) (gives damaged)
  unfolding trace_answer
  performed-is damaged does is d =
      let base = by-done (subst (λ (x : Bool). PutDone (text x) before 0 bytes n) is d) in
      let back = subst (λ (x : Bool). AnswerDone (answer_of (trace_of t) c fault (done_of p)) (gives x)) (sym is) base in
      subst (λ (x : Done). AnswerDone (answer_of (trace_of t) c fault x) (gives damaged)) does back

-- of a line: its command, why it is none, what the command did and what is printed of it
pub answer-is : (t : TraceSite) (l : TraceLine) (c : TraceCommand) (fault : LineFault) (p : Performed) (damaged : Bool) (n : ℕ) (before bytes : List ℕ)
    → c ≡ trace_command_of_line l.line → fault ≡ fault_of l → done_of p ≡ traced (world_of t.site) c → damaged ≡ (t.damaged || is_damage c (done_of p))
    → PutDone (header_if t.headed ++ row_of (command_words c) (answer_words c fault p.number) p.value (world_of p.site) damaged) before 0 bytes n
    → n ≤ answer_bytes → length before ≡ answer_bytes
    → AnswerDone (trace_program.answer_kept (trace_of t) l) (record { after = record { site = p.site; damaged = damaged; headed = true }; bytes = bytes; length = n; last = p.last })
answer-is t l c fault p damaged n before bytes is why does damage d end room =
    let r : TraceAnswer = record { after = record { site = p.site; damaged = damaged; headed = true }; bytes = bytes; length = n; last = p.last } in
    let a = performed-is t c fault p n before bytes end room damaged does damage d in
    let b = subst (λ (x : TraceCommand). AnswerDone (trace_answer (trace_of t) x fault) r) is a in
    subst (λ (x : LineFault). AnswerDone (trace_answer (trace_of t) (trace_command_of_line l.line) x) r) why b
