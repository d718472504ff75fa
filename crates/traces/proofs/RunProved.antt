-- A trace without damage is the run of its commands' calls: demand 3 holds of it. Assumes nothing.
use Prim.Native.Nat.{ℕ}
use mathlib.Core.Path.{◌≡◌, refl, sym, ap, subst, ◌∙◌}
use mathlib.Core.Bool.{Bool, true, false, cond, ◌||◌, true≢false}
use mathlib.Core.List.{List, [], ◌∷◌, ◌++◌, append_assoc, append-nil, drop_last}
use lib.Dec.{eqb}
use Rattle.text.specs.Line.{split, with_first, newline}
use Rattle.text.specs.Kept.{kept_all}
use Rattle.text.specs.Feed.{Program, Reading, reading, ended_lines, fed, fed_all}
use Rattle.text.proofs.SplitLaws.{split-separator, split-other, parts}
use Rattle.text.proofs.FeedPartLaws.{fed-over, fed-other}
use Rattle.records.specs.Kind.{unit_ok, record_length, body_length}
use Rattle.settings.specs.Range.{settings_ok, least_stream}
use Rattle.rules.specs.Start.{start_refusal, start_lent_ok}
use Rattle.rules.specs.World.{World, Call, start_number}
use Rattle.script.specs.Pair.{processor_of, zero_buffers, pair_settings, pair_start}
use Rattle.runs.specs.Run.{Both, steps, run}
use Rattle.runs.proofs.PlainLaws.{run-append}
use Rattle.runs.proofs.Proved.{demand-3}
use Rattle.traces.specs.declared.TraceCommand.{TraceCommand}
use Rattle.traces.specs.declared.TraceLine.{TraceLine}
use Rattle.traces.specs.declared.LineFault.{LineFault}
use Rattle.traces.specs.Command.{trace_command_of_line, traced, is_damage}
use Rattle.traces.specs.Fault.{no_trace_line, trace_line_with, fault_of}
use Rattle.traces.specs.Output.{Trace, trace_answer, trace_program}
use Rattle.traces.specs.Runs.{calls_of, calls_of_lines, start_pair, EveryTrace}
use Rattle.traces.proofs.KeptLaws.{kept-command}
use Rattle.traces.proofs.CallLaws.{every-command}

-- ---- a newline, of whichever program: a line has ended, and is answered
pub ended-more : (b : ℕ) (bs : List ℕ) → eqb b newline ≡ true → ended_lines (b ∷ bs) ≡ [] ∷ ended_lines bs
ended-more b bs e = let p = parts newline bs in ap drop_last (split-separator newline b bs e) ∙ not_last (split newline bs) p.head p.rest p.is
  where
    not_last : (ps : List (List ℕ)) (q : List ℕ) (qs : List (List ℕ)) → ps ≡ q ∷ qs → drop_last ([] ∷ ps) ≡ [] ∷ drop_last ps
    not_last ps q qs e = rw e

pub fed-ended : {S L : Type 0} (p : Program S L) (s : S) (l : L) (b : ℕ) → eqb b newline ≡ true
    → let a = p.answer_kept s l in fed p (reading s l false) b ≡ reading a.next p.no_line a.last
unfolding fed
fed-ended p s l b e = rw e

-- ---- what is known of a trace: unless there is damage, it is the run of these calls
abbrev pair_after : List Call → Both
pair_after calls = run steps pair_settings.u start_pair calls

abbrev Known : Trace → List Call → Type 0
Known t calls = t.damaged ≡ false → t.world ≡ (pair_after calls).world

same : (t u : Trace) (calls more : List Call) → t ≡ u → calls ≡ more → Known u more → Known t calls
same t u calls more p q k e =
    ap (λ (x : Trace). x.world) p ∙ k (ap (λ (x : Trace). x.damaged) (sym p) ∙ e) ∙ ap (λ (cs : List Call). (pair_after cs).world) (sym q)

neither : (a b : Bool) → (a || b) ≡ false → (a ≡ false) × (b ≡ false)
neither true b e = absurd (true≢false e)
neither false b e = (refl, e)

-- ---- a command more
known-answer : (t : Trace) (c : TraceCommand) (fault : LineFault) (calls : List Call) → Known t calls → Known (trace_answer t c fault).next (calls ++ calls_of t.world c)
unfolding trace_answer
known-answer t c fault calls k e =
    let p = neither t.damaged (is_damage c (traced t.world c)) e in
    let b = pair_after calls in
    subst (λ (w : World). is_damage c (traced w c) ≡ false → (traced w c).next ≡ (run steps pair_settings.u b (calls_of w c)).world) (sym (k p.0)) (every-command b c) p.1
    ∙ sym (ap (λ (x : Both). x.world) (run-append steps pair_settings.u calls (calls_of t.world c) start_pair))

-- ---- the calls of the lines from one under way on: l is what is kept of the first
abbrev calls_from : World → TraceLine → List (List ℕ) → List Call
calls_from w l [] = []
calls_from w l (line ∷ lines) =
    let c = trace_command_of_line (kept_all trace_line_with l line).line in
    let d = traced w c in
    calls_of w c ++ cond d.last [] (calls_of_lines d.next lines)

from-none : (w : World) (lines : List (List ℕ)) → calls_from w no_trace_line lines ≡ calls_of_lines w lines
unfolding calls_of_lines
from-none w [] = refl
from-none w (line ∷ lines) =
    ap (λ (c : TraceCommand). let d = traced w c in calls_of w c ++ cond d.last [] (calls_of_lines d.next lines)) (kept-command line)

from-other : (w : World) (l : TraceLine) (b : ℕ) (ps : List (List ℕ)) → calls_from w l (drop_last (with_first b ps)) ≡ calls_from w (trace_line_with l b) (drop_last ps)
unfolding kept_all
from-other w l b [] = refl
from-other w l b (p ∷ []) = refl
from-other w l b (p ∷ q ∷ ps) = refl

-- ---- byte by byte
abbrev From : List ℕ → Type 0
From input = (t : Trace) (l : TraceLine) (calls : List Call) → Known t calls
    → Known (fed_all trace_program (reading t l false) input).state (calls ++ calls_from t.world l (ended_lines input))

from_end : From []
unfolding fed_all split
from_end t l calls k = subst (Known t) (sym (append-nil calls)) k

module _ (b : ℕ) (bs : List ℕ) (next : From bs) where
  -- the line under way is answered, and the lines behind it, unless it is the last
  rest : (last : Bool) (t : Trace) (calls : List Call) → Known t calls
      → Known (fed_all trace_program (reading t no_trace_line last) bs).state (calls ++ cond last [] (calls_of_lines t.world (ended_lines bs)))
  rest true t calls k = same _ t _ calls (ap (λ (r : Reading Trace TraceLine). r.state) (fed-over trace_program t no_trace_line bs)) (append-nil calls) k
  rest false t calls k = subst (λ (cs : List Call). Known (fed_all trace_program (reading t no_trace_line false) bs).state (calls ++ cs)) (from-none t.world (ended_lines bs)) (next t no_trace_line calls k)

  at-newline : eqb b newline ≡ true → From (b ∷ bs)
  unfolding fed_all kept_all trace_answer
  at-newline e t l calls k =
      let c = trace_command_of_line l.line in
      let d = traced t.world c in
      let a = trace_answer t c (fault_of l) in
      same _ _ _ _ (ap (λ (r : Reading Trace TraceLine). (fed_all trace_program r bs).state) (fed-ended trace_program t l b e))
      (ap (λ (lines : List (List ℕ)). calls ++ calls_from t.world l lines) (ended-more b bs e)
      ∙ sym (append_assoc calls (calls_of t.world c) (cond d.last [] (calls_of_lines d.next (ended_lines bs)))))
      (rest a.last a.next (calls ++ calls_of t.world c) (known-answer t c (fault_of l) calls k))

  at_other : eqb b newline ≡ false → From (b ∷ bs)
  unfolding fed_all
  at_other e t l calls k =
      same _ _ _ _ (ap (λ (r : Reading Trace TraceLine). (fed_all trace_program r bs).state) (fed-other trace_program t l b e))
      (ap (λ (cs : List Call). calls ++ cs) (ap (λ (ps : List (List ℕ)). calls_from t.world l (drop_last ps)) (split-other newline b bs e) ∙ from-other t.world l b (split newline bs)))
      (next t (trace_line_with l b) calls k)

  at_byte : (n : Bool) → eqb b newline ≡ n → From (b ∷ bs)
  at_byte true e = at-newline e
  at_byte false e = at_other e

from-any : (input : List ℕ) → From input
from-any [] = from_end
from-any (b ∷ bs) = at_byte b bs (from-any bs) (eqb b newline) refl

-- ---- from the start

-- the settings and the buffers of `pair` are accepted
start-accepted : start_number pair_settings (zero_buffers pair_settings) ≡ 0
unfolding start_refusal start_lent_ok settings_ok least_stream unit_ok record_length body_length
start-accepted = refl

pub every-trace : EveryTrace
every-trace input e =
    let calls = calls_of_lines pair_start (ended_lines input) in
    record {
      world = from-any input trace_program.start no_trace_line [] (λ z. refl) e ∙ ap (λ (cs : List Call). (pair_after cs).world) (from-none pair_start (ended_lines input));
      anywhere = λ cut. demand-3 pair_settings (processor_of 0) (zero_buffers pair_settings) start-accepted calls cut;
    }
