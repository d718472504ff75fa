-- A line of `pair` does in `trace` what it does in `pair`, and so does a script. Assumes nothing.
use Prim.Native.Nat.{ℕ}
use mathlib.Core.Path.{◌≡◌, refl, sym, ap, subst, ◌∙◌}
use mathlib.Core.Bool.{Bool, true, false, cond, ◌&&◌, ◌||◌, false≢true}
use mathlib.Core.List.{List, [], ◌∷◌, ◌++◌, drop_last}
use native.Mathlib.Omega.{arith}
use lib.Dec.{eqb}
use Rattle.lists.proofs.TestLaws.{both}
use Rattle.text.specs.Line.{split, with_first, newline, words_of, word}
use Rattle.text.specs.Decimal.{is_number, value_of, most_number}
use Rattle.text.specs.declared.Line.{Line}
use Rattle.text.specs.Kept.{no_line, kept_all, number_is}
use Rattle.text.specs.Feed.{Answered, Reading, reading, ended_lines, fed, fed_all}
use Rattle.text.proofs.SplitLaws.{split-other}
use Rattle.text.proofs.FeedPartLaws.{fed-over, fed-other}
use Rattle.rules.specs.World.{World}
use Rattle.script.specs.declared.Command.{Command}
use Rattle.script.specs.declared.Command.TheVariants.{Other}
use Rattle.script.specs.Command.{most_byte, is_line, is_kept_line, command_of, command_of_line, letter_of}
use Rattle.script.specs.Pair.{perform, pair_start}
use Rattle.script.specs.Output.{printed, pair_program}
use Rattle.traces.specs.declared.TraceCommand.{TraceCommand}
use Rattle.traces.specs.declared.TraceCommand.TheVariants.{Pair, Set, Tick}
use Rattle.traces.specs.declared.TraceLine.{TraceLine}
use Rattle.traces.specs.declared.LineFault.{LineFault}
use Rattle.traces.specs.Command.{letter_x, letter_p, trace_command_of, trace_command_of_line, traced, is_damage}
use Rattle.traces.specs.Fault.{no_trace_line, trace_line_with, trace_line_of, fault_of}
use Rattle.traces.specs.Words.{command_words, answer_words}
use Rattle.traces.specs.Row.{row_of}
use Rattle.traces.specs.Output.{Trace, header_if, trace_answer, trace_program}
use Rattle.traces.specs.Runs.{EveryPairLine, is_pairs, only_pairs, SameAsPair, EveryScript}
use Rattle.traces.proofs.KeptLaws.{kept-command}
use Rattle.traces.proofs.RunProved.{ended-more, fed-ended}

-- which of the three a command is
abbrev sort : TraceCommand → ℕ
sort (Pair c) = 0
sort (Set i v) = 1
sort Tick = 2

-- of the two commands more neither is one of `pair`'s
pair_is : (s p : Bool) (i v : ℕ) (c d : Command) → cond s (Set i v) (cond p Tick (Pair d)) ≡ Pair c → cond s (Set i v) (cond p Tick (Pair d)) ≡ Pair d
pair_is true p i v c d e = let z : ◌≡◌ {A = ℕ} 1 0 = ap sort e in absurd (omega arith)
pair_is false true i v c d e = let z : ◌≡◌ {A = ℕ} 2 0 = ap sort e in absurd (omega arith)
pair_is false false i v c d e = refl

pub pair-command : (line : List ℕ) (c : Command) → trace_command_of line ≡ Pair c → trace_command_of line ≡ Pair (command_of line)
unfolding trace_command_of
pair-command line c e =
    let ws = words_of line in
    pair_is (is_line letter_x 3 ws && is_number most_number (word ws 1) && is_number most_byte (word ws 2)) (is_line letter_p 1 ws) (value_of (word ws 1)) (value_of (word ws 2)) c (command_of line) e

or-false : (a : Bool) → (a || false) ≡ a
or-false true = refl
or-false false = refl

abbrev command_in : TraceCommand → Command
command_in (Pair c) = c
command_in (Set i v) = Other
command_in Tick = Other

-- the row of a command at a trace
row_is : (t : Trace) (fault : LineFault) (c : Command) → (trace_answer t (Pair c) fault).printed
    ≡ header_if t.headed ++ row_of (command_words (Pair c)) (answer_words (Pair c) fault (perform t.world c).outcome.number) (perform t.world c).outcome.value (perform t.world c).next t.damaged
unfolding trace_answer traced
row_is t fault c = rw (or-false t.damaged)

pub every-pair-line : EveryPairLine
unfolding trace_answer traced
every-pair-line t line c e =
    let is = pair-command line c e in
    let same : command_of line ≡ c = ap command_in (sym is ∙ e) in
    record {
      next = ap (λ (x : TraceCommand). (traced t.world x).next) is;
      last = ap (λ (x : TraceCommand). (traced t.world x).last) is;
      damaged = ap (λ (x : TraceCommand). t.damaged || is_damage x (traced t.world x)) is ∙ or-false t.damaged;
      outcome = (perform t.world c).outcome;
      printed_is = ap (λ (x : Command). printed (letter_of x) (perform t.world x).outcome) same;
      row_is = ap (λ (x : TraceCommand). (trace_answer t x (fault_of (trace_line_of line))).printed) e ∙ row_is t (fault_of (trace_line_of line)) c
          ∙ ap (λ (x : Command). header_if t.headed ++ row_of (command_words (Pair c)) (answer_words (Pair c) (fault_of (trace_line_of line)) (perform t.world c).outcome.number) (perform t.world c).outcome.value (perform t.world x).next t.damaged) (sym same);
    }

-- ---- whole scripts
pair-kept : (l : Line) → is_pairs (trace_command_of_line l) ≡ true → trace_command_of_line l ≡ Pair (command_of_line l)
unfolding trace_command_of_line
pair-kept l e =
    by (is_kept_line letter_x 3 l && number_is most_number l.first && number_is most_byte l.second) (is_kept_line letter_p 1 l) l.first.value l.second.value (command_of_line l) e
  where
    by : (s p : Bool) (i v : ℕ) (d : Command) → is_pairs (cond s (Set i v) (cond p Tick (Pair d))) ≡ true → cond s (Set i v) (cond p Tick (Pair d)) ≡ Pair d
    by true p i v d e = absurd (false≢true e)
    by false true i v d e = absurd (false≢true e)
    by false false i v d e = refl

-- of the lines from one under way on
abbrev only_from : TraceLine → List (List ℕ) → Bool
only_from l [] = true
only_from l (line ∷ lines) = is_pairs (trace_command_of_line (kept_all trace_line_with l line).line) && only_pairs lines

from-none : (lines : List (List ℕ)) → only_from no_trace_line lines ≡ only_pairs lines
unfolding only_pairs
from-none [] = refl
from-none (line ∷ lines) = ap (λ (c : TraceCommand). is_pairs c && only_pairs lines) (kept-command line)

from-other : (l : TraceLine) (b : ℕ) (ps : List (List ℕ)) → only_from l (drop_last (with_first b ps)) ≡ only_from (trace_line_with l b) (drop_last ps)
unfolding kept_all
from-other l b [] = refl
from-other l b (p ∷ []) = refl
from-other l b (p ∷ q ∷ ps) = refl

abbrev From : List ℕ → Type 0
From input = (t : Trace) (l : TraceLine) (w : World) → t.world ≡ w → t.damaged ≡ false → only_from l (ended_lines input) ≡ true
    → SameAsPair (fed_all trace_program (reading t l false) input) (fed_all pair_program (reading w l.line false) input)

from_end : From []
unfolding fed_all
from_end t l w e d o = record { world = e; over = refl; undamaged = d }

module _ (b : ℕ) (bs : List ℕ) (next : From bs) where
  rest : (last : Bool) (t : Trace) (w : World) → t.world ≡ w → t.damaged ≡ false → only_pairs (ended_lines bs) ≡ true
      → SameAsPair (fed_all trace_program (reading t no_trace_line last) bs) (fed_all pair_program (reading w no_line last) bs)
  rest true t w e d o = rw (fed-over trace_program t no_trace_line bs, fed-over pair_program w no_line bs) (record { world = e; over = refl; undamaged = d })
  rest false t w e d o = next t no_trace_line w e d (from-none (ended_lines bs) ∙ o)

  at-newline : eqb b newline ≡ true → From (b ∷ bs)
  unfolding fed_all kept_all trace_answer traced
  at-newline h t l w e d o =
      let q = both (is_pairs (trace_command_of_line l.line)) (only_pairs (ended_lines bs)) (sym (ap (only_from l) (ended-more b bs h)) ∙ o) in
      let is = pair-kept l.line q.0 in
      let c = command_of_line l.line in
      let a : Answered Trace = trace_answer t (trace_command_of_line l.line) (fault_of l) in
      let world : a.next.world ≡ (perform w c).next = ap (λ (x : TraceCommand). (traced t.world x).next) is ∙ ap (λ (v : World). (perform v c).next) e in
      let last : a.last ≡ (perform w c).last = ap (λ (x : TraceCommand). (traced t.world x).last) is ∙ ap (λ (v : World). (perform v c).last) e in
      let whole : a.next.damaged ≡ false = ap (λ (x : TraceCommand). t.damaged || is_damage x (traced t.world x)) is ∙ or-false t.damaged ∙ d in
      subst (λ (r : Reading Trace TraceLine). SameAsPair (fed_all trace_program r bs) (fed_all pair_program (fed pair_program (reading w l.line false) b) bs)) (sym (fed-ended trace_program t l b h))
      (subst (λ (r : Reading World Line). SameAsPair (fed_all trace_program (reading a.next no_trace_line a.last) bs) (fed_all pair_program r bs)) (sym (fed-ended pair_program w l.line b h))
      (subst (λ (x : Bool). SameAsPair (fed_all trace_program (reading a.next no_trace_line a.last) bs) (fed_all pair_program (reading (perform w c).next no_line x) bs)) last
      (rest a.last a.next (perform w c).next world whole q.1)))

  at_other : eqb b newline ≡ false → From (b ∷ bs)
  unfolding fed_all
  at_other h t l w e d o =
      subst (λ (r : Reading Trace TraceLine). SameAsPair (fed_all trace_program r bs) (fed_all pair_program (fed pair_program (reading w l.line false) b) bs)) (sym (fed-other trace_program t l b h))
      (subst (λ (r : Reading World Line). SameAsPair (fed_all trace_program (reading t (trace_line_with l b) false) bs) (fed_all pair_program r bs)) (sym (fed-other pair_program w l.line b h))
      (next t (trace_line_with l b) w e d (sym (ap (λ (ps : List (List ℕ)). only_from l (drop_last ps)) (split-other newline b bs h) ∙ from-other l b (split newline bs)) ∙ o)))

  at_byte : (n : Bool) → eqb b newline ≡ n → From (b ∷ bs)
  at_byte true e = at-newline e
  at_byte false e = at_other e

from-any : (input : List ℕ) → From input
from-any [] = from_end
from-any (b ∷ bs) = at_byte b bs (from-any bs) (eqb b newline) refl

pub every-script : EveryScript
every-script input o = from-any input trace_program.start no_trace_line pair_start refl refl (from-none (ended_lines input) ∙ o)
