-- What is kept of a line: as `pair` keeps it, and its last byte; and that it is enough for the row. Assumes nothing.
use mathlib.Core.Path.{◌≡◌, refl, sym, ap, ◌∙◌}
use mathlib.Core.List.{List, [], ◌∷◌}
use Prim.Native.Nat.{ℕ, suc, ◌-◌, ◌≤◌}
use native.Mathlib.Omega.{arith}
use lib.ListN.{length, get_or}
use Rattle.text.specs.declared.Line.{Line}
use Rattle.text.specs.Kept.{kept_all, line_with_all, no_line, is_empty_line}
use Rattle.text.specs.Feed.{KeptRight}
use Rattle.text.proofs.KeptLaws.{empty-line}
use Rattle.traces.specs.declared.TraceCommand.{TraceCommand}
use Rattle.traces.specs.declared.TraceLine.{TraceLine}
use Rattle.traces.specs.Command.{trace_command_of, trace_command_of_line}
use Rattle.traces.specs.Fault.{trace_line_with, trace_line_of, no_trace_line, fault_of}
use Rattle.traces.specs.Output.{trace_answer, trace_program}
use Rattle.traces.proofs.CommandLaws.{trace-command-of-line}

-- ---- after some bytes

-- the line as `pair` keeps it
pub line_kept : (l : TraceLine) (bytes : List ℕ) → (kept_all trace_line_with l bytes).line ≡ line_with_all l.line bytes
unfolding kept_all
line_kept l [] = refl
line_kept l (b ∷ bytes) = line_kept (trace_line_with l b) bytes

-- none
pub none_kept : (l : TraceLine) (bytes : List ℕ) → length bytes ≡ 0 → l ≡ kept_all trace_line_with l bytes
unfolding kept_all
none_kept l [] e = refl
none_kept l (b ∷ bytes) e = let f : ⊥ = omega arith in absurd f

-- the last of them
pub last-kept : (l : TraceLine) (bytes : List ℕ) → 1 ≤ length bytes → (kept_all trace_line_with l bytes).last ≡ get_or bytes (length bytes - 1) 0
unfolding kept_all
last-kept l [] h = let f : ⊥ = omega arith in absurd f
last-kept l (b ∷ []) h = refl
last-kept l (b ∷ c ∷ bytes) h =
    let p : suc (length bytes) - 1 ≡ length bytes = omega arith in
    let q : suc (length bytes) ≡ suc (suc (length bytes)) - 1 = omega arith in
    last-kept (trace_line_with l b) (c ∷ bytes) (omega arith)
    ∙ ap (λ (n : ℕ). get_or (c ∷ bytes) n 0) p
    ∙ ap (λ (n : ℕ). get_or (b ∷ c ∷ bytes) n 0) q

-- both
pub some-kept : (l : TraceLine) (bytes : List ℕ) (line : Line) → line ≡ line_with_all l.line bytes → 1 ≤ length bytes
    → record { line = line; last = get_or bytes (length bytes - 1) 0 } ≡ kept_all trace_line_with l bytes
some-kept l bytes line e h =
    let p : line ≡ (kept_all trace_line_with l bytes).line = e ∙ sym (line_kept l bytes) in
    let q : get_or bytes (length bytes - 1) 0 ≡ (kept_all trace_line_with l bytes).last = sym (last-kept l bytes h) in
    λ i. record { line = p i; last = q i }

-- ---- of a whole line
pub line_of : (line : List ℕ) → (trace_line_of line).line ≡ line_with_all no_line line
line_of line = line_kept no_trace_line line

-- the command is that of the line
pub kept-command : (line : List ℕ) → trace_command_of_line (trace_line_of line).line ≡ trace_command_of line
kept-command line = ap trace_command_of_line (line_of line) ∙ trace-command-of-line line

-- what is kept of a line gives the answer to the line, and tells the empty one
pub kept-right : KeptRight trace_program
kept-right =
    record {
      answers = λ t line. ap (λ (c : TraceCommand). trace_answer t c (fault_of (trace_line_of line))) (kept-command line);
      empty = λ line. ap is_empty_line (line_of line) ∙ empty-line line;
    }
