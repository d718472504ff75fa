-- The loop's invariant: what is read and printed so far.
use Prim.Native.Nat.{◌-◌}
use lib.ListN.{length}
use Rattle.text.proofs.RunLaws.{Progress}
use Rattle.console.specs.Run.{reading_of}
use Rattle.console.proofs.feed.Run.feed.Given as goal

abbrev pub invariant-loop-read : goal.invariant-loop-read
invariant-loop-read g l =
    let p = g.P.LineProgram in
    Progress p.program p.ANSWER_BYTES (reading_of p.state_of p.line_of l.initial.self) l.input l.initial.out (reading_of p.state_of p.line_of l.self) l.read l.out l.written

abbrev pub decreases-loop-read : goal.decreases-loop-read
decreases-loop-read g l = length l.input - l.read
