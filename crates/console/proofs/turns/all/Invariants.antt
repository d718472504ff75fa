-- The loop's invariant: turns were made, and more is to be read.
use Rattle.std.specs.Io.KnownBytes.{prepend_known}
use Rattle.console.specs.Run.{reading_of}
use Rattle.console.proofs.MovedLaws.{Going}
use Rattle.console.proofs.turns.all.Given as goal

abbrev pub invariant-loop : goal.invariant-loop
invariant-loop g l =
    let p = g.P.LineProgram in
    Going p.program (reading_of p.state_of p.line_of l.initial.run) (reading_of p.state_of p.line_of l.run) l.counter (prepend_known l.initial.input (g.R.Read.remaining l.initial.reader))
    (prepend_known l.input (g.R.Read.remaining l.reader)) (g.W.Write.contents l.initial.writer) (g.W.Write.contents l.writer)
