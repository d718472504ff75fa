-- What all turns come to, from the first state on and whatever parts are read: the law of text/proofs/TurnLaws.antt at
-- `trace`. Assumes nothing.
use Prim.Native.Nat.{ℕ}
use mathlib.Core.List.{List}
use Rattle.text.proofs.TurnLaws as turns
use Rattle.traces.specs.Output.{trace_program}
use Rattle.traces.proofs.KeptLaws.{kept-right}
use Rattle.trace.specs.Run.{RunRight}

pub run-right : (parts : List (List ℕ)) → RunRight parts
run-right parts = let r = turns.run-right trace_program kept-right parts in record { ended = r.ended; whole = r.whole; more = r.more }
