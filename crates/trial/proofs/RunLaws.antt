-- What all turns come to, from the first state on and whatever parts are read: the law of text/proofs/TurnLaws.antt at
-- `trial`. Assumes nothing.
use Prim.Native.Nat.{ℕ}
use mathlib.Core.List.{List}
use Rattle.text.proofs.TurnLaws as turns
use Rattle.trials.specs.Output.{trial_program}
use Rattle.trials.proofs.AnswerLaws.{kept-right}
use Rattle.trial.specs.Run.{RunRight}

pub run-right : (parts : List (List ℕ)) → RunRight parts
run-right parts = let r = turns.run-right trial_program kept-right parts in record { ended = r.ended; whole = r.whole; more = r.more }
