-- `console::turns::run` meets its contract. Assumes nothing.
use Rattle.console.proofs.MovedLaws.{if-ok, program-done}
use Rattle.console.proofs.turns.run.Goals as goal

pub returns : goal.returns
returns g c = if-ok _ _ c.all.result (λ x d. program-done g.P.LineProgram.program g.met.P.LineProgram.right _ _ c.first-run.ensures _ _ _ _ d) c.all.ensures.whole
