-- `console::turns::all` meets its contract. Assumes nothing.
use Rattle.std.proofs.Common.{arith}
use Rattle.console.proofs.MovedLaws.{going-none, going-made, going-out, turn-made, going-more, going-ended}
use Rattle.console.proofs.turns.all.Goals as goal

pub loop-init : goal.loop-init
loop-init g c = going-none g.P.LineProgram.program _ _ _

pub returns-in_err-next_turn-clause-made : goal.returns-in_err-next_turn-clause-made
returns-in_err-next_turn-clause-made g c = let d = c.next_turn.ensures in turn-made g.P.LineProgram.program _ _ _ _ _ _ _ c.loop.invariant _ _ d.turn

pub loop-preserved : goal.loop-preserved
loop-preserved g c = going-more g.P.LineProgram.program _ _ _ _ _ _ _ c.loop.invariant _ _ _ _ _ c.in_ok-next_turn.ensures c.if-not-branch.false

pub returns-after-loop-clause-made : goal.returns-after-loop-clause-made
returns-after-loop-clause-made g c = going-made g.P.LineProgram.program _ _ _ _ _ _ _ c.loop.invariant

pub returns-after-loop-clause-whole : goal.returns-after-loop-clause-whole
returns-after-loop-clause-whole g c = going-out g.P.LineProgram.program _ _ _ _ _ _ _ c.loop.invariant (omega arith)

pub returns-then-not-branch-clause-made : goal.returns-then-not-branch-clause-made
returns-then-not-branch-clause-made g c = let d = c.next_turn.ensures in turn-made g.P.LineProgram.program _ _ _ _ _ _ _ c.loop.invariant _ _ d.turn

pub returns-then-not-branch-clause-whole : goal.returns-then-not-branch-clause-whole
returns-then-not-branch-clause-whole g c = going-ended g.P.LineProgram.program _ _ _ _ _ _ _ c.loop.invariant _ _ _ _ _ c.in_ok-next_turn.ensures c.if-not-branch.true
