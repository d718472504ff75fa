-- `console::turns::next_turn` meets its contract. Assumes nothing.
use Rattle.std.proofs.Common.{refl}
use Rattle.text.proofs.RunLaws.{taken-put}
use Rattle.console.proofs.MovedLaws.{if-err, turn-done}
use Rattle.console.proofs.turns.next_turn.Goals as goal

pub returns-in_err-write_all : goal.returns-in_err-write_all
returns-in_err-write_all g c =
    let e = c.turn-turn.ensures in
    turn-done g.P.LineProgram.program _ _ _ _ _ _ _ _ _ _ _ _ c.refill.ensures.kept c.as_slice.ensures c.consume.ensures e.run e.more (if-err _ _ c.from_residual.ensures.0)

pub returns : goal.returns
returns g c =
    let e = c.turn-turn.ensures in
    let put = rw (taken-put _ _ _ _ e.printed) at c.in_ok-write_all.ensures.bytes in
    turn-done g.P.LineProgram.program _ _ _ _ _ _ _ _ _ _ _ _ c.refill.ensures.kept c.as_slice.ensures c.consume.ensures e.run e.more (refl, put)
