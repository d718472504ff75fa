-- `console::feed::Run::finish` meets its contract. Assumes nothing.
use Rattle.std.proofs.Common.{◌≤◌, length, sym, ◌∙◌, arith}
use Rattle.text.proofs.RunLaws.{ended-over, ended-empty, ended-last, ended-more}
use Rattle.console.proofs.feed.Run.finish.Goals as goal

pub returns-then-self-clause-printed : goal.returns-then-self-clause-printed
returns-then-self-clause-printed g c = ended-over g.P.LineProgram.program _ _ _ _ c.if-self.true

pub returns-then-is_empty_line-clause-printed : goal.returns-then-is_empty_line-clause-printed
returns-then-is_empty_line-clause-printed g c =
    ended-empty g.P.LineProgram.program _ _ _ _ _ _ c.if-self.false (sym c.is_empty_line.ensures ∙ c.if-is_empty_line.true) c.put_finish.ensures.printed

pub returns-then-last-clause-printed : goal.returns-then-last-clause-printed
returns-then-last-clause-printed g c =
    let a = c.answer-state.ensures in
    ended-last g.P.LineProgram.program _ _ _ c.if-self.false (sym c.is_empty_line.ensures ∙ c.if-is_empty_line.false) _ _ _ a.printed (sym a.last ∙ c.if-last.true)

pub returns-clause-printed : goal.returns-clause-printed
returns-clause-printed g c =
    let a = c.answer-state.ensures in
    let e : c.answer-state.result.1 ≤ length c.args.out.now = omega (arith, a.bound, c.requires) in
    ended-more g.P.LineProgram.program _ _ _ c.if-self.false (sym c.is_empty_line.ensures ∙ c.if-is_empty_line.false) _ _ _ a.printed _ _ (sym a.last ∙ c.if-last.false) e (rw a.next at c.put_finish-2.ensures.printed)
