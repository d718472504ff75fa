-- `console::feed::Run::newline` meets its contract. Assumes nothing.
use Rattle.text.proofs.RunLaws.{answered-run, answered-put}
use Rattle.console.proofs.feed.Run.newline.Goals as goal

pub returns-clause-run : goal.returns-clause-run
returns-clause-run g c =
    let e = c.answer-state.ensures in
    answered-run g.P.LineProgram.program _ _ _ c.requires.still _ _ _ e.next c.no_line-self.ensures e.last

pub returns-clause-printed : goal.returns-clause-printed
returns-clause-printed g c = answered-put g.P.LineProgram.program _ _ _ c.requires.still _ _ _ _ c.answer-state.ensures.printed
