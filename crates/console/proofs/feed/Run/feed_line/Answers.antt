-- `console::feed::Run::feed_line` meets its contract. Assumes nothing.
use Rattle.std.proofs.Common.{◌<◌, arith, rules, length, length-take-le, sym}
use Rattle.text.proofs.RunLaws.{end-inside, newline-inside, line-fed, line-put, ended-fed, ended-put}
use Rattle.console.proofs.feed.Run.feed_line.Goals as goal

pub slice_bounds-line_with_all-end : goal.slice_bounds-line_with_all-end
slice_bounds-line_with_all-end g c =
    sym (length-take-le c.line_end-end.result c.args.input.now (end-inside g.P.LineProgram.program c.args.input.now _ c.line_end-end.ensures))

pub returns-then-end-input-clause-run : goal.returns-then-end-input-clause-run
returns-then-end-input-clause-run g c = line-fed g.P.LineProgram.program _ _ c.line_end-end.ensures _ _ _ _ c.requires.still c.line_with_all-self.ensures

pub returns-then-end-input-clause-printed : goal.returns-then-end-input-clause-printed
returns-then-end-input-clause-printed g c = line-put g.P.LineProgram.program _ _ c.line_end-end.ensures _ _ _ _ c.requires.still c.line_with_all-self.ensures _ _

pub overflow_add-result : goal.overflow_add-result
overflow_add-result g c =
    let h : c.line_end-end.result < length c.args.input.now = newline-inside g.P.LineProgram.program c.args.input.now _ c.line_end-end.ensures c.if-end-input.false in
    search rules

pub returns-clause-bounds : goal.returns-clause-bounds
returns-clause-bounds g c = (omega arith, omega (arith, newline-inside g.P.LineProgram.program c.args.input.now _ c.line_end-end.ensures c.if-end-input.false), c.newline-written.ensures.bound)

pub returns-clause-run : goal.returns-clause-run
returns-clause-run g c = ended-fed g.P.LineProgram.program _ _ c.line_end-end.ensures _ _ _ _ c.requires.still c.line_with_all-self.ensures _ (newline-inside g.P.LineProgram.program c.args.input.now _ c.line_end-end.ensures c.if-end-input.false) c.newline-written.ensures.run

pub returns-clause-printed : goal.returns-clause-printed
returns-clause-printed g c =
    ended-put g.P.LineProgram.program _ _ c.line_end-end.ensures _ _ _ _ c.requires.still c.line_with_all-self.ensures _ _ _ _ (newline-inside g.P.LineProgram.program c.args.input.now _ c.line_end-end.ensures c.if-end-input.false) c.newline-written.ensures.printed
