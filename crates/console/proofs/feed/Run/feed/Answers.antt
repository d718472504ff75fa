-- `console::feed::Run::feed` meets its contract. Assumes nothing.
use Rattle.std.proofs.Common.{◌≤◌, ◌<◌, ◌+◌, ◌-◌, arith, length, length-drop, drop}
use lib.Seq.{take_all}
use Rattle.text.proofs.RunLaws.{progress-none, progress-more, progress-some, progress-over}
use Rattle.console.proofs.feed.Run.feed.Goals as goal

pub loop-read-init : goal.loop-read-init
loop-read-init g c = progress-none g.P.LineProgram.program g.P.LineProgram.ANSWER_BYTES _ _ _

pub returns-then-self-clause-run : goal.returns-then-self-clause-run
returns-then-self-clause-run g c = (progress-over g.P.LineProgram.program g.P.LineProgram.ANSWER_BYTES _ _ _ _ _ _ _ c.loop-read.invariant c.if-self.true).0

pub returns-then-self-clause-printed : goal.returns-then-self-clause-printed
returns-then-self-clause-printed g c = (progress-over g.P.LineProgram.program g.P.LineProgram.ANSWER_BYTES _ _ _ _ _ _ _ c.loop-read.invariant c.if-self.true).1

pub loop-read-preserved : goal.loop-read-preserved
loop-read-preserved g c =
    let at = c.loop-read in
    let e = c.feed_line-step.ensures in
    let input = c.args.input.now in
    let left = take_all (length input - at.read) (drop at.read input) (omega (arith, length-drop at.read input)) in
    let room : at.written + g.P.LineProgram.ANSWER_BYTES ≤ length at.out = omega (arith, at.invariant.fits, at.invariant.long, c.if-ANSWER_BYTES-out.true) in
    progress-more g.P.LineProgram.program g.P.LineProgram.ANSWER_BYTES _ _ _ _ _ _ _ at.invariant _ left _ _ _ _ e.bounds.0 e.bounds.1 e.bounds.2 room e.run e.printed

pub returns-else-ANSWER_BYTES-out-clause-bounds : goal.returns-else-ANSWER_BYTES-out-clause-bounds
returns-else-ANSWER_BYTES-out-clause-bounds g c =
    let at = c.loop-read in
    let full : length c.args.out.now < at.written + g.P.LineProgram.ANSWER_BYTES = omega (arith, at.invariant.fits, at.invariant.long, c.if-ANSWER_BYTES-out.false) in
    (at.invariant.inside, (λ h. progress-some g.P.LineProgram.program g.P.LineProgram.ANSWER_BYTES _ _ _ _ _ _ _ at.invariant c.requires full), omega (arith, at.invariant.fits, at.invariant.long))
