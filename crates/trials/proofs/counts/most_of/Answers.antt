use mathlib.Core.Path.{sym, ◌∙◌}
use native.Mathlib.Omega.{arith}
use Rattle.trials.proofs.CountLaws.{longest-next, longest-none}
use Rattle.trials.proofs.counts.most_of.Goals as goal

pub loop-begun-preserved : goal.loop-begun-preserved
loop-begun-preserved c =
    let at = c.loop-begun in
    at.invariant
    ∙ longest-next c.args.tick at.longest c.args.sent.now at.begun-index (omega arith)
    ∙ rw (c.max-longest.ensures, c.saturating_sub.ensures)

pub returns : goal.returns
returns c =
    let at = c.loop-begun in
    sym (at.invariant ∙ longest-none c.args.tick at.longest c.args.sent.now at.begun-index (omega arith))
