-- `trials::answer::course_of` meets its contract. Assumes nothing.
use mathlib.Core.Path.{sym, ◌∙◌}
use native.Mathlib.Omega.{arith}
use Rattle.trials.proofs.AnswerLaws.{tick-bad, tick-late, tick-good}
use Rattle.trials.proofs.answer.course_of.Goals as goal
use Rattle.trials.proofs.answer.course_of.Goals.{then-not-good-via-then-not-good, then-not-good-via-else-not-good+then-t-ge-LAST_TICK}

pub returns-then-not-good : goal.returns-then-not-good
returns-then-not-good c =
    let a = c.args in
    rw c.number.ensures
    (elim c.then-not-good.branch [
      | then-not-good-via-then-not-good w ↦ sym (tick-bad a.t a.good _ _ _ w.if-not-good.true)
      | then-not-good-via-else-not-good+then-t-ge-LAST_TICK w ↦ sym (tick-late a.t a.good _ _ _ w.if-t-ge-LAST_TICK.true)
    ])

pub returns : goal.returns
returns c =
    let a = c.args in
    c.tick.ensures ∙ sym (tick-good a.t a.good _ _ _ c.if-not-good.false (omega (arith, c.if-t-ge-LAST_TICK.false)))
