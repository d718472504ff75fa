-- `trials::answer::answer_tick` meets its contract. Assumes nothing.
use mathlib.Core.Path.{refl}
use native.Mathlib.Omega.{arith}
use lib.ListN.{replicate}
use Rattle.trials.specs.Site.{trial_of}
use Rattle.trials.proofs.AnswerLaws.{answer-done}
use Rattle.trials.proofs.answer.answer_tick.Goals as goal

pub returns : goal.returns
unfolding trial_of
returns c =
    let p = c.put_tick-length.ensures in
    answer-done _ (replicate 65 0) _ refl refl p.put_done (omega (arith, p.upper_bound)) refl
