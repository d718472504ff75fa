-- `trials::answer::last_answer` meets its contract. Assumes nothing.
use mathlib.Core.Path.{refl}
use lib.ListN.{replicate}
use Rattle.trials.proofs.AnswerLaws.{last_done}
use Rattle.trials.proofs.answer.last_answer.Goals as goal

pub returns : goal.returns
returns c =
    let p = c.print-n in
    let q = c.put_last-length in
    last_done c.args.stage _ _ _ _ _ _ (replicate 65 0) _ _ refl p.ensures.upper_bound q.ensures.upper_bound p.ensures.put_done q.ensures.put_done
