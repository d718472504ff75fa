-- `trials::answer::answer_plan` meets its contract. Assumes nothing.
use Prim.Native.Nat.{ℕ}
use mathlib.Core.Path.{sym, ap, ◌∙◌}
use Rattle.lists.specs.Refusal.{refusal}
use Rattle.records.specs.Number.{number_in}
use Rattle.records.proofs.RefusalLaws.{refusal-some, number-failed}
use Rattle.trials.specs.Output.{plan_tests}
use Rattle.trials.specs.Site.{trial_of}
use Rattle.trials.proofs.AnswerLaws.{first-is, plan-begun, plan-refused}
use Rattle.trials.proofs.answer.answer_plan.Goals as goal

pub returns-in-Err : goal.returns-in-Err
returns-in-Err c =
    let a = c.args in
    let is = c.check_plan.ensures ∙ ap (λ (n : ℕ). refusal (plan_tests n a.interval a.rate)) c.started_with-started.ensures.number_value in
    plan-refused a.t a.interval a.rate _ (sym (number-failed _ _ is c.in-Err.is)) _ (refusal-some _) (rw c.number.ensures at c.plan_refused.ensures)

pub returns : goal.returns
returns c =
    let a = c.args in
    let s = c.started_with-started.ensures in
    let is = c.check_plan.ensures ∙ ap (λ (n : ℕ). refusal (plan_tests n a.interval a.rate)) s.number_value in
    let first = ap trial_of c.first_trial.ensures ∙ first-is a.t a.interval a.rate _ s.site_value in
    plan-begun a.t a.interval a.rate _ is _ (ap number_in c.in_default.is) first
