use Prim.Native.Nat.{ℕ, ◌+◌, ◌-◌}
use mathlib.Core.Path.{◌≡◌, sym, ap, ◌∙◌}
use native.Mathlib.Omega.{arith}
use borrow.Author.Rules.{rules}
use Rattle.std.specs.Prelude.{Err}
use Rattle.trials.specs.Trial.{Course, and_then}
use Rattle.trials.specs.Part.{each}
use Rattle.trials.specs.Site.{trial_of, course_of}
use Rattle.trials.proofs.LoopLaws.{rest, each_turn, each_last}
use Rattle.trials.proofs.guest.each_of.Goals as goal

pub loop-i-init : goal.loop-i-init
loop-i-init g c = λ part does.
    let e : c.args.n ≡ c.args.n - 0 = omega arith in
    ap (λ (m : ℕ). (each part 0 m).course (trial_of c.args.t)) e

pub loop-i-preserved : goal.loop-i-preserved
loop-i-preserved g c = λ part does.
    let at = c.loop-i in
    let turn = does at.trial at.i _ (omega arith) c.in_ok-trial.ensures in
    at.invariant part does
    ∙ each_turn part (trial_of at.trial) c.args.n at.i (omega arith)
    ∙ ap (λ (x : Course). and_then x (rest part c.args.n (at.i + 1))) (sym turn)

pub returns-in_err-trial : goal.returns-in_err-trial
returns-in_err-trial g c = λ part does.
    let at = c.loop-i in
    let turn = does at.trial at.i _ (omega arith) c.in_err-trial.ensures in
    let is : c.from_residual.result ≡ Err c.in_err-trial.field-0.0 = search rules in
    ap course_of is
    ∙ sym (at.invariant part does
    ∙ each_turn part (trial_of at.trial) c.args.n at.i (omega arith)
    ∙ ap (λ (x : Course). and_then x (rest part c.args.n (at.i + 1))) (sym turn))

pub returns : goal.returns
returns g c = λ part does.
    let at = c.loop-i in
    sym (at.invariant part does ∙ each_last part (trial_of at.trial) c.args.n at.i (omega arith))
