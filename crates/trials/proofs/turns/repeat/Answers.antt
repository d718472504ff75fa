use Prim.Native.Nat.{ℕ, suc, ◌-◌}
use mathlib.Core.Path.{◌≡◌, sym, ap, ◌∙◌}
use native.Mathlib.Omega.{arith}
use borrow.Author.Rules.{rules}
use Rattle.std.specs.Prelude.{Option, None, Ok, Err}
use Rattle.trials.specs.declared.TrialSite.{TrialSite}
use Rattle.trials.specs.Part.{whilst}
use Rattle.trials.specs.Site.{trial_of, course_of, turn_of}
use Rattle.trials.proofs.LoopLaws.{whilst-turn, whilst-none, whilst-zero}
use Rattle.trials.proofs.turns.repeat.Goals as goal

pub returns-in_err-next : goal.returns-in_err-next
returns-in_err-next g c = λ test part does.
    let at = c.loop-turn in
    let is : c.from_residual.result ≡ Err c.in_err-next.field-0.0 = search rules in
    ap course_of is
    ∙ sym (at.invariant test part does
    ∙ whilst-turn test part (trial_of at.trial) at.left _ (does at.trial _ c.in_err-next.ensures))

pub returns-then-left-eq0 : goal.returns-then-left-eq0
returns-then-left-eq0 g c = λ test part does.
    let at = c.loop-turn in
    let made = ap (λ (o : Option TrialSite). turn_of (Ok o)) (sym c.in-Some.is) ∙ does at.trial _ c.in_ok-next.ensures in
    sym (at.invariant test part does
    ∙ whilst-turn test part (trial_of at.trial) at.left _ made
    ∙ ap (λ (k : ℕ). (whilst test part k).course (trial_of c.in-Some.next)) c.if-left-eq0.true
    ∙ whilst-zero test part (trial_of c.in-Some.next))

pub loop-turn-preserved : goal.loop-turn-preserved
loop-turn-preserved g c = λ test part does.
    let at = c.loop-turn in
    let made = ap (λ (o : Option TrialSite). turn_of (Ok o)) (sym c.in-Some.is) ∙ does at.trial _ c.in_ok-next.ensures in
    let fewer : at.left ≡ suc (at.left - 1) = omega (arith, c.if-left-eq0.false) in
    at.invariant test part does
    ∙ whilst-turn test part (trial_of at.trial) at.left _ made
    ∙ ap (λ (k : ℕ). (whilst test part k).course (trial_of c.in-Some.next)) fewer

pub returns : goal.returns
returns g c = λ test part does.
    let at = c.loop-turn in
    let none : c.in_ok-next.field-0 ≡ None = search rules in
    let enough = ap (λ (o : Option TrialSite). turn_of (Ok o)) (sym none) ∙ does at.trial _ c.in_ok-next.ensures in
    sym (at.invariant test part does ∙ whilst-none test part (trial_of at.trial) at.left enough)
