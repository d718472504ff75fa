use mathlib.Core.Path.{◌≡◌, refl, sym, ◌∙◌}
use native.Mathlib.Omega.{arith}
use lib.ListN.{length}
use borrow.Author.Rules.{rules}
use Rattle.staging.proofs.SlotLaws.{below_next, below-not, below_end}
use Rattle.staging.proofs.numbers_ok.Goals as goal

pub loop-i-init : goal.loop-i-init
loop-i-init c = refl

pub returns-then-numbers-i : goal.returns-then-numbers-i
returns-then-numbers-i c =
    let w = c.loop-i in
    let a = c.args in
    let h : length a.numbers ≡ 64 = search rules in
    sym (w.invariant ∙ below-not a.d a.numbers w.i a.n (omega arith) (omega arith) (omega arith))

pub loop-i-preserved : goal.loop-i-preserved
loop-i-preserved c =
    let w = c.loop-i in
    let a = c.args in
    let h : length a.numbers ≡ 64 = search rules in
    (w.invariant ∙ below_next a.d a.numbers w.i a.n (omega arith) (omega arith) (omega arith))

pub returns : goal.returns
returns c =
    let w = c.loop-i in
    let a = c.args in
    let h : length a.numbers ≡ 64 = search rules in
    sym (w.invariant ∙ below_end a.d a.numbers w.i a.n (omega arith) (omega arith))
