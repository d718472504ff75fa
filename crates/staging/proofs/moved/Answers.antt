use mathlib.Core.Path.{◌≡◌, refl, ◌∙◌}
use Prim.Native.Nat.{◌-◌}
use native.Mathlib.Omega.{arith}
use lib.ListN.{length, drop, length-set}
use lib.Seq.{paste-zero}
use borrow.Author.Rules.{rules}
use Rattle.lists.proofs.ArrayLaws.{front-turn}
use Rattle.staging.proofs.ArrayLaws.{front-end}
use Rattle.staging.proofs.moved.Goals as goal

pub loop-i-init : goal.loop-i-init
loop-i-init c = (refl, paste-zero c.args.numbers 0 (drop c.args.n c.args.numbers))

pub loop-i-preserved : goal.loop-i-preserved
loop-i-preserved c =
    let w = c.loop-i in
    let a = c.args in
    let h : length a.numbers ≡ 64 = search rules in
    (simp length-set w.invariant.0, rw w.invariant.1 (front-turn a.numbers a.n w.i 0 (omega arith)))

pub returns : goal.returns
returns c =
    let w = c.loop-i in
    let a = c.args in
    let h : length a.numbers ≡ 64 = search rules in
    let e : w.i ≡ a.total - a.n = omega arith in
    rw e at w.invariant.1 ∙ front-end a.numbers a.n a.total (omega arith) (omega arith)
