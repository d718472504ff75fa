use mathlib.Core.Path.{◌≡◌, refl, ◌∙◌}
use native.Mathlib.Omega.{arith}
use lib.ListN.{length, replicate, length-set}
use lib.Seq.{paste-zero}
use borrow.Author.Rules.{rules}
use Rattle.staging.proofs.ArrayLaws.{fill-turn, fill_end}
use Rattle.staging.proofs.zeroed.Goals as goal

pub loop-i-init : goal.loop-i-init
loop-i-init c = (refl, paste-zero c.args.numbers c.args.at (replicate c.args.n 0))

pub loop-i-preserved : goal.loop-i-preserved
loop-i-preserved c =
    let w = c.loop-i in
    let a = c.args in
    let h : length a.numbers ≡ 64 = search rules in
    (simp length-set w.invariant.0, rw w.invariant.1 (fill-turn a.numbers a.at a.n w.i 0 (omega arith) (omega arith)))

pub returns : goal.returns
returns c =
    let w = c.loop-i in
    let a = c.args in
    let e : w.i ≡ a.n = omega arith in
    rw e at w.invariant.1 ∙ fill_end a.numbers a.at a.n 0
