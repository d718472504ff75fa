use Prim.Native.Nat.{ℕ}
use mathlib.Core.Path.{◌≡◌, refl}
use mathlib.Core.List.{List}
use native.Mathlib.Omega.{arith}
use Rattle.capi.proofs.WordLaws.{part-turn, part_end}
use borrow.Author.Rules.{rules}
use Rattle.capi.proofs.standby_words.numbers_of.Goals as goal

pub loop-i-init : goal.loop-i-init
loop-i-init c = (search rules, refl)

pub loop-i-preserved : goal.loop-i-preserved
loop-i-preserved c =
    let w : List ℕ = c.args.w.now in
    let s = c.loop-i in
    (search rules, part-turn w s.numbers 11 64 s.i 0 (omega arith) (omega arith) (omega arith) s.invariant.1)

pub returns : goal.returns
returns c =
    let s = c.loop-i in
    let e : s.i ≡ 64 = omega arith in
    part_end c.args.w.now s.numbers 11 64 s.invariant.0 (rw e at s.invariant.1)
