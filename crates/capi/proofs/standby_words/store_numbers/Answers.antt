use Prim.Native.Nat.{ℕ, ◌+◌}
use mathlib.Core.Path.{◌≡◌, sym, ap, ◌∙◌}
use mathlib.Core.List.{List}
use lib.ListN.{length, set, get_or, length-set}
use native.Mathlib.Omega.{arith}
use Rattle.capi.specs.StandbyWords.{standby_length}
use Rattle.capi.proofs.WordLaws.{store-turn, store-none, store-end}
use borrow.Author.Rules.{rules}
use Rattle.capi.proofs.standby_words.store_numbers.Goals as goal

pub loop-i-init : goal.loop-i-init
loop-i-init c = (c.requires, store-none c.args.w.now c.args.numbers 11)

pub loop-i-preserved : goal.loop-i-preserved
loop-i-preserved c =
    let a = c.args in
    let s = c.loop-i in
    let n : length a.numbers ≡ 64 = search rules in
    let m : length a.w.now ≡ standby_length = c.requires in
    (simp length-set s.invariant.0, ap (λ (l : List ℕ). set l (11 + s.i) (get_or a.numbers s.i 0)) s.invariant.1 ∙ store-turn a.w.now a.numbers 11 s.i 0 (omega arith) (omega arith))

pub shape_of-w : goal.shape_of-w
shape_of-w c = c.loop-i.invariant.0 ∙ sym c.requires

pub returns : goal.returns
returns c =
    let a = c.args in
    let n : length a.numbers ≡ 64 = search rules in
    c.loop-i.invariant.1 ∙ store-end a.w.now a.numbers 11 c.loop-i.i (omega arith)
