use mathlib.Core.Path.{◌≡◌, refl, sym, ◌∙◌}
use Prim.Native.Nat.{ℕ}
use native.Mathlib.Omega.{arith}
use lib.Dec.{eqb}
use lib.ListN.{length}
use borrow.Author.Tests.{eq-eqb, ne_eqb}
use borrow.Author.Rules.{rules}
use Rattle.lists.proofs.SelectLaws.{search-passed, search-found, search-end}
use Rattle.staging.proofs.place_from.Goals as goal

pub loop-i-init : goal.loop-i-init
loop-i-init c = refl

pub returns-then-numbers-i : goal.returns-then-numbers-i
returns-then-numbers-i c =
    let w = c.loop-i in
    let a = c.args in
    let h : length a.numbers ≡ 64 = search rules in
    sym (search-found (λ (m : ℕ). eqb m a.n) a.numbers 0 w.i a.end (omega arith) (omega arith) (eq-eqb _ a.n (omega arith))) ∙ w.invariant

pub loop-i-preserved : goal.loop-i-preserved
loop-i-preserved c =
    let w = c.loop-i in
    let a = c.args in
    let h : length a.numbers ≡ 64 = search rules in
    sym (search-passed (λ (m : ℕ). eqb m a.n) a.numbers 0 w.i a.end (omega arith) (omega arith) (ne_eqb _ a.n (λ z. omega arith))) ∙ w.invariant

pub returns : goal.returns
returns c =
    let w = c.loop-i in
    let a = c.args in
    let h : length a.numbers ≡ 64 = search rules in
    let e = search-end (λ (m : ℕ). eqb m a.n) a.numbers 0 w.i a.end (omega arith) (omega arith) in
    omega (arith, w.invariant)
