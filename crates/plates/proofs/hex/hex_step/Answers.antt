use mathlib.Core.Path.{◌≡◌, sym}
use native.Mathlib.Omega.{arith}
use borrow.Author.Rules.{rules}
use borrow.Author.Tests.{eq-eqb, ne_eqb}
use Rattle.std.specs.Prelude.{None}
use Rattle.plates.specs.Read.{hex_step}
use Rattle.plates.proofs.HexLaws.{some-half, none-half}
use Rattle.plates.proofs.hex.hex_step.Goals as goal

pub returns-then-is_some : goal.returns-then-is_some
unfolding hex_step
returns-then-is_some c = rw (eq-eqb _ _ c.if-c-eq32.true, ne_eqb _ _ (some-half c.args.half c.if-is_some.ensures c.requires))

pub returns-else-is_some : goal.returns-else-is_some
unfolding hex_step
returns-else-is_some c = rw (eq-eqb _ _ c.if-c-eq32.true, none-half c.args.half c.if-is_some.ensures)

pub returns-in_default : goal.returns-in_default
unfolding hex_step
returns-in_default c =
    let none : c.digit_of.result ≡ None = search rules in
    rw (ne_eqb _ _ c.if-c-eq32.false, eq-eqb _ _ (sym (rw none at c.digit_of.ensures.value)))

pub returns-in-None : goal.returns-in-None
unfolding hex_step
returns-in-None c =
    let e = c.in-Some.ensures in
    rw (ne_eqb _ _ c.if-c-eq32.false, ← e.value, ne_eqb c.in-Some.digit 16 (λ z. let l = e.bound in omega arith), c.in-None.is)

pub returns-in-Some-half : goal.returns-in-Some-half
unfolding hex_step
returns-in-Some-half c =
    let e = c.in-Some.ensures in
    let low = rw c.in-Some-half.is at c.requires in
    rw (ne_eqb _ _ c.if-c-eq32.false, ← e.value, ne_eqb c.in-Some.digit 16 (λ z. let l = e.bound in omega arith), c.in-Some-half.is, ne_eqb c.in-Some-half.first 16 (λ z. omega (arith, low)))
