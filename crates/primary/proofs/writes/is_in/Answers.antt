use mathlib.Core.Path.{◌≡◌, sym, ap, ◌∙◌}
use mathlib.Core.List.{List, ◌∷◌}
use Prim.Native.Nat.{ℕ, ◌+◌, ◌<◌}
use lib.ListN.{length, take, drop, get_or}
use lib.Seq.{drop-cons}
use borrow.Author.Tests.{eq-eqb, ne_eqb}
use native.Mathlib.Numerals.{add-one}
use Rattle.lists.specs.Select.{is_in}
use Rattle.lists.proofs.SelectLaws.{in-first, in-others}
use Rattle.primary.proofs.writes.is_in.Goals as goal

-- the number at the index is the first of those not yet passed
rest : (l : List ℕ) (i : ℕ) → i < length l → drop i l ≡ get_or l i 0 ∷ drop (i + 1) l
rest l i h = drop-cons l i 0 h ∙ rw add-one

pub returns-then-number-block : goal.returns-then-number-block
returns-then-number-block c =
    let a = c.args in
    sym (in-first a.block _ _ (eq-eqb _ a.block c.if-number-block.true))
    ∙ sym (ap (λ (l : List ℕ). is_in a.block l) (rest (take a.n a.numbers) c.loop-number.number-index c.loop-number-test.true))
    ∙ c.loop-number.invariant

pub loop-number-preserved : goal.loop-number-preserved
loop-number-preserved c =
    let a = c.args in
    sym (in-others a.block _ _ (ne_eqb _ a.block c.if-number-block.false))
    ∙ sym (ap (λ (l : List ℕ). is_in a.block l) (rest (take a.n a.numbers) c.loop-number.number-index c.loop-number-test.true))
    ∙ c.loop-number.invariant
