-- `sums::page_sum` meets its contract. Assumes nothing.
use mathlib.Core.Path.{ap, ◌∙◌}
use native.Mathlib.Omega.{arith}
use Prim.Native.Nat.{ℕ, ◌%◌, ◌*◌}
use lib.ListN.{length}
use Rattle.lists.specs.Page.{page}
use Rattle.lists.proofs.PageLaws.{length-page}
use Rattle.sums.specs.Sum.{modulus, weighted}
use Rattle.sums.proofs.page_sum.Goals as goal

pub weighted_sum-requires : goal.weighted_sum-requires
unfolding page
weighted_sum-requires c =
    let s = c in
    let a = s.args in
    let n = ap length c.part_of.ensures ∙ length-page a.u a.p a.image.now s.requires.1 in
    (omega (arith, n, s.requires.0), omega (arith, s.requires.1, s.requires.2))

pub returns : goal.returns
unfolding page
returns c =
    let a = c.args in
    ap (λ (n : ℕ). n % modulus) (c.weighted_sum.ensures ∙ ap (weighted (a.p * a.u)) c.part_of.ensures)
