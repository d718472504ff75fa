-- `staging::with_block` meets its contract. Assumes nothing.
use Rattle.std.proofs.Common.{◌≡◌, length, sym, ⊎_elim, arith, rules}
use Rattle.lists.proofs.TestLaws.{by-test}
use Rattle.staging.specs.Slot.{is_staged}
use Rattle.staging.proofs.BlockLaws.{with-block-again, with-block-next, slot-reused, staged-below}
use Rattle.staging.proofs.with_block.Goals as goal

pub returns-then-slot-k : goal.returns-then-slot-k
returns-then-slot-k c =
    let a = c.args in
    let f = c.requires in
    let h : length a.k.numbers ≡ 64 = search rules in
    sym (with-block-again a.k a.n (staged-below a.k a.n h f.0.due_high f.0.few (omega (arith, f.1))))

pub returns : goal.returns
returns c =
    let a = c.args in
    let f = c.requires in
    let h : length a.k.numbers ≡ 64 = search rules in
    sym (with-block-next a.k a.n (⊎_elim (λ e. absurd (omega (arith, f.1, slot-reused a.k a.n h f.0.due_high f.0.few e))) (λ e. e) (by-test (is_staged a.k a.n))))
