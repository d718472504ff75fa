use mathlib.Core.Path.{◌≡◌, sym}
use Prim.Native.Nat.{◌+◌, ◌*◌, ◌≤◌}
use native.Mathlib.Omega.{arith}
use Rattle.records.proofs.KindLaws.{width-range}
use Rattle.rules.specs.Checkpoint.{checkpoint_length}
use Rattle.rules.proofs.CheckpointLaws.{checkpoint-length}
use Rattle.primary.proofs.AppendLaws.{checkpoint_length_le}
use Rattle.primary.proofs.checkpoint.checkpoint_length.Goals as goal
use Rattle.primary.proofs.checkpoint.checkpoint_length.Goals.{After-checkpoint_end, After-number_end}

-- the bytes of a checkpoint are far below 2 ^ 64, and so are those of its pages
high : (c : After-number_end) → let a = c.args in checkpoint_length a.u a.wide a.pages ≤ 65536 * 4108 + 88
high c = checkpoint_length_le c.args.u c.args.wide c.args.pages c.requires.0 c.requires.1

pages-high : (c : After-number_end) → let a = c.args in a.pages * (a.u + c.number_end.result) ≤ 65536 * 4108 + 88
pages-high c =
    let a = c.args in
    rw c.number_end.ensures (omega (arith, high c, checkpoint-length a.u a.wide a.pages))

sum : (c : After-checkpoint_end) → let a = c.args in a.pages * (a.u + c.number_end.result) + c.checkpoint_end.result ≡ checkpoint_length a.u a.wide a.pages
sum c =
    let a = c.args in
    rw (c.number_end.ensures, c.checkpoint_end.ensures) (sym (checkpoint-length a.u a.wide a.pages))

pub overflow_add-result : goal.overflow_add-result
overflow_add-result c = let w = width-range c.args.wide in omega (arith, c.number_end.ensures, c.requires.0)

pub overflow_mul-result : goal.overflow_mul-result
overflow_mul-result c = omega (arith, pages-high (goal.at.overflow_mul-result c).After-number_end)

pub overflow_add-result-2 : goal.overflow_add-result-2
overflow_add-result-2 c = omega (arith, sum (goal.at.overflow_add-result-2 c).After-checkpoint_end, high (goal.at.overflow_add-result-2 c).After-number_end)

pub returns : goal.returns
returns c = sum (goal.at.returns c).After-checkpoint_end
