use native.Mathlib.Omega.{arith}
use Prim.Native.Nat.{◌+◌, ◌-◌, min}
use mathlib.Core.Path.{◌≡◌, sym, ◌∙◌}
use Rattle.lists.proofs.PartLaws.{put-none}
use Rattle.lists.proofs.ChunkLaws.{remove-turn, removed-all}
use Rattle.lists.proofs.remove.Goals as goal

pub loop-i-init : goal.loop-i-init
loop-i-init c =
    let a = c.args in
    let none : min 0 (a.total - (a.at + a.n)) ≡ 0 = omega arith in
    rw none (sym (put-none _ _))

pub loop-i-preserved : goal.loop-i-preserved
loop-i-preserved c = remove-turn _ _ _ _ _ _ _ _ (omega arith) (omega arith) (omega arith) (omega arith) c.loop-i.invariant c.move_chunk.ensures

pub returns : goal.returns
returns c = c.loop-i.invariant ∙ removed-all _ _ _ _ _ (omega arith)

pub returns-2 : goal.returns-2
returns-2 c =
    remove-turn _ _ _ _ _ _ _ _ (omega arith) (omega arith) (omega arith) (omega arith) c.loop-i.invariant c.move_chunk.ensures
    ∙ removed-all _ _ _ _ _ (omega arith)
