use mathlib.Core.Path.{◌≡◌}
use native.Mathlib.Omega.{arith}
use Prim.Native.Nat.{◌-◌}
use Rattle.marks.proofs.WalkLaws.{from_start, from_nothing}
use Rattle.marks.proofs.walk.marked.Goals as goal
use Rattle.marks.proofs.walk.marked.Goals.{in-Some, in-None}

pub returns : goal.returns
returns c =
    let all : c.args.m - 0 ≡ c.args.m = omega arith in
    elim c.match-split_first.branch [
      | in-Some w ↦ rw (w.word-is, all, ← w.in-Some.ensures.cases.0) (from_start c.args.ws.now c.args.m)
      | in-None w ↦ rw (w.word-is, all) (from_nothing c.args.ws.now c.args.m w.in-None.ensures.cases)
    ]
