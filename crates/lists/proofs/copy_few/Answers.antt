use native.Mathlib.Omega.{arith}
use mathlib.Core.Path.{◌≡◌, ◌∙◌}
use lib.ListN.{length}
use Rattle.lists.proofs.PartLaws.{put-paste}
use Rattle.lists.proofs.copy_few.Goals as goal

pub returns : goal.returns
returns c =
    let e : c.loop-i.i ≡ length c.args.src.now = omega arith in
    rw e at c.loop-i.invariant ∙ put-paste _ 0 _
