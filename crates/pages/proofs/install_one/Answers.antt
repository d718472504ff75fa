use mathlib.Core.Path.{ap, ◌∙◌}
use Prim.Native.Nat.{◌*◌}
use native.Mathlib.Omega.{arith}
use lib.ListN.{length}
use Rattle.lists.specs.Part.{put}
use Rattle.lists.specs.Page.{page, with_page}
use Rattle.lists.proofs.PartLaws.{length_part}
use Rattle.pages.proofs.install_one.Goals as goal

pub copy_into-requires : goal.copy_into-requires
copy_into-requires c =
    let start = c in
    let a = start.args in
    omega (arith, ap length c.part_of.ensures ∙ length_part (a.p * a.u) a.u a.staged.now start.requires.1)

pub returns : goal.returns
unfolding with_page page
returns c =
    let a = c.args in
    c.copy_into.ensures ∙ ap (put a.memory.now (a.p * a.u)) c.part_of.ensures
