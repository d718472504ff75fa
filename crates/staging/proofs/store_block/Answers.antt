-- `staging::store_block` meets its contract. Assumes nothing.
use Prim.Native.Nat.{◌*◌}
use native.Mathlib.Omega.{arith}
use Rattle.lists.specs.Page.{page, with_page}
use Rattle.lists.proofs.PartLaws.{length_part}
use Rattle.staging.proofs.store_block.Goals as goal

pub copy_into-requires : goal.copy_into-requires
copy_into-requires c =
    let a = c.args in
    let n = length_part (a.i * a.u) a.u a.slots.now (omega arith) in
    rw c.part_of.ensures (omega arith)

pub returns : goal.returns
unfolding page with_page
returns c = rw c.part_of.ensures at c.copy_into.ensures
