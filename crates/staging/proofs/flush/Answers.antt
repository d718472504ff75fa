-- `staging::flush` meets its contract. Assumes nothing.
use Rattle.staging.proofs.StoreLaws.{store-of-flush}
use Rattle.staging.proofs.flush.Goals as goal

pub store-requires : goal.store-requires
store-requires c =
    let a = c.args in
    rw c.flush_count-count.ensures (store-of-flush a.u a.k a.n _ _ c.requires)

pub returns : goal.returns
returns c =
    let e = c.flush_count-count.ensures in
    record {
      value = e;
      disk_after = rw e at c.store.ensures;
      slots_after = rw e at c.free_bytes.ensures;
    }
