-- `primary_calls::primary_disk_write` meets its contract. Assumes nothing.
use Rattle.capi.proofs.PrimaryWordLaws.{primary-many, numbers-many}
use Rattle.capi.proofs.KeptLaws.{disk-write-stores}
use Rattle.capi.proofs.primary_calls.primary_disk_write.Goals as goal

pub store_one-requires : goal.store_one-requires
store_one-requires c =
    let s = c.in-Some.ensures in
    let one = disk-write-stores _ _ _ _ _ _ _ _ s.1 (numbers-many _ s.0) c.disk_write-r.ensures.value c.if_below-number.ensures in
    (primary-many _ s.0, s.0, one.0, one.1, one.2, one.3)
