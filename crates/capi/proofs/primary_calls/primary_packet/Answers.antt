-- `primary_calls::primary_packet` meets its contract. Assumes nothing.
use Rattle.capi.proofs.PrimaryWordLaws.{primary-many, packets-many}
use Rattle.capi.proofs.KeptLaws.{packet-stores}
use Rattle.capi.proofs.primary_calls.primary_packet.Goals as goal

pub store_one-requires : goal.store_one-requires
store_one-requires c =
    let s = c.in-Some.ensures in
    let one = packet-stores _ _ _ _ _ _ _ s.1 (packets-many _ s.0) c.packet-r.ensures.value c.if_accepted-packet.ensures in
    (primary-many _ s.0, s.0, one.0, one.1, one.2, one.3)
