-- `primary_calls::primary_acknowledge` meets its contract. Assumes nothing.
use mathlib.Core.Path.{ap}
use Rattle.rules.proofs.QueueLaws.{ack-kept}
use Rattle.capi.proofs.PrimaryWordLaws.{primary-many}
use Rattle.capi.proofs.KeptLaws.{kept-stores}
use Rattle.capi.proofs.primary_calls.primary_acknowledge.Goals as goal

pub store_one-requires : goal.store_one-requires
store_one-requires c =
    let s = c.in-Some.ensures in
    let one = kept-stores _ _ _ _ s.1 (ack-kept _ _) (ap (λ x. x.state) c.acknowledge-r.ensures.value) in
    (primary-many _ s.0, s.0, one.0, one.1, one.2, one.3)
