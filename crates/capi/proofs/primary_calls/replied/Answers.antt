-- `primary_calls::replied` meets its contract. Assumes nothing.
use mathlib.Core.Path.{refl}
use Rattle.capi.specs.PrimaryWords.{primary_of}
use Rattle.capi.proofs.PrimaryWordLaws.{primary-many}
use Rattle.capi.proofs.KeptLaws.{kept-stores}
use Rattle.capi.proofs.primary_calls.replied.Goals as goal

pub store_one-requires : goal.store_one-requires
store_one-requires c =
    let r = c.requires in
    let one = kept-stores (primary_of c.args.state.now) (primary_of c.args.state.now) c.args.r.state c.args.r.state refl (r.queue, r.numbers) refl in
    (primary-many _ r.ok, r.ok, one.0, one.1, one.2, one.3)
