-- `staging::store` meets its contract. The loop's invariant: the blocks of the first i slots are stored. Assumes nothing.
use mathlib.Core.Path.{◌≡◌}
use lib.ListN.{length}
use Rattle.staging.specs.Slot.{stored}
use Rattle.staging.proofs.store.Given as goal

abbrev pub invariant-loop-i : goal.invariant-loop-i
invariant-loop-i l = (length l.disk ≡ length l.initial.disk) × (l.disk ≡ stored l.u l.k.numbers l.slots l.initial.disk l.i)
