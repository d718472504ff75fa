-- The block is among all where it is among those not yet passed. Assumes nothing.
use mathlib.Core.Path.{◌≡◌}
use lib.ListN.{take, drop}
use Rattle.lists.specs.Select.{is_in}
use Rattle.primary.proofs.writes.is_in.Given as goal

abbrev pub invariant-loop-number : goal.invariant-loop-number
invariant-loop-number l = is_in l.block (drop l.number-index l.number-items) ≡ is_in l.block (take l.n l.fn.numbers)
