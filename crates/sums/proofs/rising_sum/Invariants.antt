-- `sums::rising_sum` meets its contract. The loop's invariant: the pages below p are added. Assumes nothing.
use mathlib.Core.Path.{◌≡◌}
use Rattle.sums.specs.Sum.{sum_over, rising}
use Rattle.sums.proofs.rising_sum.Given as goal

abbrev pub invariant-loop-p : goal.invariant-loop-p
invariant-loop-p l = l.total ≡ sum_over l.u l.image (rising l.p)
