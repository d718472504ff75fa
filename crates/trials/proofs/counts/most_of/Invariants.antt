-- `trials::counts::most_of` meets its contract. The loop's invariant: the rest, from what is kept, gives what all give.
use mathlib.Core.Path.{◌≡◌}
use lib.ListN.{drop}
use Rattle.trials.specs.Trial.{longest_to}
use Rattle.trials.proofs.counts.most_of.Given as goal

abbrev pub invariant-loop-begun : goal.invariant-loop-begun
invariant-loop-begun l = longest_to l.fn.tick l.fn.most l.fn.sent ≡ longest_to l.fn.tick l.longest (drop l.begun-index l.fn.sent)
