-- `trials::turns::repeat` meets its contract. The loop's invariant: what is left to do, from here, gives what all gives.
use Prim.Native.Nat.{suc}
use mathlib.Core.Path.{◌≡◌}
use mathlib.Core.Bool.{Bool}
use Rattle.trials.specs.Trial.{Trial}
use Rattle.trials.specs.Part.{Part, whilst}
use Rattle.trials.specs.Site.{trial_of, Turns}
use Rattle.trials.proofs.turns.repeat.Given as goal

abbrev pub invariant-loop-turn : goal.invariant-loop-turn
invariant-loop-turn g l =
    (test : Trial → Bool) (part : Part) → Turns (goal.F-post g l.turn) test part
    → (whilst test part (suc l.fn.n)).course (trial_of l.fn.t) ≡ (whilst test part (suc l.left)).course (trial_of l.trial)

abbrev pub decreases-loop-turn : goal.decreases-loop-turn
decreases-loop-turn g l = l.left
