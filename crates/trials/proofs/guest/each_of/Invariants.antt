-- `trials::guest::each_of` meets its contract. The loop's invariant: what is left to do, from here, gives what all gives.
use Prim.Native.Nat.{ℕ}
use mathlib.Core.Path.{◌≡◌}
use Rattle.trials.specs.Part.{Part, each}
use Rattle.trials.specs.Site.{trial_of, DoesAt}
use Rattle.trials.proofs.LoopLaws.{rest}
use Rattle.trials.proofs.guest.each_of.Given as goal

abbrev pub invariant-loop-i : goal.invariant-loop-i
invariant-loop-i g l =
    (part : ℕ → Part) → DoesAt l.n (goal.F-post g l.work) part → (each part 0 l.fn.n).course (trial_of l.fn.t) ≡ rest part l.fn.n l.i (trial_of l.trial)
