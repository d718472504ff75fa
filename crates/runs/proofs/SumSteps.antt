-- A sum leaves both ends as they are, accepted or refused. Assumes nothing.
use Prim.Native.Nat.{ℕ}
use mathlib.Core.Path.{◌≡◌}
use mathlib.Core.List.{List}
use Rattle.rules.specs.World.{World}
use Rattle.rules.specs.World as call
use Rattle.rules.specs.Step.{step}
use Rattle.rules.proofs.SumLaws.{primary-sum-state, standby-sum-state}

pub primary-sum-world : (w : World) → (step w call.primary_sum).next ≡ w
unfolding step
primary-sum-world w = rw (primary-sum-state w.primary.state w.primary.memory)

pub standby-sum-world : (w : World) (order : List ℕ) → (step w (call.standby_sum order)).next ≡ w
unfolding step
standby-sum-world w order = rw (standby-sum-state w.standby.state w.standby.memory order)
