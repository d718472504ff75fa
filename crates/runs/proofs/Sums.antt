-- The sums keep both invariants: they change neither end nor the plain pair. Assumes nothing.
use Prim.Native.Nat.{ℕ}
use mathlib.Core.Path.{◌≡◌, refl, sym, subst}
use mathlib.Core.List.{List}
use Rattle.settings.specs.declared.Settings.{Settings}
use Rattle.rules.specs.World.{World, Call}
use Rattle.rules.specs.World as call
use Rattle.rules.specs.Step.{step}
use Rattle.rules.proofs.ReplyLaws.{pick-cases}
use Rattle.runs.specs.Plain.{Plain, plain_accepted, plain_step}
use Rattle.runs.specs.Run.{Both, steps, run_call}
use Rattle.runs.proofs.SumSteps.{primary-sum-world, standby-sum-world}
use Rattle.runs.proofs.Invariant.{Inv}
use Rattle.runs.proofs.Frame.{KeepsAccepted}
use Rattle.runs.proofs.Pending.{view_of, Pending, KeepsPending}

-- ---- any call that leaves both ends and, if it is accepted, the plain pair
pub record Unchanged (c : Call) : Type 0 where
  pub world : (w : World) → (step w c).next ≡ w
  pub plain : (u value : ℕ) (p : Plain) → plain_accepted u c value p ≡ p

module _ (c : Call) (same : Unchanged c) where
  -- accepted or not
  pub after_is : (u : ℕ) (b : Both) → run_call steps u b c ≡ b
  unfolding plain_step
  after_is u b =
      let o = (step b.world c).outcome in
      let plain : plain_step u c o b.plain ≡ b.plain
      = pick-cases (λ (p : Plain). p ≡ b.plain) o.number (plain_accepted u c o.value b.plain) b.plain (λ _. same.plain u o.value b.plain) (λ _. refl) in
      rw (plain, same.world b.world)

  unchanged-keeps : (g : Settings) → KeepsAccepted g c
  unchanged-keeps g b i e = subst (Inv g) (sym (after_is g.u b)) i

  unchanged-pending : (g : Settings) → KeepsPending g c
  unchanged-pending g b i e p = subst (λ (w : World). Pending g (view_of w)) (sym (same.world b.world)) p

-- ---- the sums
pub primary-sum-same : Unchanged call.primary_sum
unfolding plain_accepted
primary-sum-same = record { world = primary-sum-world; plain = λ u value p. refl }

pub standby-sum-same : (order : List ℕ) → Unchanged (call.standby_sum order)
unfolding plain_accepted
standby-sum-same order = record { world = λ w. standby-sum-world w order; plain = λ u value p. refl }

pub primary-sum-keeps : (g : Settings) → KeepsAccepted g call.primary_sum
primary-sum-keeps = unchanged-keeps call.primary_sum primary-sum-same

pub standby-sum-keeps : (g : Settings) (order : List ℕ) → KeepsAccepted g (call.standby_sum order)
standby-sum-keeps g order = unchanged-keeps (call.standby_sum order) (standby-sum-same order) g

pub primary-sum-pending : (g : Settings) → KeepsPending g call.primary_sum
primary-sum-pending = unchanged-pending call.primary_sum primary-sum-same

pub standby-sum-pending : (g : Settings) (order : List ℕ) → KeepsPending g (call.standby_sum order)
standby-sum-pending g order = unchanged-pending (call.standby_sum order) (standby-sum-same order) g
