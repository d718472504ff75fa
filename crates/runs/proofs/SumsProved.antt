-- The seventh claim of specs/Corollaries.antt, from the invariant. Assumes nothing.
use Prim.Native.Nat.{ℕ}
use mathlib.Core.Path.{◌≡◌, sym, ap, ◌∙◌}
use mathlib.Core.Bool.{cond}
use mathlib.Core.List.{List}
use borrow.Author.Tests.{eq-eqb}
use Rattle.records.specs.Number.{out_of_range}
use Rattle.settings.specs.declared.Settings.{Settings}
use Rattle.sums.specs.Sum.{image_sum, names_each}
use Rattle.rules.specs.Sums.{primary_sum_refusal, primary_sum_reply, standby_sum_refusal, standby_sum_reply}
use Rattle.rules.specs.World as call
use Rattle.rules.specs.Step.{outcome, step}
use Rattle.rules.proofs.SumLaws.{primary-sum-value, standby-sum-value}
use Rattle.runs.specs.Plain.{Checkpoint}
use Rattle.runs.specs.Run.{Both, start_both}
use Rattle.runs.specs.Cut.{counted_calls}
use Rattle.runs.specs.Corollaries.{SumsRight, SumsOfImages, pair_after, AfterStart}
use Rattle.runs.proofs.Invariant.{InvAt, Inv}
use Rattle.runs.proofs.KeptLaws.{lent-primary-memory, standby-m, lent-memory}
use Rattle.runs.proofs.Conclusions.{received_is}
use Rattle.runs.proofs.Frame.{Accepted, run-inv}
use Rattle.runs.proofs.StartCall.{start-law}
use Rattle.runs.proofs.Proved.{per-call}

module _ (g : Settings) (b : Both) (i : Inv g b) where
  v : InvAt g i.ghost b
  v = i.holds

  -- ---- when they are accepted: both ends are in range, and lent what start was lent
  primary-number : Accepted b call.primary_sum
  unfolding step primary_sum_reply primary_sum_refusal
  primary-number = rw (v.primary_kept.reached.range.in_range, eq-eqb _ _ (lent-primary-memory g b.world.primary v.primary_kept))

  standby-number : (order : List ℕ) → (step b.world (call.standby_sum order)).outcome.number ≡ cond (names_each g.m order) 0 out_of_range
  unfolding step standby_sum_reply standby_sum_refusal
  standby-number order =
      let k = v.standby_kept in
      rw (k.reached.range.in_range, eq-eqb _ _ (lent-memory g b.world.standby k), standby-m g b.world.standby k)

  -- ---- what they give then: the sum of the memory, which is the plain pair's
  primary-value : (step b.world call.primary_sum).outcome.value ≡ image_sum b.plain.memory
  unfolding step primary_sum_reply
  primary-value = primary-sum-value b.world.primary.state b.world.primary.memory primary-number ∙ ap image_sum v.images.memory_is

  primary-outcome : (step b.world call.primary_sum).outcome ≡ outcome 0 (image_sum b.plain.memory)
  primary-outcome =
      let o = (step b.world call.primary_sum).outcome in
      ap (λ (n : ℕ). outcome n o.value) primary-number ∙ ap (outcome 0) primary-value

  standby-value : (order : List ℕ) → Accepted b (call.standby_sum order) → (step b.world (call.standby_sum order)).outcome.value ≡ image_sum b.world.standby.memory
  unfolding step standby_sum_reply
  standby-value order e = standby-sum-value b.world.standby.state b.world.standby.memory order e

  sums-right : SumsRight g b
  sums-right =
      let t = v.taker in
      record {
        primary = primary-outcome;
        standby_number = standby-number;
        until_active = λ off order e. standby-value order e
            ∙ ap image_sum (t.memory_is (sym t.mode_is ∙ off) ∙ ap (λ (c : Checkpoint). c.memory) (sym (received_is v.history)));
        once_active = λ on order e. standby-value order e ∙ ap image_sum (t.active_memory (sym t.mode_is ∙ on));
      }

pub sums-of-images : AfterStart SumsOfImages
sums-of-images g processor buffers started calls cut =
    let b = start_both g processor buffers in
    let cs = counted_calls cut calls in
    sums-right g (pair_after g processor buffers cs) (run-inv g (per-call g) cs b (start-law g processor buffers started))
