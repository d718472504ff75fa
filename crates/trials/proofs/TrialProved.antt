-- A trial is a run of the two ends: demand 3 holds of it, and its last line is the greatest of the packets' waits.
-- Assumes nothing.
use Prim.Native.Nat.{ℕ}
use mathlib.Core.Path.{◌≡◌, refl, subst}
use mathlib.Core.List.{List, []}
use native.Mathlib.Omega.{arith}
use borrow.Author.Tests.{eqb-true}
use Rattle.lists.proofs.TestLaws.{accepted}
use Rattle.rules.specs.World.{start_number, start_world}
use Rattle.script.specs.Pair.{settings_with, zero_buffers, processor_of}
use Rattle.runs.specs.Run.{start_both}
use Rattle.runs.proofs.Frame.{run-inv}
use Rattle.runs.proofs.Proved.{per-call, demand-3}
use Rattle.runs.proofs.StartCall.{start-law}
use Rattle.trials.specs.Trial.{trial_in}
use Rattle.trials.specs.Output.{plan_tests, plan_refusal, first_trial}
use Rattle.trials.specs.Runs.{Row, calls_of, course_after, log_after, TrialRight, EveryTrial}
use Rattle.trials.proofs.PartLaws.{After}
use Rattle.trials.proofs.WaitLaws.{kept-longest}
use Rattle.trials.proofs.RunLaws.{Going, Ended}
use Rattle.trials.proofs.TrialLaws.{keeps-ticks, going-first, tracked-in, takeover-in}
use Rattle.trials.proofs.FitLaws.{ticks-short, all-fits, quiet-accepted}

module _ (t : ℕ) (ok : start_number (settings_with t) (zero_buffers (settings_with t)) ≡ 0) where
  trial-right : (interval rate : ℕ) (rows : List Row) → TrialRight interval rate t rows
  unfolding start_world
  trial-right interval rate rows =
      let g = settings_with t in
      let first = first_trial interval rate t in
      let begun = going-first t ok interval rate in
      let a = keeps-ticks t ok rows [] first begun in
      let log = log_after interval rate t rows in
      let c = course_after interval rate t rows in
      let f = tracked-in t ok log c a in
      record {
        world = f.world;
        anywhere = λ cut. demand-3 g (processor_of 0) (zero_buffers g) ok (calls_of log) cut;
        quiet = λ calls. quiet-accepted t _ (run-inv g (per-call g) calls (start_both g (processor_of 0) (zero_buffers g)) (start-law g (processor_of 0) (zero_buffers g) ok));
        fits = λ u v r e h. all-fits t ok log u v r (subst (After (Going t ok) (Ended t ok) log) e a) (ticks-short t ok rows [] first u begun (omega arith) e) h;
        takeover = λ end o e. takeover-in t ok log c end o a e;
        longest_is = kept-longest (trial_in c).tick _ _ (trial_in c).sent (trial_in c).most f.kept;
      }

-- of every plan that is accepted
pub plan-right : EveryTrial
unfolding plan_refusal
plan-right interval rate t e rows = trial-right t (eqb-true _ _ (accepted (plan_tests (start_number (settings_with t) (zero_buffers (settings_with t))) interval rate) refl e).0) interval rate rows
