-- The standby takes over in silence, and only in silence: proved of every list of calls, from any pair whose standby
-- receives and has counted no tick; a pair just started is one. Assumes nothing.
use Prim.Native.Nat.{ℕ, ◌≤◌, ◌<◌}
use mathlib.Core.Path.{◌≡◌, refl, sym, ap, ◌∙◌, subst}
use mathlib.Core.Bool.{true, false}
use mathlib.Core.List.{List, [], ◌∷◌, ◌++◌}
use mathlib.Core.Logic.{⊎_elim}
use native.Mathlib.Omega.{arith}
use Rattle.lists.proofs.TestLaws.{by-test, not-both, refuted}
use Rattle.settings.specs.declared.Settings.{Settings}
use Rattle.settings.proofs.RangeLaws.{settings-facts}
use Rattle.rules.specs.World.{Processor, Call, Buffers, start_lent, start_number}
use Rattle.rules.specs.Step.{step}
use Rattle.rules.proofs.StartLaws.{start-accepted}
use Rattle.runs.specs.Run.{Both, steps, run_call, run, start_both}
use Rattle.runs.specs.Cut.{counted_calls}
use Rattle.runs.specs.Corollaries.{pair_after}
use Rattle.runs.specs.Silence.{silence_after, silence_from, silence, receiving, SilenceRight, TakesOverOnlyInSilence}
use Rattle.runs.proofs.PlainLaws.{run-append}
use Rattle.runs.proofs.StartCall.{begun-is}
use Rattle.runs.proofs.SilenceLaws.{Silent, step-goes}

module _ (g : Settings) where
  abbrev SilentPair : ℕ → Both → Type 0
  SilentPair n b = Silent g.t n b.world.standby.state

  abbrev after : Both → List Call → Both
  after b calls = run steps g.u b calls

  -- the ticks after one call more
  abbrev more : Both → ℕ → Call → ℕ
  more b n c = silence_after n c (step b.world c).outcome

  run-silent : (cs : List Call) (b : Both) (n : ℕ) → SilentPair n b → SilentPair (silence_from steps g.u b n cs) (after b cs)
  run-silent [] b n h = h
  run-silent (c ∷ cs) b n h = run-silent cs (run_call steps g.u b c) (more b n c) (step-goes g.t n b.world h c).silent

  -- once it does not receive it never does
  run-stays : (cs : List Call) (b : Both) (n : ℕ) → SilentPair n b → receiving b.world ≡ false → receiving (after b cs).world ≡ false
  run-stays [] b n h off = off
  run-stays (c ∷ cs) b n h off =
      let s = step-goes g.t n b.world h c in
      run-stays cs (run_call steps g.u b c) (more b n c) s.silent (s.stays off)

  -- the first part after which it does not receive ends with the T-th tick
  abbrev Had : Both → ℕ → List Call → Type 0
  Had b n cs = (before : List Call) × ((later : List Call) × ((before ++ later ≡ cs) × (g.t ≤ silence_from steps g.u b n before)))

  run-takes : (cs : List Call) (b : Both) (n : ℕ) → SilentPair n b → receiving b.world ≡ true → receiving (after b cs).world ≡ false → Had b n cs
  run-takes [] b n h on off = absurd (not-both _ on off)
  run-takes (c ∷ cs) b n h on off =
      let s = step-goes g.t n b.world h c in
      let next = run_call steps g.u b c in
      ⊎_elim
      (λ (still : receiving next.world ≡ true).
      let k = run-takes cs next (more b n c) s.silent still off in
      (c ∷ k.0, (k.1.0, (ap (λ (l : List Call). c ∷ l) k.1.1.0, k.1.1.1))))
      (λ (over : receiving next.world ≡ false). (c ∷ [], (cs, (refl, s.takes on over))))
      (by-test (receiving next.world))

  -- ---- from any pair whose standby receives and has counted no tick
  module _ (b : Both) (h : SilentPair 0 b) (on : receiving b.world ≡ true) where
    had-not-receives : (before later : List Call) → g.t ≤ silence steps g.u b before → receiving (after b (before ++ later)).world ≡ false
    had-not-receives before later ticks =
        let k = run-silent before b 0 h in
        let off : receiving (after b before).world ≡ false = sym (refuted _ (λ (e : receiving (after b before).world ≡ true). omega (arith, ticks, (k.count e).1))) in
        ap (λ (x : Both). receiving x.world) (run-append steps g.u before later b) ∙ run-stays later (after b before) _ k off

    silence-right : (calls : List Call) → SilenceRight steps g b calls
    silence-right calls =
        record {
          counts = λ receives. ((run-silent calls b 0 h).count receives).0;
          only_in_silence = λ off. let k = run-takes calls b 0 h on off in record { before = k.0; later = k.1.0; parts = k.1.1.0; ticks = k.1.1.1 };
          in_silence = λ had. subst (λ (l : List Call). receiving (after b l).world ≡ false) had.parts (had-not-receives had.before had.later had.ticks);
        }

-- ---- a pair just started
module _ (g : Settings) (processor : Processor) (buffers : Buffers) (started : start_number g buffers ≡ 0) where
  start-silent : SilentPair g 0 (start_both g processor buffers)
  start-silent =
      subst (SilentPair g 0) (sym (begun-is g processor buffers started))
      (record { patience = refl; count = λ _. (refl, (settings-facts g (start-accepted g (start_lent buffers) started).in_range).t-low) })

  start-receives : receiving (start_both g processor buffers).world ≡ true
  start-receives = ap (λ (b : Both). receiving b.world) (begun-is g processor buffers started)

  pub silence-right-of : (calls : List Call) → SilenceRight steps g (start_both g processor buffers) calls
  silence-right-of = silence-right g (start_both g processor buffers) start-silent start-receives

pub takes-over-only-in-silence : TakesOverOnlyInSilence
takes-over-only-in-silence g processor buffers started calls cut = silence-right-of g processor buffers started (counted_calls cut calls)

-- ---- the same in other words

-- where every T ticks have an accepted record between them, the standby receives
pub receives-while-records-come : (g : Settings) (processor : Processor) (buffers : Buffers) → start_number g buffers ≡ 0 → (calls : List Call)
    → ((before later : List Call) → before ++ later ≡ calls → silence steps g.u (start_both g processor buffers) before < g.t)
    → receiving (pair_after g processor buffers calls).world ≡ true
receives-while-records-come g processor buffers started calls come =
    ⊎_elim (λ on. on)
    (λ off.
    let had = (silence-right-of g processor buffers started calls).only_in_silence off in
    absurd (omega (arith, come had.before had.later had.parts, had.ticks)))
    (by-test (receiving (pair_after g processor buffers calls).world))
