-- Wrong standbys at which the claim of specs/Silence.antt is false, by computing at T 3; the first is right by document
-- 01, before Job 1. Each clause of the claim is used. Assumes nothing.
use Prim.Native.Nat.{ℕ, ◌≤◌}
use mathlib.Core.Path.{◌≡◌, refl, sym, ap, ◌∙◌, subst}
use mathlib.Core.Bool.{Bool, true, false, cond, ◌||◌, or-true, true≢false, false≢true}
use mathlib.Core.List.{List, [], ◌∷◌, ◌++◌}
use native.Mathlib.Omega.{arith}
use borrow.Author.Tests.{le-leb}
use lib.Dec.{leb, lit≤}
use lib.ListN.{replicate}
use Rattle.records.specs.Kind.{COMMIT}
use Rattle.rules.specs.declared.Mode.TheVariants.{Receiving}
use Rattle.rules.specs.declared.Standby.{Standby}
use Rattle.rules.specs.StandbyState.{is_taking_over, with_detector, with_no_ticks, with_mode}
use Rattle.rules.specs.World.{World, Call}
use Rattle.rules.specs.World as call
use Rattle.rules.specs.Step.{Stepped, step}
use Rattle.runs.specs.Run.{Both, Steps, run_call, run}
use Rattle.runs.specs.Silence.{silence_after, silence_from, HadSilence, receiving, SilenceRight, TakesOverOnlyInSilenceOf}
use Rattle.runs.proofs.Compute.{all_steps}
use Rattle.runs.proofs.CutLaws.{no_cut, counted-uncut}
use Rattle.runs.proofs.Small.{small, processor_of, buffers, begun, small-starts, sent, reads}
use Rattle.runs.proofs.Wrong.{instead_of, wrongly, accepts_kind, leaving, standby_with}

-- what the claim says of a list with no cut
right_after : (κ : Steps) → TakesOverOnlyInSilenceOf κ → (calls : List Call) → SilenceRight κ small begun calls
right_after κ d calls = subst (SilenceRight κ small begun) (counted-uncut calls) (d small (processor_of 1) buffers small-starts calls no_cut)

-- ---- "it was of t ticks or more after some first part", as a value that computes
abbrev had : Steps → ℕ → ℕ → Both → ℕ → List Call → Bool
had κ t u b n [] = leb t n
had κ t u b n (c ∷ cs) = leb t n || had κ t u (run_call κ u b c) (silence_after n c (κ.real b.world c).outcome) cs

had-of : (κ : Steps) (t u : ℕ) (before later : List Call) (b : Both) (n : ℕ) → t ≤ silence_from κ u b n before → had κ t u b n (before ++ later) ≡ true
had-of κ t u [] [] b n h = le-leb t n h
had-of κ t u [] (c ∷ later) b n h = rw (le-leb t n h)
had-of κ t u (c ∷ before) later b n h = rw (had-of κ t u before later (run_call κ u b c) (silence_after n c (κ.real b.world c).outcome) h) (or-true (leb t n))

had-not : (κ : Steps) (calls : List Call) → had κ 3 64 begun 0 calls ≡ false → HadSilence κ 64 begun 3 calls → ⊥
had-not κ calls e h = false≢true (sym e ∙ sym (ap (had κ 3 64 begun 0) h.parts) ∙ had-of κ 3 64 h.before h.later begun 0 h.ticks)

-- they took over, though no three ticks came without a record between them
took_over_early : (κ : Steps) → TakesOverOnlyInSilenceOf κ → (calls : List Call) → receiving (run κ 64 begun calls).world ≡ false → had κ 3 64 begun 0 calls ≡ false → ⊥
took_over_early κ d calls off e = had-not κ calls e ((right_after κ d calls).only_in_silence off)

abbrev ticks : ℕ → List Call
ticks n = replicate n call.standby_tick

-- the standby with another state
abbrev with_state : World → Standby → World
with_state w s = standby_with w s w.standby.memory w.standby.disk

-- ---- the count returned to 0 at COMMIT alone
-- not "at each accepted record of kinds 1 to 4, and not only at COMMIT"
abbrev pub resets_at_commit : World → Call → Stepped → Stepped
resets_at_commit w c s =
    cond (accepts_kind s COMMIT) s (leaving s (with_state s.next (with_detector s.next.standby.state w.standby.state.detector)))

-- it takes over within a checkpoint, at a tick after its BLOCK
pub refutes-reset-at-commit : TakesOverOnlyInSilenceOf (wrongly (instead_of (call.read 0 []) resets_at_commit)) → ⊥
unfolding all_steps
refutes-reset-at-commit d = took_over_early _ d (sent ++ (ticks 2 ++ (reads 1 ++ ticks 1))) refl refl

-- ---- a tick that counts twice
-- not "The standby's tick counts while receiving"
abbrev pub counts_twice : World → Call → Stepped → Stepped
counts_twice w c s = step s.next c

pub refutes-counting-twice : TakesOverOnlyInSilenceOf (wrongly (instead_of call.standby_tick counts_twice)) → ⊥
unfolding all_steps
refutes-counting-twice d = took_over_early _ d (ticks 2) refl refl

-- ---- the count returned to 0 at every read, also one cut short
-- not "each accepted record"
abbrev pub resets_always : World → Call → Stepped → Stepped
resets_always w c s = leaving s (with_state s.next (with_no_ticks s.next.standby.state))

pub refutes-reset-when-cut-short : TakesOverOnlyInSilenceOf (wrongly (instead_of (call.read 0 []) resets_always)) → ⊥
unfolding all_steps
refutes-reset-when-cut-short d =
    let z : ◌≡◌ {A = ℕ} 0 1 = (right_after _ d (ticks 1 ++ reads 1)).counts refl in omega arith

-- ---- a standby that never takes over: the T-th tick changes nothing
-- not "At T it takes over"
abbrev pub waits_on : World → Call → Stepped → Stepped
waits_on w c s = cond (is_taking_over s.next.standby.state.mode) (leaving s w) s

pub refutes-waiting-on : TakesOverOnlyInSilenceOf (wrongly (instead_of call.standby_tick waits_on)) → ⊥
unfolding all_steps
refutes-waiting-on d =
    true≢false ((right_after _ d (ticks 3)).in_silence (record { before = ticks 3; later = []; parts = refl; ticks = lit≤ tt }))

-- ---- one that receives again at the next read
-- not "a record when not receiving" (13)
abbrev pub receives_again : World → Call → Stepped → Stepped
receives_again w c s = cond (receiving w) s (leaving s (with_state w (with_mode (with_no_ticks w.standby.state) Receiving)))

pub refutes-receiving-again : TakesOverOnlyInSilenceOf (wrongly (instead_of (call.read 0 []) receives_again)) → ⊥
unfolding all_steps
refutes-receiving-again d =
    true≢false ((right_after _ d (ticks 3 ++ reads 1)).in_silence (record { before = ticks 3; later = reads 1; parts = refl; ticks = lit≤ tt }))
