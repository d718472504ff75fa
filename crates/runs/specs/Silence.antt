-- When the standby takes over (document 02, Job 1): in silence, and only in silence. Demand 3 says what a takeover
-- gives, and has nothing against one that comes too soon. Of a pair begun by Start. Assumes nothing.
use Rattle.std.specs.Prelude.{ℕ, ◌+◌, ◌≤◌, ◌≡◌, Bool, true, false, cond, List, [], ◌∷◌, ◌++◌}
use Rattle.lists.specs.Refusal.{pick}
use Rattle.settings.specs.declared.Settings.{Settings}
use Rattle.rules.specs.StandbyState.{is_receiving}
use Rattle.rules.specs.World.{World, Processor, Call, Buffers}
use Rattle.rules.specs.World as call
use Rattle.rules.specs.Step.{Outcome}
use Rattle.runs.specs.Run.{Both, Steps, steps, run_call, run, start_both}
use Rattle.runs.specs.Cut.{Cut, counted_calls}
use Rattle.runs.specs.Corollaries.{AfterStart}

-- ---- the silence: the standby's ticks since the last record that it accepted, of whichever kind, or since start

-- the standby's read, its tick, and the other calls once
abbrev pub by_call : Call → Bool → Bool → Bool → Bool
by_call c read tick rest =
    elim c [
      | call.memory_write page offset bytes ↦ rest
      | call.disk_write block bytes ↦ rest
      | call.packet port bytes ↦ rest
      | call.checkpoint processor ↦ rest
      | call.drain n destination ↦ rest
      | call.ack n ↦ rest
      | call.take port destination ↦ rest
      | call.primary_tick ↦ rest
      | call.primary_sum ↦ rest
      | call.read n reply ↦ read
      | call.flush n ↦ rest
      | call.standby_tick ↦ tick
      | call.activation ↦ rest
      | call.active_memory_write page offset bytes ↦ rest
      | call.active_disk_write block bytes ↦ rest
      | call.standby_sum order ↦ rest
    ]

-- which call ends it, if it is accepted: the standby's read
abbrev pub ends_silence : Call → Bool
ends_silence c = by_call c true false false

-- which call adds a tick to it, if it is accepted: the standby's tick
abbrev pub adds_tick : Call → Bool
adds_tick c = by_call c false true false

-- the ticks after a call with this outcome, where there were n before it: a call refused or cut short leaves them
abbrev pub silence_after : ℕ → Call → Outcome → ℕ
silence_after n c o = pick o.number (cond (ends_silence c) 0 (cond (adds_tick c) (n + 1) n)) n

-- and after a list of calls
abbrev pub silence_from : Steps → ℕ → Both → ℕ → List Call → ℕ
silence_from κ u b n [] = n
silence_from κ u b n (c ∷ cs) = silence_from κ u (run_call κ u b c) (silence_after n c (κ.real b.world c).outcome) cs

-- from start on
abbrev pub silence : Steps → ℕ → Both → List Call → ℕ
silence κ u b calls = silence_from κ u b 0 calls

-- after some first part of a list it was of t ticks or more
pub record HadSilence (κ : Steps) (u : ℕ) (b : Both) (t : ℕ) (calls : List Call) : Type 0 where
  pub before : List Call
  pub later : List Call
  pub parts : before ++ later ≡ calls
  pub ticks : t ≤ silence κ u b before

-- ---- the claim

abbrev pub receiving : World → Bool
receiving w = is_receiving w.standby.state.mode

-- after a list of calls that begins at b, a pair just started
pub record SilenceRight (κ : Steps) (g : Settings) (b : Both) (calls : List Call) : Type 0 where
  -- a standby that receives has counted the silence
  pub counts : receiving (run κ g.u b calls).world ≡ true → (run κ g.u b calls).world.standby.state.detector.count ≡ silence κ g.u b calls
  -- one that does not receive had T ticks with no accepted record between them
  pub only_in_silence : receiving (run κ g.u b calls).world ≡ false → HadSilence κ g.u b g.t calls
  -- and one that had them does not receive, nor ever again
  pub in_silence : HadSilence κ g.u b g.t calls → receiving (run κ g.u b calls).world ≡ false

-- for every accepted start, every list of calls and every cut
abbrev pub TakesOverOnlyInSilenceOf : Steps → Type 0
TakesOverOnlyInSilenceOf κ =
    AfterStart (λ (g : Settings) (processor : Processor) (buffers : Buffers).
    (calls : List Call) (cut : Cut) → SilenceRight κ g (start_both g processor buffers) (counted_calls cut calls))

abbrev pub TakesOverOnlyInSilence : Type 0
TakesOverOnlyInSilence = TakesOverOnlyInSilenceOf steps
