-- A list of calls run on the world and, beside it, on the plain pair. Assumes nothing.
use Rattle.std.specs.Prelude.{ℕ, List, [], ◌∷◌}
use Rattle.settings.specs.declared.Settings.{Settings}
use Rattle.rules.specs.World.{World, Processor, Call, Buffers, start_world}
use Rattle.rules.specs.Step.{Outcome, Stepped, step}
use Rattle.runs.specs.Plain.{Plain, plain_start, plain_step}

pub record Both : Type 0 where
  pub world : World
  pub plain : Plain

-- the two ways of making a call: on the real ends and on the plain pair. A refutation puts a wrong one in the place of
-- either
pub record Steps : Type 0 where
  pub real : World → Call → Stepped
  pub plain : ℕ → Call → Outcome → Plain → Plain

-- the documents'
abbrev pub steps : Steps
steps = record { real = step; plain = plain_step }

-- one call: the plain pair is told the call, its number and its value
abbrev pub run_call : Steps → ℕ → Both → Call → Both
run_call κ u b c =
    let s = κ.real b.world c in
    record { world = s.next; plain = κ.plain u c s.outcome b.plain }

abbrev pub run : Steps → ℕ → Both → List Call → Both
run κ u b [] = b
run κ u b (c ∷ cs) = run κ u (run_call κ u b c) cs

-- after start, with an empty link
abbrev pub start_both : Settings → Processor → Buffers → Both
start_both g processor b =
    record { world = start_world g processor b; plain = plain_start b.memory b.disk processor.bytes }
