-- A trial of settings (document 02, Job 12): the two ends stepped tick by tick. Assumes nothing.
use Rattle.std.specs.Prelude.{ℕ, suc, ◌-◌, max, List, [], ◌∷◌, ◌++◌, drop, get_or}
use Rattle.rules.specs.World.{World}
use Rattle.rules.specs.Step.{Outcome}

-- a trial under way
pub record Trial : Type 0 where
  -- "interval, link bytes per tick"; T is in the state of both ends
  pub interval : ℕ
  pub rate : ℕ
  pub world : World
  -- the last tick begun, 0 before the first: "counted from 1"
  pub tick : ℕ
  -- the ticks in which the packets held were sent, the oldest first
  pub sent : List ℕ
  -- "the most ticks from a packet's sending to its take", of those taken
  pub most : ℕ

-- a trial goes on, or a step ended it: its letter and outcome, "printed as `pair` prints that step"
pub data Course : Type 0 where
  on : Trial → Course
  ended : Trial → ℕ → Outcome → Course

-- what is done next, where it goes on
abbrev pub and_then : Course → (Trial → Course) → Course
and_then (on t) f = f t
and_then (ended t letter o) f = ended t letter o

-- the trial of either
abbrev pub trial_in : Course → Trial
trial_in (on t) = t
trial_in (ended t letter o) = t

-- ---- what changes in it
abbrev pub with_world : Trial → World → Trial
with_world t w = record { interval = t.interval; rate = t.rate; world = w; tick = t.tick; sent = t.sent; most = t.most }

-- the next tick begins
abbrev pub with_tick : Trial → Trial
with_tick t = record { interval = t.interval; rate = t.rate; world = t.world; tick = suc t.tick; sent = t.sent; most = t.most }

-- a packet was sent in this tick
abbrev pub with_sent : Trial → Trial
with_sent t =
    record { interval = t.interval; rate = t.rate; world = t.world; tick = t.tick; sent = t.sent ++ (t.tick ∷ []); most = t.most }

-- the oldest packet was taken in this tick
abbrev pub with_taken : Trial → Trial
with_taken t =
    record {
      interval = t.interval;
      rate = t.rate;
      world = t.world;
      tick = t.tick;
      sent = drop 1 t.sent;
      most = max t.most (t.tick - get_or t.sent 0 0);
    }

-- ---- "the most ticks from a packet's sending to its take or the last tick begun, else 0"

-- the greatest of these and of the ticks from each to the last
unfoldable pub longest_to : ℕ → ℕ → List ℕ → ℕ
longest_to last most [] = most
longest_to last most (i ∷ is) = longest_to last (max most (last - i)) is

abbrev pub longest : Trial → ℕ
longest t = longest_to t.tick t.most t.sent
