-- A trial is a run of the two ends, so that demand 3 holds of it, and what its last line says. Assumes nothing.
use Rattle.std.specs.Prelude.{ℕ, ◌≤◌, ◌<◌, ◌≡◌, Bool, false, List, [], ◌∷◌, ◌++◌, map, length}
use Rattle.rules.specs.World.{World, Call}
use Rattle.rules.specs.World as call
use Rattle.rules.specs.Step.{Outcome, outcome, step}
use Rattle.text.specs.Feed.{first_reading, fed_all}
use Rattle.script.specs.Command.{letter_k}
use Rattle.script.specs.Pair.{processor_of, zero_buffers, settings_with, link_room}
use Rattle.runs.specs.Run.{Both, steps, run, start_both}
use Rattle.runs.specs.Cut.{Cut, counted_calls}
use Rattle.runs.specs.Demand3.{WholeRun}
use Rattle.trials.specs.Trial.{Trial, Course, trial_in, longest, with_tick}
use Rattle.trials.specs.Trial as course
use Rattle.trials.specs.Part.{Made, Part, nothing, note, then, in_order, whilst}
use Rattle.trials.specs.Tick.{guest_parts, reads_on, read_turn, reading, acks_unread, ack_turn, acks, may_take, take_turn, takes, tick}
use Rattle.trials.specs.Waits.{is_packet, is_take, accepted_in, waits, greatest}
use Rattle.trials.specs.Output.{Stage, plan_refusal, first_trial, trial_program}
use Rattle.trials.specs.Output as stage

-- a tick's line: "pages and blocks written and packets sent"
pub record Row : Type 0 where
  pub pages : ℕ
  pub blocks : ℕ
  pub packets : ℕ

-- tick after tick, while the trial goes on
unfoldable pub ticks : List Row → Part
ticks [] = nothing
ticks (r ∷ rs) = then (tick r.pages r.blocks r.packets) (ticks rs)

-- the calls of a trial, as a list of demand 3's
abbrev pub calls_of : List Made → List Call
calls_of log = map (λ (m : Made). m.call) log

-- ---- the bounds of what is repeated are enough: with any larger one the same becomes of the trial, and the same calls
-- are made
abbrev pub Same : Part → Part → Trial → Type 0
Same p q t = (p.course t ≡ q.course t) × (p.made t ≡ q.made t)

-- of a part that is repeated while a test holds: it ends where the test does not hold
pub record Enough (test : Trial → Bool) (turn : Part) (size : Trial → ℕ) (part : Part) (t : Trial) : Type 0 where
  pub same : (n : ℕ) → size t < n → Same (whilst test turn n) part t
  pub until : (v : Trial) → part.course t ≡ course.on v → test v ≡ false

pub record BoundsEnough (t : Trial) : Type 0 where
  pub reading_bound : Enough reads_on read_turn (λ u. length u.world.link) reading t
  pub acks_bound : Enough acks_unread ack_turn (λ u. length u.world.acks) acks t
  pub takes_bound : Enough may_take take_turn (λ u. u.world.primary.state.queue.count) takes t

abbrev pub EveryBound : Type 0
EveryBound = (t : Trial) → BoundsEnough t

-- ---- calls whose number is not looked at are accepted
pub record QuietAccepted (w : World) : Type 0 where
  pub drain : (n : ℕ) (destination : List ℕ) → (step w (call.drain n destination)).outcome.number ≡ 0
  pub flush : (n : ℕ) → (step w (call.flush n)).outcome.number ≡ 0
  pub primary_tick : (step w call.primary_tick).outcome.number ≡ 0
  pub standby_tick : (step w call.standby_tick).outcome.number ≡ 0

-- ---- the parts of a tick before the link's bytes
abbrev pub before_link : Row → Part
before_link r = in_order (note with_tick) (guest_parts r.pages r.blocks r.packets)

-- ---- the trial of these settings after these ticks
module _ (interval rate t : ℕ) (rows : List Row) where
  abbrev pub course_after : Course
  course_after = (ticks rows).course (first_trial interval rate t)

  abbrev pub log_after : List Made
  log_after = (ticks rows).made (first_trial interval rate t)

  abbrev pub start_pair : Both
  start_pair = start_both (settings_with t) (processor_of 0) (zero_buffers (settings_with t))

  abbrev pub pair_after : Both
  pair_after = run steps (settings_with t).u start_pair (calls_of log_after)

  pub record TrialRight : Type 0 where
    -- its world, going on or ended, is that of the run of its calls
    pub world : (trial_in course_after).world ≡ pair_after.world
    -- and demand 3 holds of them, wherever the pair is cut
    pub anywhere : (cut : Cut) → WholeRun steps (settings_with t) start_pair (counted_calls cut (calls_of log_after))
    -- after whichever calls, those whose number is not looked at are accepted
    pub quiet : (calls : List Call) → QuietAccepted (run steps (settings_with t).u start_pair calls).world
    -- all that waits fits what is free of the link when it is drained, in the next tick
    pub fits : (u v : Trial) (r : Row) → course_after ≡ course.on u → (before_link r).course u ≡ course.on v
        → v.world.primary.state.waiting ≤ link_room v.world
    -- a takeover prints 0 and the last checkpoint wholly received, the plain pair's r
    pub takeover : (end : Trial) (o : Outcome) → course_after ≡ course.ended end letter_k o → o ≡ outcome 0 pair_after.plain.r
    -- the last line is the greatest of the packets' waits
    pub longest_is : longest (trial_in course_after)
        ≡ greatest (waits (trial_in course_after).tick (accepted_in is_packet start_pair.world log_after) (accepted_in is_take start_pair.world log_after))

-- of every first line that is accepted, and every list of ticks
abbrev pub EveryTrial : Type 0
EveryTrial = (interval rate t : ℕ) → plan_refusal interval rate t ≡ 0 → (rows : List Row) → TrialRight interval rate t rows

-- ---- what the program keeps after whichever input: the trial of some first line that is accepted, after some ticks
pub record IsTrial (u : Trial) (over : Bool) : Type 0 where
  pub interval : ℕ
  pub rate : ℕ
  pub t : ℕ
  pub rows : List Row
  pub accepted : plan_refusal interval rate t ≡ 0
  pub is : u ≡ trial_in (course_after interval rate t rows)
  -- until the run has ended it goes on, and the course of a further line of these numbers is that of one tick more
  pub goes : over ≡ false → course_after interval rate t rows ≡ course.on u
  pub next : over ≡ false → (r : Row) → (tick r.pages r.blocks r.packets).course u ≡ course_after interval rate t (rows ++ (r ∷ []))

abbrev pub Reached : Stage → Bool → Type 0
Reached stage.unbegun over = Unit {0}
Reached (stage.begun u) over = IsTrial u over

abbrev pub EveryInput : Type 0
EveryInput = (input : List ℕ) → let r = fed_all trial_program (first_reading trial_program) input in Reached r.state r.over
