-- What the code keeps, as the definitions say it. Assumes nothing.
use Rattle.std.specs.Prelude.{ℕ, ◌≡◌, ◌<◌, Bool, cond, List, take, Option, Some, None, Result, Ok, Err}
use Rattle.rules.specs.Step.{outcome}
use Rattle.script.specs.declared.Site.{Site}
use Rattle.script.specs.Site.{world_of}
use Rattle.trials.specs.declared.TrialSite.{TrialSite}
use Rattle.trials.specs.declared.TrialEnd.{TrialEnd}
use Rattle.trials.specs.Trial.{Trial, Course, on, ended}
use Rattle.trials.specs.Part.{Part}
use Rattle.trials.specs.Output.{Stage, unbegun, begun}

-- one tick is kept for each packet held
unfoldable pub trial_of : TrialSite → Trial
trial_of t =
    record {
      interval = t.interval;
      rate = t.rate;
      world = world_of t.site;
      tick = t.tick;
      sent = take t.site.primary.state.queue.count t.sent;
      most = t.most;
    }

-- with another site, and the packets' ticks and the most ticks that go with it
abbrev pub kept_with : TrialSite → Site → List ℕ → ℕ → TrialSite
kept_with t s sent most = record { interval = t.interval; rate = t.rate; site = s; tick = t.tick; sent = sent; most = most }

-- the step that ended it
abbrev pub end_of : TrialEnd → Course
end_of e = ended (trial_of e.trial) e.letter (outcome e.number e.value)

abbrev pub course_of : Result TrialSite TrialEnd → Course
course_of (Ok t) = on (trial_of t)
course_of (Err e) = end_of e

abbrev pub stage_of : Option TrialSite → Stage
stage_of None = unbegun
stage_of (Some t) = begun (trial_of t)

-- ---- what is done several times in a tick

-- for each number: what it leaves of any trial, at the numbers below n, is the course of the part of that number
abbrev pub DoesAt : ℕ → (TrialSite → ℕ → Result TrialSite TrialEnd → Type 0) → (ℕ → Part) → Type 0
DoesAt n does part = (t : TrialSite) (i : ℕ) (r : Result TrialSite TrialEnd) → i < n → does t i r → course_of r ≡ (part i).course (trial_of t)

-- while a test holds: a turn gives nothing where the test doesn't hold, else the part's course
abbrev pub turn_of : Result (Option TrialSite) TrialEnd → Option Course
turn_of (Ok None) = None
turn_of (Ok (Some t)) = Some (on (trial_of t))
turn_of (Err e) = Some (end_of e)

abbrev pub turn : (Trial → Bool) → Part → Trial → Option Course
turn test part t = cond (test t) (Some (part.course t)) None

abbrev pub Turns : (TrialSite → Result (Option TrialSite) TrialEnd → Type 0) → (Trial → Bool) → Part → Type 0
Turns does test part = (t : TrialSite) (r : Result (Option TrialSite) TrialEnd) → does t r → turn_of r ≡ turn test part (trial_of t)
