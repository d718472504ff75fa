-- The parts of a tick: what becomes of a trial, and the calls that are made, but for a read that is cut short and a take
-- with 18, which end a loop and change nothing. Assumes nothing.
use Rattle.std.specs.Prelude.{ℕ, zero, suc, Bool, cond, List, [], ◌∷◌, ◌++◌, eqb}
use Rattle.rules.specs.World.{Call}
use Rattle.rules.specs.Step.{Outcome, step}
use Rattle.trials.specs.Trial.{Trial, Course, on, ended, and_then, with_world}

-- a call, and the tick in which it is made
pub record Made : Type 0 where
  pub tick : ℕ
  pub call : Call

pub record Part : Type 0 where
  pub course : Trial → Course
  pub made : Trial → List Made

-- the calls of what is done next
abbrev pub made_then : Course → (Trial → List Made) → List Made
made_then (on t) f = f t
made_then (ended t letter o) f = []

-- ---- no call
abbrev pub nothing : Part
nothing = record { course = λ t. on t; made = λ t. [] }

abbrev pub note : (Trial → Trial) → Part
note f = record { course = λ t. on (f t); made = λ t. [] }

-- ---- one call, and what follows from its outcome
abbrev pub called : (Trial → Call) → (Trial → Outcome → Course) → Part
called c follows =
    record {
      course = λ t. let s = step t.world (c t) in follows (with_world t s.next) s.outcome;
      made = λ t. record { tick = t.tick; call = c t } ∷ [];
    }

-- "A step refused .. ends the run"; accepted, something may be noted
abbrev pub unless_refused : ℕ → (Trial → Trial) → Trial → Outcome → Course
unless_refused letter f t o = cond (eqb o.number 0) (on (f t)) (ended t letter o)

abbrev pub must_note : ℕ → (Trial → Call) → (Trial → Trial) → Part
must_note letter c f = called c (unless_refused letter f)

abbrev pub must : ℕ → (Trial → Call) → Part
must letter c = must_note letter c (λ t. t)

-- a call that gives only 1, which no state of a trial does
abbrev pub quiet : (Trial → Call) → Part
quiet c = called c (λ t o. on t)

-- the last call
abbrev pub last : ℕ → (Trial → Call) → Part
last letter c = called c (λ t o. ended t letter o)

-- ---- parts put together

-- one after the other, while the trial goes on
abbrev pub then : Part → Part → Part
then p q =
    record {
      course = λ t. and_then (p.course t) q.course;
      made = λ t. p.made t ++ made_then (p.course t) q.made;
    }

abbrev pub in_order : Part → List Part → Part
in_order p [] = p
in_order p (q ∷ qs) = in_order (then p q) qs

-- where a test holds
abbrev pub when : (Trial → Bool) → Part → Part
when test p = record { course = λ t. cond (test t) (p.course t) (on t); made = λ t. cond (test t) (p.made t) [] }

-- for n numbers from this one on
unfoldable pub each : (ℕ → Part) → ℕ → ℕ → Part
each p from zero = nothing
each p from (suc n) = then (p from) (each p (suc from) n)

-- again and again while a test holds, n times at the most
unfoldable pub whilst : (Trial → Bool) → Part → ℕ → Part
whilst test p zero = nothing
whilst test p (suc n) = when test (then p (whilst test p n))

-- the same with a bound that depends on the trial
abbrev pub bounded : (Trial → ℕ) → (ℕ → Part) → Part
bounded n p = record { course = λ t. (p (n t)).course t; made = λ t. (p (n t)).made t }
