-- What `trial` prints for its input. Assumes nothing.
use Rattle.std.specs.Prelude.{ℕ, Bool, true, false, cond, ◌&&◌, List, [], ◌∷◌, ◌++◌, ltb, eqb}
use Rattle.lists.specs.Refusal.{Test, test, refusal}
use Rattle.records.specs.Number.{out_of_range, no_plan}
use Rattle.text.specs.declared.Line.{Line}
use Rattle.text.specs.Line.{space, newline}
use Rattle.text.specs.Decimal.{decimal, most_number}
use Rattle.text.specs.Row.{is_row, row_at, is_row_kept}
use Rattle.text.specs.Kept.{no_line, line_with, is_empty_line}
use Rattle.text.specs.Feed.{Answered, Program, output}
use Rattle.rules.specs.World.{World, start_number}
use Rattle.rules.specs.Step.{Outcome, outcome}
use Rattle.script.specs.Command.{question_mark}
use Rattle.script.specs.Pair.{settings_with, started_with, zero_buffers}
use Rattle.script.specs.Output.{printed}
use Rattle.trials.specs.Trial.{Trial, Course, longest}
use Rattle.trials.specs.Trial as course
use Rattle.trials.specs.Tick.{tick}

-- before the first line, and after it
pub data Stage : Type 0 where
  unbegun : Stage
  begun : Trial → Stage

-- ---- "It prints for each tick the open epoch, packets held and stream bytes waiting"
unfoldable pub tick_line : World → List ℕ
tick_line w =
    let p = w.primary.state in
    decimal p.epoch ++ (space ∷ (decimal p.queue.count ++ (space ∷ (decimal p.waiting ++ (newline ∷ [])))))

-- "and last, however it ends, the most ticks .."
unfoldable pub last_line : ℕ → List ℕ
last_line most = decimal most ++ (newline ∷ [])

-- ---- a step that ends the run, and the last line
abbrev pub last_answered : Stage → ℕ → Outcome → ℕ → Answered Stage
last_answered s letter o most = record { next = s; printed = printed letter o ++ last_line most; last = true }

-- ---- "The first three are one line", the plan: "27 when the interval or the link rate is 0, after 1", by start's number
abbrev pub plan_tests : ℕ → ℕ → ℕ → List Test
plan_tests started interval rate = test out_of_range (eqb started 0) ∷ test no_plan (ltb 0 interval && ltb 0 rate) ∷ []

unfoldable pub plan_refusal : ℕ → ℕ → ℕ → ℕ
plan_refusal interval rate t = refusal (plan_tests (start_number (settings_with t) (zero_buffers (settings_with t))) interval rate)

abbrev pub first_trial : ℕ → ℕ → ℕ → Trial
first_trial interval rate t = record { interval = interval; rate = rate; world = started_with t; tick = 0; sent = []; most = 0 }

-- a bad line is 1
abbrev pub plan_number : Bool → ℕ → ℕ → ℕ → ℕ
plan_number good interval rate t = cond good (plan_refusal interval rate t) out_of_range

-- "a bad line, 1 and 27 end it, printed with `?`"
abbrev pub plan_refused : ℕ → Answered Stage
plan_refused number = last_answered unbegun question_mark (outcome number 0) 0

abbrev pub answer_plan : Bool → ℕ → ℕ → ℕ → Answered Stage
answer_plan good interval rate t =
    let number = plan_number good interval rate t in
    cond (eqb number 0) (record { next = begun (first_trial interval rate t); printed = []; last = false }) (plan_refused number)

-- ---- "each tick another": a bad line begins no tick. Ticks are numbers of `pair` too, at most 4,294,967,295, and a
-- further line is a bad one
abbrev pub tick_course : Bool → ℕ → ℕ → ℕ → Trial → Course
tick_course good pages blocks packets t =
    cond (good && ltb t.tick most_number) ((tick pages blocks packets).course t) (course.ended t question_mark (outcome out_of_range 0))

-- "ends the run, its tick's line left out"
abbrev pub answer_course : Course → Answered Stage
answer_course (course.on t) = record { next = begun t; printed = tick_line t.world; last = false }
answer_course (course.ended t letter o) = last_answered (begun t) letter o (longest t)

-- ---- a line, by whether it is three numbers and by these
abbrev pub answer_row : Stage → Bool → ℕ → ℕ → ℕ → Answered Stage
answer_row unbegun good a b c = answer_plan good a b c
answer_row (begun t) good a b c = answer_course (tick_course good a b c t)

-- at the end of the input
abbrev pub finished : Stage → List ℕ
finished unbegun = last_line 0
finished (begun t) = last_line (longest t)

abbrev pub trial_program : Program Stage Line
trial_program =
    record {
      start = unbegun;
      answer = λ s line. answer_row s (is_row line) (row_at line 0) (row_at line 1) (row_at line 2);
      no_line = no_line;
      line_with = line_with;
      is_empty_line = is_empty_line;
      answer_kept = λ s l. answer_row s (is_row_kept l) l.lead.value l.first.value l.second.value;
      finish = finished;
    }

abbrev pub trial_output : List ℕ → List ℕ
trial_output input = output trial_program input
