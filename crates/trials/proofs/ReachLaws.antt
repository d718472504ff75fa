-- After whichever input the program keeps the trial of an accepted first line after some ticks. Assumes nothing.
use Prim.Native.Nat.{ℕ}
use mathlib.Core.Path.{◌≡◌, refl, sym, ap, ◌∙◌}
use mathlib.Core.Bool.{Bool, true, false, cond, ◌&&◌, true≢false}
use mathlib.Core.List.{List, [], ◌∷◌, ◌++◌}
use native.Mathlib.Omega.{arith}
use lib.Dec.{eqb, ltb}
use borrow.Author.Tests.{eqb-true}
use Rattle.text.specs.declared.Line.{Line}
use Rattle.text.specs.Line.{newline}
use Rattle.text.specs.Decimal.{most_number}
use Rattle.text.specs.Kept.{no_line, line_with}
use Rattle.text.specs.Row.{is_row_kept}
use Rattle.text.specs.Feed.{Answered, Reading, reading, first_reading, fed, fed_all}
use Rattle.records.specs.Number.{out_of_range}
use Rattle.rules.specs.Step.{outcome}
use Rattle.script.specs.Command.{question_mark}
use Rattle.script.specs.Output.{printed}
use Rattle.trials.specs.Trial.{Trial, Course, and_then, trial_in}
use Rattle.trials.specs.Trial as course
use Rattle.trials.specs.Tick.{tick}
use Rattle.trials.specs.Output.{Stage, plan_refusal, plan_number, answer_plan, answer_course, tick_course, answer_row, first_trial, last_line, trial_program}
use Rattle.trials.specs.Output as stage
use Rattle.trials.specs.Runs.{Row, ticks, course_after, Reached, EveryInput}
use Rattle.trials.proofs.PartLaws.{then-on}

-- ---- one tick more
then-then : (c : Course) (f g : Trial → Course) → and_then (and_then c f) g ≡ and_then c (λ u. and_then (f u) g)
then-then (course.on u) f g = refl
then-then (course.ended u letter o) f g = refl

abbrev tick_of : Row → Trial → Course
tick_of r = (tick r.pages r.blocks r.packets).course

ticks-more : (rows : List Row) (r : Row) (u : Trial) → (ticks (rows ++ (r ∷ []))).course u ≡ and_then ((ticks rows).course u) (tick_of r)
unfolding ticks
ticks-more [] r u = then-on (tick_of r u)
ticks-more (q ∷ rows) r u =
    ap (and_then (tick_of q u)) (λ i x. ticks-more rows r x i) ∙ sym (then-then (tick_of q u) (ticks rows).course (tick_of r))

-- ---- a trial that goes on
record Goes (u : Trial) : Type 0 where
  interval : ℕ
  rate : ℕ
  t : ℕ
  rows : List Row
  accepted : plan_refusal interval rate t ≡ 0
  is : course_after interval rate t rows ≡ course.on u

abbrev Waits : Stage → Type 0
Waits stage.unbegun = Unit {0}
Waits (stage.begun u) = Goes u

next_of : (u : Trial) (w : Goes u) (r : Row) → tick_of r u ≡ course_after w.interval w.rate w.t (w.rows ++ (r ∷ []))
next_of u w r = sym (ticks-more w.rows r (first_trial w.interval w.rate w.t) ∙ ap (λ (c : Course). and_then c (tick_of r)) w.is)

waits-reached : (s : Stage) (over : Bool) → Waits s → Reached s over
waits-reached stage.unbegun over w = tt
waits-reached (stage.begun u) over w =
    record {
      interval = w.interval;
      rate = w.rate;
      t = w.t;
      rows = w.rows;
      accepted = w.accepted;
      is = sym (ap trial_in w.is);
      goes = λ o. w.is;
      next = λ o r. next_of u w r;
    }

-- ---- what is kept after an answer
record Kept (a : Answered Stage) : Type 0 where
  reached : Reached a.next a.last
  waits : a.last ≡ false → Waits a.next

-- to the first line
good_of : (good : Bool) (interval rate t : ℕ) → plan_number good interval rate t ≡ 0 → plan_refusal interval rate t ≡ 0
good_of true interval rate t e = e
good_of false interval rate t e = absurd (omega arith)

first-is : (interval rate t : ℕ) → course_after interval rate t [] ≡ course.on (first_trial interval rate t)
unfolding ticks
first-is interval rate t = refl

kept-plan : (good : Bool) (interval rate t : ℕ) → Kept (answer_plan good interval rate t)
kept-plan good interval rate t = by (eqb (plan_number good interval rate t) 0) refl
  where
    first : plan_number good interval rate t ≡ 0 → Goes (first_trial interval rate t)
    first z = record { interval = interval; rate = rate; t = t; rows = []; accepted = good_of good interval rate t z; is = first-is interval rate t }

    by : (b : Bool) → eqb (plan_number good interval rate t) 0 ≡ b
        → Kept (cond b (record { next = stage.begun (first_trial interval rate t); printed = []; last = false })
        (record { next = stage.unbegun; printed = printed question_mark (outcome (plan_number good interval rate t) 0) ++ last_line 0; last = true }))
    by true h = let f = first (eqb-true (plan_number good interval rate t) 0 h) in record { reached = waits-reached (stage.begun (first_trial interval rate t)) false f; waits = λ z. f }
    by false h = record { reached = tt; waits = λ z. absurd (true≢false z) }

-- to a tick's line
kept-course : (u : Trial) (w : Goes u) (r : Row) (c : Course) → tick_of r u ≡ c → Kept (answer_course c)
kept-course u w r (course.on v) e =
    let f : Goes v = record { interval = w.interval; rate = w.rate; t = w.t; rows = w.rows ++ (r ∷ []); accepted = w.accepted; is = sym (next_of u w r) ∙ e } in
    record { reached = waits-reached (stage.begun v) false f; waits = λ z. f }
kept-course u w r (course.ended v letter o) e =
    record {
      reached = record {
        interval = w.interval;
        rate = w.rate;
        t = w.t;
        rows = w.rows ++ (r ∷ []);
        accepted = w.accepted;
        is = sym (ap trial_in (sym (next_of u w r) ∙ e));
        goes = λ o. absurd (true≢false o);
        next = λ o. absurd (true≢false o);
      };
      waits = λ z. absurd (true≢false z);
    }

kept-tick : (good : Bool) (a b c : ℕ) (u : Trial) → Goes u → Kept (answer_course (tick_course good a b c u))
kept-tick good a b c u w = by (good && ltb u.tick most_number)
  where
    by : (v : Bool) → Kept (answer_course (cond v ((tick a b c).course u) (course.ended u question_mark (outcome out_of_range 0))))
    by true = kept-course u w (record { pages = a; blocks = b; packets = c }) ((tick a b c).course u) refl
    by false = record { reached = waits-reached (stage.begun u) true w; waits = λ z. absurd (true≢false z) }

kept_row : (s : Stage) (good : Bool) (a b c : ℕ) → Waits s → Kept (answer_row s good a b c)
kept_row stage.unbegun good a b c w = kept-plan good a b c
kept_row (stage.begun u) good a b c w = kept-tick good a b c u w

-- ---- byte by byte
record Read (r : Reading Stage Line) : Type 0 where
  reached : Reached r.state r.over
  waits : r.over ≡ false → Waits r.state

read_byte : (r : Reading Stage Line) (b : ℕ) → Read r → Read (fed trial_program r b)
unfolding fed
read_byte r b f = by r.over refl (eqb b newline)
  where
    l : Line
    l = r.line

    by : (o : Bool) → r.over ≡ o → (n : Bool)
        → Read (cond o r (cond n (reading (trial_program.answer_kept r.state l).next no_line (trial_program.answer_kept r.state l).last) (reading r.state (line_with l b) false)))
    by true e n = f
    by false e true =
        let k = kept_row r.state (is_row_kept l) l.lead.value l.first.value l.second.value (f.waits e) in
        record { reached = k.reached; waits = k.waits }
    by false e false = record { reached = waits-reached r.state false (f.waits e); waits = λ z. f.waits e }

read_all : (input : List ℕ) (r : Reading Stage Line) → Read r → Read (fed_all trial_program r input)
unfolding fed_all
read_all [] r f = f
read_all (b ∷ bs) r f = read_all bs (fed trial_program r b) (read_byte r b f)

pub every-input : EveryInput
every-input input = (read_all input (first_reading trial_program) (record { reached = tt; waits = λ e. tt })).reached
