-- Laws of a line's answer. Assumes nothing.
use Prim.Native.Nat.{ℕ, ◌+◌, ◌≤◌, ◌<◌}
use mathlib.Core.Path.{◌≡◌, refl, sym, ap, ap₂, subst, ◌∙◌}
use mathlib.Core.Bool.{Bool, true, false, ◌&&◌}
use mathlib.Core.List.{List, []}
use native.Mathlib.Omega.{arith}
use lib.Dec.{ltb}
use lib.ListN.{length, take, replicate}
use Rattle.std.specs.Prelude.{Option, Some}
use borrow.Author.Tests.{eq-eqb, ne_eqb, lt-ltb, le-ltb}
use Rattle.lists.specs.Part.{PutDone}
use Rattle.lists.specs.Refusal.{refusal}
use Rattle.lists.proofs.PartLaws.{put-done-length, put-done-more, put-done-none}
use Rattle.lists.proofs.TestLaws.{join, and-false, cond-true, cond-false}
use Rattle.records.specs.Number.{out_of_range}
use Rattle.text.specs.Decimal.{most_number}
use Rattle.text.specs.Kept.{no_line, line_with_all}
use Rattle.text.specs.Feed.{Answered, KeptRight}
use Rattle.text.specs.Row.{is_row}
use Rattle.text.proofs.KeptLaws.{empty-line}
use Rattle.text.proofs.RunLaws.{taken-put}
use Rattle.text.proofs.RowLaws.{row_is, row-values}
use Rattle.rules.specs.World.{World, start_number}
use Rattle.rules.specs.Step.{outcome}
use Rattle.script.specs.declared.Site.{Site}
use Rattle.script.specs.Command.{question_mark}
use Rattle.script.specs.Pair.{settings_with, started_with, zero_buffers, processor_of}
use Rattle.script.specs.Site.{world_of}
use Rattle.script.specs.Output.{printed}
use Rattle.trials.specs.declared.TrialSite.{TrialSite}
use Rattle.trials.specs.declared.TrialAnswer.{TrialAnswer}
use Rattle.trials.specs.Trial.{ended}
use Rattle.trials.specs.Tick.{tick}
use Rattle.trials.specs.Output.{Stage, unbegun, begun, last_line, plan_refusal, first_trial, answer_plan, tick_course, answer_row, trial_program, last_answered, plan_tests, plan_refused}
use Rattle.trials.specs.Answer.{AnswerDone, most_bytes}
use Rattle.trials.specs.Site.{trial_of, stage_of}
use Rattle.trials.proofs.QueueLaws.{held_count, start-held}

-- ---- what a writer left at the head of an array is the answer's
pub answer-done : (a : Answered Stage) (before : List ℕ) (r : TrialAnswer) → stage_of r.stage ≡ a.next → r.last ≡ a.last
    → PutDone a.printed before 0 r.bytes r.length → r.length ≤ most_bytes → length before ≡ most_bytes → AnswerDone a r
answer-done a before r next last put-it low room =
    let n-is : r.length ≡ 0 + length a.printed = put-it.position in
    record {
      next = next;
      printed = taken-put a.printed before r.bytes r.length put-it;
      last = last;
      low = low;
      size = put-done-length _ _ _ _ _ (omega arith) put-it ∙ room;
    }

-- a step that ends the run, then the last line
pub last_done : (s : Option TrialSite) (letter number value most n end : ℕ) (before bytes after : List ℕ) → length before ≡ most_bytes → n ≤ 0 + 44 → end ≤ n + 21
    → PutDone (printed letter (outcome number value)) before 0 bytes n → PutDone (last_line most) bytes n after end
    → AnswerDone (last_answered (stage_of s) letter (outcome number value) most) (record { stage = s; bytes = after; length = end; last = true })
last_done s letter number value most n end before bytes after room h k p q =
    let n-is : n ≡ 0 + length (printed letter (outcome number value)) = p.position in
    answer-done _ before _ refl refl (put-done-more _ _ _ _ _ _ _ _ (omega arith) p q) (omega arith) room

-- ---- the first line
module _ (t : ℕ) where
  pub first-is : (interval rate : ℕ) (site : Site) → world_of site ≡ started_with t
      → trial_of (record { interval = interval; rate = rate; site = site; tick = 0; sent = replicate 64 0; most = 0 }) ≡ first_trial interval rate t
  unfolding trial_of world_of
  first-is interval rate site e =
      let z : site.primary.state.queue.count ≡ 0 = ap held_count e ∙ start-held (settings_with t) (processor_of 0) (zero_buffers (settings_with t)) in
      ap₂ (λ (w : World) (n : ℕ). record { interval = interval; rate = rate; world = w; tick = 0; sent = take n (replicate 64 0); most = 0 }) e z

  module _ (interval rate number : ℕ) (is : number ≡ refusal (plan_tests (start_number (settings_with t) (zero_buffers (settings_with t))) interval rate)) where
    number_is : number ≡ plan_refusal interval rate t
    unfolding plan_refusal
    number_is = is

    pub plan-begun : (trial : TrialSite) → number ≡ 0 → trial_of trial ≡ first_trial interval rate t
        → AnswerDone (answer_plan true interval rate t) (record { stage = Some trial; bytes = replicate 65 0; length = 0; last = false })
    plan-begun trial z e =
        let r : TrialAnswer = record { stage = Some trial; bytes = replicate 65 0; length = 0; last = false } in
        let is : answer_plan true interval rate t ≡ record { next = begun (first_trial interval rate t); printed = []; last = false } =
        cond-true _ _ _ (eq-eqb (plan_refusal interval rate t) 0 (sym number_is ∙ z)) in
        subst (λ (a : Answered Stage). AnswerDone a r) (sym is) (answer-done _ (replicate 65 0) r (ap begun e) refl (put-done-none _ 0) (omega arith) refl)

    pub plan-refused : (r : TrialAnswer) → (number ≡ 0 → ⊥) → AnswerDone (plan_refused number) r → AnswerDone (answer_plan true interval rate t) r
    plan-refused r z d =
        let is : answer_plan true interval rate t ≡ plan_refused number =
        cond-false _ _ _ (ne_eqb (plan_refusal interval rate t) 0 (λ e. z (number_is ∙ e))) ∙ ap plan_refused (sym number_is) in
        subst (λ (a : Answered Stage). AnswerDone a r) (sym is) d

-- ---- a tick's line that is bad, one after the last tick, and one that begins a tick
module _ (t : TrialSite) (good : Bool) (pages blocks packets : ℕ) where
  pub tick-bad : good ≡ false → tick_course good pages blocks packets (trial_of t) ≡ ended (trial_of t) question_mark (outcome out_of_range 0)
  tick-bad e = rw e

  pub tick-late : most_number ≤ t.tick → tick_course good pages blocks packets (trial_of t) ≡ ended (trial_of t) question_mark (outcome out_of_range 0)
  unfolding trial_of
  tick-late h = cond-false _ _ _ (ap (λ (b : Bool). good && b) (le-ltb t.tick most_number h) ∙ and-false good)

  pub tick-good : good ≡ true → t.tick < most_number → tick_course good pages blocks packets (trial_of t) ≡ (tick pages blocks packets).course (trial_of t)
  unfolding trial_of
  tick-good e h = cond-true _ _ _ (join good (ltb t.tick most_number) e (lt-ltb t.tick most_number h))

-- ---- what is kept of a line gives the answer of the line: the numbers of a row are its own, and of another line they do not matter
same_answer : (s : Stage) (good : Bool) (a b c a' b' c' : ℕ) → (good ≡ true → (a ≡ a') × (b ≡ b') × (c ≡ c')) → answer_row s good a b c ≡ answer_row s good a' b' c'
same_answer s true a b c a' b' c' same = let v = same refl in λ i. answer_row s true (v.0 i) (v.1 i) (v.2 i)
same_answer unbegun false a b c a' b' c' same = refl
same_answer (begun t) false a b c a' b' c' same = refl

same_kept : (s : Stage) (line : List ℕ) → trial_program.answer_kept s (line_with_all no_line line) ≡ trial_program.answer s line
same_kept s line =
    let l = line_with_all no_line line in
    ap (λ (good : Bool). answer_row s good l.lead.value l.first.value l.second.value) (row_is line)
    ∙ same_answer s (is_row line) _ _ _ _ _ _ (λ e. let v = row-values line e in (v.lead, v.first, v.second))

pub kept-right : KeptRight trial_program
kept-right = record { answers = same_kept; empty = empty-line }
