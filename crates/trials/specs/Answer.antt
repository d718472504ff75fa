-- What the code answers to a line. Assumes nothing.
use Rattle.std.specs.Prelude.{ℕ, ◌≤◌, ◌≡◌, length, take}
use Rattle.text.specs.Feed.{Answered}
use Rattle.trials.specs.declared.TrialAnswer.{TrialAnswer}
use Rattle.trials.specs.Output.{Stage}
use Rattle.trials.specs.Site.{stage_of}

-- the most bytes that are printed of a line: of a step that ends the run and the last line
abbrev pub most_bytes : ℕ
most_bytes = 65

-- the answer of the definition, what is printed of it at the head of the array
pub record AnswerDone (a : Answered Stage) (r : TrialAnswer) : Type 0 where
  pub next : stage_of r.stage ≡ a.next
  pub printed : take r.length r.bytes ≡ a.printed
  pub last : r.last ≡ a.last
  pub low : r.length ≤ most_bytes
  pub size : length r.bytes ≡ most_bytes
