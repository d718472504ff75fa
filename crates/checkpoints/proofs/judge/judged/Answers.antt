-- `checkpoints::judge::judged` meets its contract. Assumes nothing.
use Rattle.std.specs.Prelude.{ℕ, ◌≡◌}
use mathlib.Core.Path.{sym, ◌∙◌}
use Rattle.rules.specs.Reply.{unless_refused}
use Rattle.rules.proofs.ReplyLaws.{judged-unread, judged-refused, judged-accepted}
use Rattle.checkpoints.specs.Scan.{known_as, numbers_of, record_refusal, judged}
use Rattle.checkpoints.proofs.JudgedLaws.{judged-number}
use Rattle.checkpoints.proofs.judge.judged.Goals as goal
use Rattle.checkpoints.proofs.judge.judged.Goals.{After-read}

-- the number of what was read
abbrev number : After-read → ℕ
number c = record_refusal c.args.g (known_as c.args.k (numbers_of c.args.blocks.now)) c.read.result

-- what is judged, by that, read with the width that M calls for
read : (c : After-read) → judged c.args.g (known_as c.args.k (numbers_of c.args.blocks.now)) c.args.rest.now ≡ unless_refused (number c) c.read.result
read c = judged-number c.args.g (known_as c.args.k (numbers_of c.args.blocks.now)) c.args.rest.now c.read.result (rw c.is_wide.ensures at c.read.ensures)

pub returns-in_err-r : goal.returns-in_err-r
returns-in_err-r c = let w = (goal.at.returns-in_err-r c).After-read in judged-unread (number w) _ (read w) c.in_err-r.was (rw c.in_err-r.was) c.from_residual.ensures.1

pub returns-in_err-check_record : goal.returns-in_err-check_record
returns-in_err-check_record c =
    let w = (goal.at.returns-in_err-check_record c).After-read in
    judged-refused (number w) _ _ _ (read w) (rw c.in_ok-r.was c.check_record.ensures) c.in_err-check_record.was c.from_residual-in_err-check_record.ensures.1

pub returns : goal.returns
returns c = let w = (goal.at.returns c).After-read in sym c.in_ok-r.was ∙ judged-accepted (number w) _ _ (read w) (rw c.in_ok-r.was c.check_record.ensures) c.in_ok-check_record.was
