use Rattle.std.specs.Prelude.{Err}
use mathlib.Core.Path.{◌≡◌, ap, ◌∙◌}
use native.Mathlib.Omega.{arith}
use Rattle.records.specs.declared.Reader.TheVariants.{Test}
use Rattle.records.specs.declared.Unread.{Unread}
use Rattle.records.specs.declared.Unread.TheVariants.{Short}
use Rattle.records.specs.Read.{missing_of}
use Rattle.records.proofs.ReadLaws.{ReadRanges, read-ranges}
use Rattle.link.proofs.record_test.Goals as goal
use Rattle.link.proofs.record_test.Goals.{After-read-answer}

ranges : (c : After-read-answer) → ReadRanges Test c.args.bytes.now c.read-answer.result
ranges c = rw c.read-answer.ensures (read-ranges Test _ _)

pub overflow_add-result : goal.overflow_add-result
overflow_add-result c = let g = ranges (goal.at.overflow_add-result c).After-read-answer in omega arith

pub overflow_mul-result-in_default-2 : goal.overflow_mul-result-in_default-2
overflow_mul-result-in_default-2 c = let g = ranges (goal.at.overflow_mul-result-in_default-2 c).After-read-answer in omega arith

pub overflow_add-result-in_default : goal.overflow_add-result-in_default
overflow_add-result-in_default c = let g = ranges (goal.at.overflow_add-result-in_default c).After-read-answer in omega arith

pub overflow_mul-result : goal.overflow_mul-result
overflow_mul-result c =
    let g = (ranges (goal.at.overflow_mul-result c).After-read-answer).missing in
    let e : c.read-answer.result ≡ Err (Short c.in-Err-Short.missing) = c.in-Err-Short.is ∙ ap (λ (x : Unread). Err x) (rw c.in-Err-Short.is at c.in-Err-Short.field-0-is) in
    omega (arith, ap missing_of e)
