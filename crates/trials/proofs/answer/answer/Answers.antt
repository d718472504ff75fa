-- `trials::answer::answer` meets its contract. Assumes nothing.
use mathlib.Core.Path.{sym, ◌∙◌}
use native.Mathlib.Omega.{arith}
use Rattle.text.proofs.RowLaws.{row_low}
use Rattle.trials.proofs.answer.answer.Goals as goal

-- the numbers of a row are below 2 ^ 32
pub overflow_cast-l : goal.overflow_cast-l
overflow_cast-l c =
    let f = row_low c.args.l (sym c.is_row-good.ensures ∙ c.if-not-good.false) in
    record { fits = omega (arith, f.second) }
