use Rattle.text.specs.Row.{is_row_kept}
use Rattle.text.proofs.rows.is_row.Goals as goal

pub returns : goal.returns
unfolding is_row_kept
returns c = rw (c.number_is.ensures, c.number_is-2.ensures, c.number_is-3.ensures)
