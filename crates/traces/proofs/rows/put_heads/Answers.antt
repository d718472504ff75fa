-- `traces::rows::put_heads` meets its contract. Assumes nothing.
use mathlib.Core.List.{append_assoc, append-nil}
use Rattle.traces.specs.Row.{in_columns, heads}
use Rattle.traces.proofs.rows.put_heads.Goals as goal

pub returns-clause-put_done : goal.returns-clause-put_done
unfolding in_columns heads
returns-clause-put_done c = simp append_assoc (simp (append_assoc, append-nil) at c.put_columns.ensures.put_done)
