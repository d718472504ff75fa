-- `traces::rows::put_epochs` meets its contract. Assumes nothing.
use mathlib.Core.List.{append_assoc, append-nil}
use Rattle.script.specs.Site.{world_of}
use Rattle.traces.specs.Row.{in_columns, epoch_columns}
use Rattle.traces.proofs.rows.put_epochs.Goals as goal

pub returns-clause-put_done : goal.returns-clause-put_done
unfolding in_columns epoch_columns world_of
returns-clause-put_done c = simp append_assoc (simp (append_assoc, append-nil) at c.put_columns.ensures.put_done)
