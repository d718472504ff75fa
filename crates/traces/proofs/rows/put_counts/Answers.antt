-- `traces::rows::put_counts` meets its contract. Assumes nothing.
use mathlib.Core.Path.{sym, ◌∙◌}
use mathlib.Core.List.{append_assoc, append-nil}
use Rattle.script.specs.Site.{world_of}
use Rattle.script.proofs.LinkLaws.{length-link}
use Rattle.script.proofs.SiteLaws.{lengths}
use Rattle.traces.specs.Row.{in_columns, count_columns}
use Rattle.traces.proofs.rows.put_counts.Goals as goal

pub returns-clause-put_done : goal.returns-clause-put_done
unfolding in_columns count_columns world_of
returns-clause-put_done c =
    let s = c.args.site in
    let linked = c.in_link.ensures ∙ sym (length-link s (sym (lengths s _ c.well_formed.1.1.0).link)) in
    simp append_assoc (simp (append_assoc, append-nil) at (rw linked at c.put_columns.ensures.put_done))
