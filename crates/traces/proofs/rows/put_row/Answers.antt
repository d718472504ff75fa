-- `traces::rows::put_row` meets its contract. Assumes nothing.
use Prim.Native.Nat.{◌≤◌}
use native.Mathlib.Omega.{arith}
use Rattle.text.proofs.PrintLaws.{put-text, put-within, put_then}
use Rattle.traces.specs.Row.{row_of}
use Rattle.traces.proofs.RowLaws.{put_in}
use Rattle.traces.proofs.rows.put_row.Goals as goal

pub returns : goal.returns
unfolding row_of
returns c =
    let all =
    put_then
    (put_then (put_then (put_then (put_then (put-within c.put_said-a.ensures.put_done c.put_said-a.ensures.upper_bound) (put-within c.put_epochs-b.ensures.put_done c.put_epochs-b.ensures.upper_bound)) (put-within c.put_head_columns-d.ensures.put_done c.put_head_columns-d.ensures.upper_bound)) (put-within c.put_counts-e.ensures.put_done c.put_counts-e.ensures.upper_bound)) (put-within c.put_remarks-f.ensures.put_done c.put_remarks-f.ensures.upper_bound))
    (put-text c.put_byte.ensures) in
    let k : 696 ≤ 1000 = omega arith in
    let told = put_in all k c.requires in
    record {
      put_done = told.0;
      upper_bound = told.1;
    }
