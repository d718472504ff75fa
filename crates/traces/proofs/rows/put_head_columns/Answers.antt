-- `traces::rows::put_head_columns` meets its contract. Assumes nothing.
use Rattle.text.proofs.PrintLaws.{put-within, put_then, put-end}
use Rattle.script.specs.Site.{world_of}
use Rattle.traces.specs.Row.{head_columns}
use Rattle.traces.proofs.rows.put_head_columns.Goals as goal

pub returns : goal.returns
unfolding head_columns world_of
returns c =
    let told = put-end
    (put_then (put_then (put_then (put-within c.put_heads-a.ensures.put_done c.put_heads-a.ensures.upper_bound) (put-within c.put_heads-b.ensures.put_done c.put_heads-b.ensures.upper_bound)) (put-within c.put_heads-c.ensures.put_done c.put_heads-c.ensures.upper_bound)) (put-within c.put_heads.ensures.put_done c.put_heads.ensures.upper_bound))
    c.requires in
    record {
      put_done = told.0;
      upper_bound = told.1;
    }
