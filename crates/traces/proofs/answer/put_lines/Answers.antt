-- `traces::answer::put_lines` meets its contract. Assumes nothing.
use Rattle.text.proofs.PrintLaws.{put-within, put_then, put-end}
use Rattle.traces.proofs.answer.put_lines.Goals as goal

pub returns : goal.returns
returns c =
    let told = put-end (put_then {m = 200} {n = 1000} (put-within c.put_finish-a.ensures.put_done c.put_finish-a.ensures.upper_bound) (put-within c.put_row.ensures.put_done c.put_row.ensures.upper_bound)) c.requires in
    record {
      put_done = told.0;
      upper_bound = told.1;
    }
