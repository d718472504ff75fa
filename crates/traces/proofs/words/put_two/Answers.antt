-- `traces::words::put_two` meets its contract. Assumes nothing.
use Rattle.text.proofs.PrintLaws.{put-within, put_then, put-end}
use Rattle.traces.proofs.words.put_two.Goals as goal

pub returns : goal.returns
returns c =
    let m = c.put_one-a.ensures in
    let n = c.put_one.ensures in
    let told = put-end (put_then (put-within m.put_done m.upper_bound) (put-within n.put_done n.upper_bound)) c.requires in
    record {
      put_done = told.0;
      upper_bound = told.1;
    }
