-- `traces::words::put_one` meets its contract. Assumes nothing.
use Rattle.text.proofs.PrintLaws.{put-text, put-within, put_then, put-end}
use Rattle.traces.proofs.words.put_one.Goals as goal

pub returns : goal.returns
returns c =
    let n = c.put_number.ensures in
    let told = put-end (put_then (put-text c.put_byte-a.ensures) (put-within n.put_done n.lower_bound.1)) c.requires in
    record {
      put_done = told.0;
      upper_bound = told.1;
    }
