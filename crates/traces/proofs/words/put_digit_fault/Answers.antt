-- `traces::words::put_digit_fault` meets its contract. Assumes nothing.
use Rattle.text.proofs.PrintLaws.{put-text, put-within, put_then, put-end}
use Rattle.traces.proofs.words.put_digit_fault.Goals as goal

pub returns : goal.returns
returns c =
    let n = c.put_number-b.ensures in
    let told = put-end (put_then (put_then (put-text c.put_text-a.ensures) (put-within n.put_done n.lower_bound.1)) (put-text c.put_text.ensures)) c.requires in
    record {
      put_done = told.0;
      upper_bound = told.1;
    }
