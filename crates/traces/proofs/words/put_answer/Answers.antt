-- `traces::words::put_answer` meets its contract. Assumes nothing.
use Rattle.text.proofs.PrintLaws.{put-text, put-within, put_then, put-end}
use Rattle.traces.specs.Words.{answer_words}
use Rattle.traces.proofs.words.put_answer.Goals as goal

pub returns : goal.returns
unfolding answer_words
returns c =
    let n = c.put_number-a.ensures in
    let m = c.put_reason.ensures in
    let p = put-end (put_then (put-within n.put_done n.lower_bound.1) (put_then (put-text c.put_byte-b.ensures) (put-within m.put_done m.upper_bound))) c.requires in
    record { put_done = rw c.trace_letter_of.ensures at p.0; upper_bound = p.1 }
