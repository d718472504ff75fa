-- `traces::words::put_command` meets its contract. Assumes nothing.
use Rattle.text.proofs.PrintLaws.{put-text, put-within, put_then, put-end}
use Rattle.traces.specs.Words.{command_words}
use Rattle.traces.proofs.words.put_command.Goals as goal

pub returns : goal.returns
unfolding command_words
returns c =
    let n = c.put_trace_numbers.ensures in
    let p = put-end (put_then (put-text c.put_byte-a.ensures) (put-within n.put_done n.upper_bound)) c.requires in
    record { put_done = rw c.trace_letter_of.ensures at p.0; upper_bound = p.1 }
