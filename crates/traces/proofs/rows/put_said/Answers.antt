-- `traces::rows::put_said` meets its contract. Assumes nothing.
use native.Mathlib.Omega.{arith}
use Rattle.text.proofs.PrintLaws.{put-text, put-within, put_then, put-left, put-end}
use Rattle.traces.proofs.rows.put_said.Goals as goal

pub pad-b-requires : goal.pad-b-requires
pad-b-requires c =
    let e = c.put_command-a.ensures in
    let s = c.put_byte-s.ensures.position in
    (omega (arith, e.put_done.position, s), omega (arith, e.upper_bound, s), omega arith)

pub pad-e-requires : goal.pad-e-requires
pad-e-requires c = let e = c.put_answer-d.ensures in (omega (arith, e.put_done.position), omega (arith, e.upper_bound), omega arith)

pub returns : goal.returns
returns c =
    let command = c.put_command-a.ensures in
    let answer = c.put_answer-d.ensures in
    let value = c.put_right.ensures in
    let told = put-end
    (put_then
    (put_then (put-left 9 (put_then (put-within command.put_done command.upper_bound) (put-text c.put_byte-s.ensures)) c.pad-b.ensures.put_done)
    (put-left 33 (put-within answer.put_done answer.upper_bound) c.pad-e.ensures.put_done))
    (put-within value.put_done value.lower_bound.1))
    c.requires in
    record {
      put_done = told.0;
      upper_bound = told.1;
    }
