-- `traces::answer::put_finish` meets its contract. Assumes nothing.
use native.Mathlib.Omega.{arith}
use Rattle.lists.proofs.PartLaws.{put-done-none}
use Rattle.traces.proofs.answer.put_finish.Goals as goal

pub returns-then-t : goal.returns-then-t
returns-then-t c =
    rw c.if-t.true (record {
      put_done = put-done-none _ _;
      upper_bound = omega arith;
    })

pub returns : goal.returns
returns c =
    rw c.if-t.false (record {
      put_done = c.put_header.ensures.put_done;
      upper_bound = c.put_header.ensures.upper_bound;
    })
