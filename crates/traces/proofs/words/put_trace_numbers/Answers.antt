-- `traces::words::put_trace_numbers` meets its contract. Assumes nothing.
use native.Mathlib.Omega.{arith}
use Rattle.lists.proofs.PartLaws.{put-done-none}
use Rattle.traces.proofs.words.put_trace_numbers.Goals as goal

pub returns-in-Pair : goal.returns-in-Pair
returns-in-Pair c =
    rw c.in-Pair.is (record {
      put_done = c.put_numbers.ensures.put_done;
      upper_bound = c.put_numbers.ensures.upper_bound;
    })

pub returns-in-Set : goal.returns-in-Set
returns-in-Set c =
    rw c.in-Set.is (record {
      put_done = c.put_two.ensures.put_done;
      upper_bound = c.put_two.ensures.upper_bound;
    })

pub returns-in-Tick : goal.returns-in-Tick
returns-in-Tick c =
    rw c.in-Tick.is (record {
      put_done = put-done-none _ _;
      upper_bound = omega arith;
    })
