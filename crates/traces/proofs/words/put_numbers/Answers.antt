-- `traces::words::put_numbers` meets its contract. Assumes nothing.
use native.Mathlib.Omega.{arith}
use Rattle.lists.proofs.PartLaws.{put-done-none}
use Rattle.traces.proofs.words.put_numbers.Goals as goal

pub returns-in-Write : goal.returns-in-Write
returns-in-Write c =
    rw c.in-Write.is (record {
      put_done = c.put_two.ensures.put_done;
      upper_bound = c.put_two.ensures.upper_bound;
    })

pub returns-in-Disk : goal.returns-in-Disk
returns-in-Disk c =
    rw c.in-Disk.is (record {
      put_done = c.put_two-in-Disk.ensures.put_done;
      upper_bound = c.put_two-in-Disk.ensures.upper_bound;
    })

pub returns-in-Send : goal.returns-in-Send
returns-in-Send c =
    rw c.in-Send.is (record {
      put_done = c.put_one.ensures.put_done;
      upper_bound = omega (arith, c.put_one.ensures.upper_bound);
    })

pub returns-in-Close : goal.returns-in-Close
returns-in-Close c =
    rw c.in-Close.is (record {
      put_done = c.put_one-in-Close.ensures.put_done;
      upper_bound = omega (arith, c.put_one-in-Close.ensures.upper_bound);
    })

pub returns-in-Move : goal.returns-in-Move
returns-in-Move c =
    rw c.in-Move.is (record {
      put_done = put-done-none _ _;
      upper_bound = omega arith;
    })

pub returns-in-Acknowledge : goal.returns-in-Acknowledge
returns-in-Acknowledge c =
    rw c.in-Acknowledge.is (record {
      put_done = put-done-none _ _;
      upper_bound = omega arith;
    })

pub returns-in-Take : goal.returns-in-Take
returns-in-Take c =
    rw c.in-Take.is (record {
      put_done = put-done-none _ _;
      upper_bound = omega arith;
    })

pub returns-in-Flush : goal.returns-in-Flush
returns-in-Flush c =
    rw c.in-Flush.is (record {
      put_done = put-done-none _ _;
      upper_bound = omega arith;
    })

pub returns-in-Takeover : goal.returns-in-Takeover
returns-in-Takeover c =
    rw c.in-Takeover.is (record {
      put_done = put-done-none _ _;
      upper_bound = omega arith;
    })

pub returns-in-Other : goal.returns-in-Other
returns-in-Other c =
    rw c.in-Other.is (record {
      put_done = put-done-none _ _;
      upper_bound = omega arith;
    })
