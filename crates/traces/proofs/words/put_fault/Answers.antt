-- `traces::words::put_fault` meets its contract. Assumes nothing.
use native.Mathlib.Omega.{arith}
use Rattle.traces.proofs.words.put_fault.Goals as goal

pub returns-in-Empty : goal.returns-in-Empty
returns-in-Empty c =
    rw c.in-Empty.is (record {
      put_done = c.put_text.ensures;
      upper_bound = omega arith;
    })

pub returns-in-Return : goal.returns-in-Return
returns-in-Return c =
    rw c.in-Return.is (record {
      put_done = c.put_text-in-Return.ensures;
      upper_bound = omega arith;
    })

pub returns-in-Letter : goal.returns-in-Letter
returns-in-Letter c =
    rw c.in-Letter.is (record {
      put_done = c.put_text-in-Letter.ensures;
      upper_bound = omega arith;
    })

pub returns-in-Count : goal.returns-in-Count
returns-in-Count c =
    rw c.in-Count.is (record {
      put_done = c.put_count_fault.ensures.put_done;
      upper_bound = omega (arith, c.put_count_fault.ensures.upper_bound);
    })

pub returns-in-Digits : goal.returns-in-Digits
returns-in-Digits c =
    rw c.in-Digits.is (record {
      put_done = c.put_digit_fault.ensures.put_done;
      upper_bound = omega (arith, c.put_digit_fault.ensures.upper_bound);
    })

pub returns-in-Large : goal.returns-in-Large
returns-in-Large c =
    rw c.in-Large.is (record {
      put_done = c.put_large_fault.ensures.put_done;
      upper_bound = c.put_large_fault.ensures.upper_bound;
    })
