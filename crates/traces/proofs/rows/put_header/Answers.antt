-- `traces::rows::put_header` meets its contract. Assumes nothing.
use native.Mathlib.Omega.{arith}
use Rattle.traces.proofs.rows.put_header.Goals as goal

pub returns : goal.returns
returns c =
    record {
      put_done = c.put_text.ensures;
      upper_bound = omega arith;
    }
