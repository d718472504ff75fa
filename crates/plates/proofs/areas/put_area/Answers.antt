-- `plates::areas::put_area` meets its contract. Assumes nothing.
use native.Mathlib.Omega.{arith}
use Rattle.plates.proofs.areas.put_area.Goals as goal

pub returns-in-Zero : goal.returns-in-Zero
returns-in-Zero c =
    let d = c.put_text.ensures in rw c.in-Zero.is (record {
      put_done = d;
      upper_bound = omega (arith, d.position);
    })

pub returns-in-Activation : goal.returns-in-Activation
returns-in-Activation c =
    let d = c.put_activation.ensures in rw c.in-Activation.is (record {
      put_done = d.put_done;
      upper_bound = omega (arith, d.upper_bound);
    })

pub returns-in-Neither : goal.returns-in-Neither
returns-in-Neither c =
    let d = c.put_text-in-Neither.ensures in rw c.in-Neither.is (record {
      put_done = d;
      upper_bound = omega (arith, d.position);
    })
