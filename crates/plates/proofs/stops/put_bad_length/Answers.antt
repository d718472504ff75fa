-- `plates::stops::put_bad_length` meets its contract. Assumes nothing.
use native.Mathlib.Omega.{arith}
use Rattle.text.proofs.PrintLaws.{put-text, put-within, put_then, put-end}
use Rattle.plates.proofs.stops.put_bad_length.Goals as goal

pub returns : goal.returns
returns c =
    let x1 = c.put_number-b.ensures in
    let x3 = c.put_number.ensures in
    let p = put-end (put_then (put_then (put_then (put-text c.put_text-a.ensures) (put-within x1.put_done x1.lower_bound.1)) (put-text c.put_text-c.ensures)) (put-within x3.put_done x3.lower_bound.1)) (omega (arith, c.requires)) in
    record {
      put_done = p.0;
      upper_bound = omega (arith, p.1);
    }
