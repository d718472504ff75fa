-- `plates::stops::put_end` meets its contract. Assumes nothing.
use native.Mathlib.Omega.{arith}
use Rattle.text.proofs.PrintLaws.{put-text, put-within, put_then, put-end}
use Rattle.plates.specs.Words.{end_line}
use Rattle.plates.proofs.stops.put_end.Goals as goal

pub returns : goal.returns
unfolding end_line
returns c =
    let x0 = c.put_place-a.ensures in
    let p = put-end (put_then (put_then (put-within x0.put_done x0.upper_bound) (put-text c.put_text-b.ensures)) (put-text c.put_byte.ensures)) (omega (arith, c.requires)) in
    record {
      put_done = p.0;
      upper_bound = omega (arith, p.1);
    }
