-- `plates::lines::put_place` meets its contract. Assumes nothing.
use native.Mathlib.Omega.{arith}
use Rattle.text.proofs.PrintLaws.{put-text, put-within, put_then, put-end}
use Rattle.plates.proofs.lines.put_place.Goals as goal

pub returns : goal.returns
returns c =
    let x1 = c.put_number-b.ensures in
    let p = put-end (put_then (put_then (put-text c.put_text-a.ensures) (put-within x1.put_done x1.lower_bound.1)) (put-text c.put_text.ensures)) (omega (arith, c.requires)) in
    record {
      put_done = p.0;
      upper_bound = omega (arith, p.1);
    }
