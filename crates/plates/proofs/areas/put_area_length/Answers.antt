-- `plates::areas::put_area_length` meets its contract. Assumes nothing.
use native.Mathlib.Omega.{arith}
use Rattle.text.proofs.PrintLaws.{put-text, put-within, put_then, put-end}
use Rattle.plates.specs.Words.{area_length_line}
use Rattle.plates.proofs.areas.put_area_length.Goals as goal

pub returns : goal.returns
unfolding area_length_line
returns c =
    let x1 = c.put_number-b.ensures in
    let x3 = rw c.number.ensures at c.put_number-d.ensures in
    let p = put-end (put_then (put_then (put_then (put_then (put-text c.put_text-a.ensures) (put-within x1.put_done x1.lower_bound.1)) (put-text c.put_text-c.ensures)) (put-within x3.put_done x3.lower_bound.1)) (put-text c.put_byte.ensures)) (omega (arith, c.requires)) in
    record {
      put_done = p.0;
      upper_bound = omega (arith, p.1);
    }
