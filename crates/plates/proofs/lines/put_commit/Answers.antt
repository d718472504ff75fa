-- `plates::lines::put_commit` meets its contract. Assumes nothing.
use native.Mathlib.Omega.{arith}
use Rattle.text.proofs.PrintLaws.{put-text, put-within, put_then, put-end}
use Rattle.plates.proofs.lines.put_commit.Goals as goal

pub returns : goal.returns
returns c =
    let x0 = c.put_epoch-a.ensures in
    let x2 = c.put_number-c.ensures in
    let x4 = c.put_number.ensures in
    let p = put-end (put_then (put_then (put_then (put_then (put-within x0.put_done x0.upper_bound) (put-text c.put_text-b.ensures)) (put-within x2.put_done x2.lower_bound.1)) (put-text c.put_text-d.ensures)) (put-within x4.put_done x4.lower_bound.1)) (omega (arith, c.requires)) in
    record {
      put_done = p.0;
      upper_bound = omega (arith, p.1);
    }
