-- `plates::lines::put_numbered` meets its contract. Assumes nothing.
use native.Mathlib.Omega.{arith}
use Rattle.text.proofs.PrintLaws.{put-text, put-within, put_then, put-end}
use Rattle.plates.proofs.lines.put_numbered.Goals as goal

pub returns : goal.returns
returns c =
    let epoch = c.put_epoch-a.ensures in
    let number = c.put_number.ensures in
    let start = c.requires in
    let p = put-end (put_then (put_then (put-within epoch.put_done epoch.upper_bound) (put-text c.put_text-b.ensures)) (put-within number.put_done number.lower_bound.1)) (omega (arith, start.0, start.1)) in
    record {
      put_done = p.0;
      upper_bound = omega (arith, p.1, start.0);
    }
