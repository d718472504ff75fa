-- `plates::bad::put_bad` meets its contract. Assumes nothing.
use native.Mathlib.Omega.{arith}
use Rattle.text.proofs.PrintLaws.{put-text, put-within, put_then, put-end}
use Rattle.plates.specs.Words.{bad_line}
use Rattle.plates.proofs.bad.put_bad.Goals as goal

pub returns : goal.returns
unfolding bad_line
returns c =
    let n = c.put_number-b.ensures in
    let words = rw c.fault_words.ensures.value at c.put_text-d.ensures in
    let p = put-end (put_then (put_then (put_then (put_then (put-text c.put_text-a.ensures) (put-within n.put_done n.lower_bound.1)) (put-text c.put_text-c.ensures)) (put-text words)) (put-text c.put_byte.ensures)) (omega (arith, c.requires)) in
    record {
      put_done = p.0;
      upper_bound = omega (arith, p.1);
    }
