-- `plates::stops::put_short` meets its contract. Assumes nothing.
use native.Mathlib.Omega.{arith}
use Rattle.text.proofs.PrintLaws.{put-text, put-within, put_then, put-end}
use Rattle.plates.specs.Words.{short_line}
use Rattle.plates.proofs.stops.put_short.Goals as goal

pub returns : goal.returns
unfolding short_line
returns c =
    let place = c.put_place-a.ensures in
    let words = c.missing_words.ensures in
    let bound = rw words.value at words.bound in
    let number = c.put_number-c.ensures in
    let body = put_then (put-text (rw words.value at c.put_text-b.ensures)) (put-within number.put_done number.lower_bound.1) in
    let p = put-end (put_then (put_then (put-within place.put_done place.upper_bound) body) (put-text c.put_byte.ensures)) (omega (arith, c.requires, bound)) in
    record {
      put_done = p.0;
      upper_bound = omega (arith, p.1, bound);
    }
