-- `plates::stops::put_refused` meets its contract. Assumes nothing.
use native.Mathlib.Omega.{arith}
use Rattle.text.proofs.PrintLaws.{put-text, put-within, put_then, put-end}
use Rattle.plates.specs.Words.{refused_line}
use Rattle.plates.proofs.stops.put_refused.Goals as goal

pub returns : goal.returns
unfolding refused_line
returns c =
    let place = c.put_place-a.ensures in
    let number = c.put_number-c.ensures in
    let why = c.put_why-d.ensures in
    let body = put_then (put_then (put-text c.put_text-b.ensures) (put-within number.put_done number.lower_bound.1)) (put-within why.put_done why.upper_bound) in
    let p = put-end (put_then (put_then (put-within place.put_done place.upper_bound) body) (put-text c.put_byte.ensures)) (omega (arith, c.requires)) in
    record {
      put_done = rw (c.get-kind.ensures, c.get-said.ensures) at p.0;
      upper_bound = omega (arith, p.1);
    }
