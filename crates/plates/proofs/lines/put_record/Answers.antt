-- `plates::lines::put_record` meets its contract. Assumes nothing.
use native.Mathlib.Omega.{arith}
use Rattle.text.proofs.PrintLaws.{put-text, put-within, put_then, put-end}
use Rattle.plates.specs.Words.{record_line}
use Rattle.plates.proofs.lines.put_record.Goals as goal

pub returns : goal.returns
unfolding record_line
returns c =
    let place = c.put_place-a.ensures in
    let kind = c.put_kind-b.ensures in
    let fields = c.put_fields-c.ensures in
    let used = c.put_number-e.ensures in
    let head = put_then (put_then (put-within kind.put_done kind.upper_bound) (put-within fields.put_done fields.upper_bound)) (put-text c.put_text-d.ensures) in
    let body = put_then (put_then head (put-within used.put_done used.lower_bound.1)) (put-text c.put_text-f.ensures) in
    let p = put-end (put_then (put_then (put-within place.put_done place.upper_bound) body) (put-text c.put_byte.ensures)) (omega (arith, c.requires)) in
    record {
      put_done = rw c.used_of-used.ensures at p.0;
      upper_bound = omega (arith, p.1);
    }
