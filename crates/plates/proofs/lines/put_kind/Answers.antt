-- `plates::lines::put_kind` meets its contract. Assumes nothing.
use Rattle.text.proofs.PrintLaws.{put-text, put-within, put_then, put-end}
use Rattle.plates.proofs.lines.put_kind.Goals as goal

pub returns : goal.returns
returns c =
    let name = c.put_name-a.ensures in
    let kind = c.put_number-c.ensures in
    let head = put_then (put-within name.put_done name.upper_bound) (put-text c.put_text-b.ensures) in
    let p = put-end (put_then (put_then head (put-within kind.put_done kind.lower_bound.1)) (put-text c.put_text.ensures)) c.requires in
    record { put_done = rw c.kind_of-kind.ensures at p.0; upper_bound = p.1 }
