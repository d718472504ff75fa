-- `plates::areas::put_area_output` meets its contract. Assumes nothing.
use Rattle.plates.proofs.WordLaws.{area-short, area-whole}
use Rattle.plates.proofs.areas.put_area_output.Goals as goal

pub returns-then-bytes-ne-AREA_LENGTH : goal.returns-then-bytes-ne-AREA_LENGTH
returns-then-bytes-ne-AREA_LENGTH c =
    rw (area-short _ c.if-bytes-ne-AREA_LENGTH.true) (record {
      put_done = c.put_area_length.ensures.put_done;
      upper_bound = c.put_area_length.ensures.upper_bound;
    })

pub returns : goal.returns
returns c =
    let a = c.read_area-area.ensures in
    let d = c.decide-choice.ensures in
    rw (area-whole _ c.if-bytes-ne-AREA_LENGTH.false) (rw (a, d) at c.put_area_line.ensures)
