-- `plates::turns::put_stop_at` meets its contract. Assumes nothing.
use Rattle.plates.proofs.PlateLaws.{lent-rest}
use Rattle.plates.proofs.turns.put_stop_at.Goals as goal

pub put_stop-requires : goal.put_stop-requires
put_stop-requires c =
    let p = c.requires in
    rw (lent-rest c.args.place c.args.bytes.now) (p.0, p.1, p.3)

pub returns : goal.returns
returns c = rw (lent-rest c.args.place c.args.bytes.now) at c.put_stop.ensures
