use Prim.Native.Nat.{◌+◌, ◌-◌}
use native.Mathlib.Omega.{arith}
use lib.ListN.{length}
use Rattle.records.specs.Kind.{number_width}
use Rattle.records.specs.Write.{unit_record}
use Rattle.records.proofs.WriteLaws.{put-number-rest}
use Rattle.records.proofs.writing.put_unit.Goals as goal

pub returns : goal.returns
unfolding unit_record
returns c =
    let a = c.args in
    let h = c.number_end-head.ensures in
    let e = put-number-rest (length a.body.now + (c.number_end-head.result - 4)) a.kind a.epoch a.out.now (number_width a.wide) a.number a.body.now (omega arith) (omega arith) in
    cc (e, h)
