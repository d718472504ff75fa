use mathlib.Core.Path.{refl}
use native.Mathlib.Omega.{arith}
use Rattle.records.proofs.FrameLaws.{length-epoch}
use Rattle.records.proofs.WriteLaws.{head-epoch, room_of, no_room, written_of, unwritten_of}
use Rattle.records.proofs.writing.write_epoch.Goals as goal

pub returns-then-out-lt-EPOCH_RECORD : goal.returns-then-out-lt-EPOCH_RECORD
returns-then-out-lt-EPOCH_RECORD c =
    let a = c.args in
    unwritten_of (no_room _ _ _ (λ f h. omega (arith, length-epoch a.kind a.epoch))) refl refl

pub returns : goal.returns
returns c =
    let a = c.args in
    let n = length-epoch a.kind a.epoch in
    written_of (room_of _ _ _ refl (omega arith)) (rw (← head-epoch) c.put_head.ensures) (omega arith)
