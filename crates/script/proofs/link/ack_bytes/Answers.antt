-- `script::link::ack_bytes` meets its contract. Assumes nothing.
use mathlib.Core.Path.{refl, ◌∙◌}
use mathlib.Core.Bool.{true}
use native.Mathlib.Omega.{arith}
use lib.ListN.{replicate}
use Rattle.lists.proofs.PartLaws.{put_whole}
use Rattle.records.specs.Kind.{ACK}
use Rattle.records.specs.Write.{ack_record}
use Rattle.records.proofs.FrameLaws.{length-epoch}
use Rattle.records.proofs.WriteLaws.{room_of, written-bytes}
use Rattle.script.proofs.link.ack_bytes.Goals as goal

pub returns : goal.returns
returns c =
    let w = c.write_ack.ensures in
    let l = length-epoch ACK c.args.epoch in
    written-bytes w (room_of true (ack_record c.args.epoch) (replicate 8 0) refl (omega arith)) ∙ put_whole (replicate 8 0) (ack_record c.args.epoch) l
