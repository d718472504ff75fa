use mathlib.Core.Path.{refl}
use Rattle.records.proofs.FrameLaws.{length-epoch}
use Rattle.records.proofs.WriteLaws.{room_of, written-bytes}
use Rattle.standby.proofs.effects.install.Goals as goal

pub returns-clause-reply_after : goal.returns-clause-reply_after
returns-clause-reply_after c = written-bytes c.write_ack.ensures (room_of _ _ _ refl (rw length-epoch c.requires.2))
