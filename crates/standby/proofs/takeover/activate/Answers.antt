use native.Mathlib.Omega.{arith}
use mathlib.Core.Path.{refl, sym, ◌∙◌}
use mathlib.Core.Bool.{true}
use Rattle.lists.proofs.TestLaws.{pick-accepted}
use Rattle.records.specs.Kind.{ACTIVATION}
use Rattle.records.specs.Write.{activation_record}
use Rattle.records.proofs.FrameLaws.{length-epoch}
use Rattle.records.proofs.RefusalLaws.{number-passed}
use Rattle.records.proofs.WriteLaws.{room_of, written-bytes}
use Rattle.rules.specs.Takeover.{activation_area}
use Rattle.rules.proofs.TakeoverLaws.{activation-accepted}
use Rattle.standby.proofs.takeover.activate.Goals as goal

pub returns-clause-area_after : goal.returns-clause-area_after
unfolding activation_area
returns-clause-area_after c =
    let e = number-passed _ _ c.check_activation.ensures c.in_default.is in
    let s = c.args.s in
    let a = (activation-accepted _ _ e).area_lent in
    let room = room_of true (activation_record s.received) c.args.area.now refl (omega (arith, length-epoch ACTIVATION s.received)) in
    written-bytes c.write_activation.ensures room ∙ sym (pick-accepted _ _ _ e)
