use native.Mathlib.Omega.{arith}
use mathlib.Core.Path.{sym, ap, ◌∙◌}
use Rattle.std.specs.Prelude.{ℕ, replicate}
use Rattle.lists.proofs.PartLaws.{put_whole}
use Rattle.lists.proofs.TestLaws.{pick-accepted}
use Rattle.records.proofs.RefusalLaws.{number-passed}
use Rattle.rules.specs.Start.{start_copy, start_area}
use Rattle.rules.proofs.StartLaws.{start-accepted}
use Rattle.ends.proofs.start.start.Goals as goal

pub copy_front-requires : goal.copy_front-requires
copy_front-requires c =
    let f = (start-accepted _ _ (number-passed _ _ c.check_start.ensures c.in_default.is)).lent in
    omega (arith, f.memory-is, f.standby-memory-is)

pub copy_front-requires-2 : goal.copy_front-requires-2
copy_front-requires-2 c =
    let f = (start-accepted _ _ (number-passed _ _ c.check_start.ensures c.in_default.is)).lent in
    omega (arith, f.disk-is, f.standby-disk-is)

pub returns-clause-standby_memory_after : goal.returns-clause-standby_memory_after
unfolding start_copy
returns-clause-standby_memory_after c =
    let e = number-passed _ _ c.check_start.ensures c.in_default.is in
    let f = (start-accepted _ _ e).lent in
    c.copy_front.ensures ∙ put_whole _ _ (f.memory-is ∙ sym f.standby-memory-is) ∙ sym (pick-accepted _ _ _ e)

pub returns-clause-standby_disk_after : goal.returns-clause-standby_disk_after
unfolding start_copy
returns-clause-standby_disk_after c =
    let e = number-passed _ _ c.check_start.ensures c.in_default.is in
    let f = (start-accepted _ _ e).lent in
    c.copy_front-2.ensures ∙ put_whole _ _ (f.disk-is ∙ sym f.standby-disk-is) ∙ sym (pick-accepted _ _ _ e)

pub returns-clause-area_after : goal.returns-clause-area_after
unfolding start_area
returns-clause-area_after c =
    let e = number-passed _ _ c.check_start.ensures c.in_default.is in
    let f = (start-accepted _ _ e).lent in
    c.fill.ensures.after (λ y k. cc) ∙ ap (λ (n : ℕ). replicate n 0) f.area-is ∙ sym (pick-accepted _ _ _ e)
