use mathlib.Core.Path.{◌≡◌, sym, ap, ◌∙◌}
use mathlib.Core.Bool.{false}
use Rattle.records.specs.Area.{all_zero}
use Rattle.records.specs.declared.Area.TheVariants.{Activation}
use Rattle.records.proofs.AreaLaws.{area-other-length, area-of-zero, area-of-record, area-other-body, area-other-kind}
use Rattle.records.proofs.disk_area.read_area.Goals as goal
use Rattle.records.proofs.disk_area.read_area.Goals.{Else-all_zero}

not-zero : (c : Else-all_zero) → all_zero c.args.s.now ≡ false
not-zero c = sym c.all_zero.ensures ∙ c.if-all_zero.false

pub returns-then-s-ne-AREA_LENGTH : goal.returns-then-s-ne-AREA_LENGTH
returns-then-s-ne-AREA_LENGTH c = sym (area-other-length _ c.if-s-ne-AREA_LENGTH.true)

pub returns-then-all_zero : goal.returns-then-all_zero
returns-then-all_zero c = sym (area-of-zero _ c.if-s-ne-AREA_LENGTH.false (sym c.all_zero.ensures ∙ c.if-all_zero.true))

pub returns-then-get-ne-EPOCH_FIELD : goal.returns-then-get-ne-EPOCH_FIELD
returns-then-get-ne-EPOCH_FIELD c =
    let d = c in
    sym (area-other-body _ d.if-s-ne-AREA_LENGTH.false (not-zero (goal.at.returns-then-get-ne-EPOCH_FIELD c).Else-all_zero) (λ e. c.if-get-ne-EPOCH_FIELD.true (c.get.ensures ∙ e)))

pub returns-then-get-ne-ACTIVATION : goal.returns-then-get-ne-ACTIVATION
returns-then-get-ne-ACTIVATION c =
    let d = c in
    sym (area-other-kind _ d.if-s-ne-AREA_LENGTH.false (not-zero (goal.at.returns-then-get-ne-ACTIVATION c).Else-all_zero) (λ e. c.if-get-ne-ACTIVATION.true (c.get-2.ensures ∙ e)))

pub returns : goal.returns
returns c =
    let d = c in
    let l = sym c.get.ensures ∙ c.if-get-ne-EPOCH_FIELD.false in
    let k = sym c.get-2.ensures ∙ c.if-get-ne-ACTIVATION.false in
    ap Activation c.get-3.ensures ∙ sym (area-of-record _ d.if-s-ne-AREA_LENGTH.false (not-zero (goal.at.returns c).Else-all_zero) l k)
