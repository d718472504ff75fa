-- `primary::tick::tick_state` meets its contract. Assumes nothing.
use mathlib.Core.Path.{sym, ◌∙◌}
use Rattle.rules.proofs.PrimaryTickLaws.{tick-alone, tick-protected}
use Rattle.primary.proofs.tick.tick_state.Goals as goal

pub returns-then-p : goal.returns-then-p
returns-then-p c = sym (tick-alone _ c.if-p.true)

pub returns : goal.returns
returns c =
    rw (c.ticked_in_place-next.ensures, c.outstanding.ensures) at c.alone_at.ensures
    ∙ sym (tick-protected _ c.if-p.false)
