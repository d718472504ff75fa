-- `traces::commands::set_byte` meets its contract. Assumes nothing.
use mathlib.Core.Path.{◌≡◌, sym, ap, ◌∙◌}
use mathlib.Core.Bool.{false, ◌&&◌}
use lib.Dec.{eqb}
use borrow.Author.Tests.{eq-eqb, ne_eqb}
use Rattle.lists.proofs.TestLaws.{join, and-false, cond-true, cond-false}
use Rattle.rules.specs.World.{World}
use Rattle.text.specs.Line.{is_empty}
use Rattle.script.specs.Site.{world_of}
use Rattle.script.proofs.LinkLaws.{empty-link, full-link}
use Rattle.script.proofs.SiteLaws.{lengths}
use Rattle.traces.specs.Command.{set_done}
use Rattle.traces.proofs.CommandLaws.{set_in}
use Rattle.traces.proofs.commands.set_byte.Goals as goal
use Rattle.traces.proofs.commands.set_byte.Goals.{Joined-else-s-eq0, else-s-eq0-via-then-s-eq0+else-s-eq0-2, else-s-eq0-via-else-s-eq0}

-- past the tests there is something on its way
something : (c : Joined-else-s-eq0) → is_empty (world_of c.args.s).link && eqb c.args.s.primary.state.waiting 0 ≡ false
something c =
    let s = c.args.s in
    elim c.else-s-eq0.branch [
      | else-s-eq0-via-then-s-eq0+else-s-eq0-2 w ↦ rw (ne_eqb _ _ w.if-s-eq0-2.false) (and-false (is_empty (world_of s).link))
      | else-s-eq0-via-else-s-eq0 w ↦ rw (full-link s (sym (lengths s _ c.well_formed.0).link) w.if-s-eq0.false)
    ]

pub returns-then-s-eq0-2 : goal.returns-then-s-eq0-2
unfolding set_done world_of
returns-then-s-eq0-2 c =
    let s = c.args.s in
    c.nothing_there.ensures
    ∙ sym (cond-true _ _ _ (join _ _ (empty-link s (sym (lengths s _ c.well_formed.0).link) c.if-s-eq0.true) (eq-eqb _ _ c.if-s-eq0-2.true)))

pub returns : goal.returns
unfolding set_done world_of
returns c =
    let a = c.args in
    c.set_in.ensures
    ∙ ap (λ (w : World). set_in (world_of a.s) w a.at a.byte) c.drain_record.ensures
    ∙ sym (cond-false _ _ _ (something (goal.at.returns c).Joined-else-s-eq0))
