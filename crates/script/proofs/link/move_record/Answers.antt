-- `script::link::move_record` meets its contract. Assumes nothing.
use mathlib.Core.Path.{◌≡◌, sym, ap, ◌∙◌}
use mathlib.Core.Bool.{false, ◌&&◌}
use mathlib.Core.Logic.{⊎_elim}
use lib.Dec.{eqb}
use lib.ListN.{length, replicate}
use borrow.Author.Tests.{eq-eqb, ne_eqb}
use Rattle.lists.proofs.TestLaws.{join, and-false, cond-true, cond-false}
use Rattle.rules.specs.World.{World}
use Rattle.rules.specs.World as call
use Rattle.rules.specs.Step.{step}
use Rattle.text.specs.Line.{is_empty}
use Rattle.script.specs.Pair.{ack_bytes, done, perform, move_done}
use Rattle.script.specs.Site.{world_of}
use Rattle.script.proofs.LinkLaws.{empty-link, full-link}
use Rattle.script.proofs.SiteLaws.{lengths}
use Rattle.script.proofs.link.move_record.Goals as goal

pub returns-then-s-eq0-2 : goal.returns-then-s-eq0-2
unfolding perform move_done world_of
returns-then-s-eq0-2 c =
    let s = c.args.s in
    let long = sym (lengths s _ c.well_formed.0).link in
    c.nothing_there.ensures ∙ sym (cond-true _ _ _ (join _ _ (empty-link s long c.if-s-eq0.true) (eq-eqb _ _ c.if-s-eq0-2.true)))

-- past the tests there is something to move
pub returns : goal.returns
unfolding perform move_done world_of
returns c =
    let s = c.args.s in
    let link = is_empty (world_of s).link in
    let long = sym (lengths s _ c.well_formed.0).link in
    let something : link && eqb s.primary.state.waiting 0 ≡ false
    = ⊎_elim (λ w. rw (ne_eqb _ _ w.1) (and-false link)) (λ w. rw (full-link s long w)) c.else-s-eq0.either in
    c.read_link.ensures
    ∙ ap (λ (w : World). done (step w (call.read (length w.link) (replicate ack_bytes 0)))) c.drain_record.ensures
    ∙ sym (cond-false _ _ _ something)
