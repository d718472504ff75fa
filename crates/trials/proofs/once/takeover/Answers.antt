-- `trials::once::takeover` meets its contract. Assumes nothing.
use mathlib.Core.Path.{refl, sym, ap, ◌∙◌}
use Rattle.lists.proofs.TestLaws.{cond-true, cond-false}
use Rattle.rules.specs.World as call
use Rattle.trials.specs.Tick.{took_over}
use Rattle.trials.specs.Site.{trial_of, end_of}
use Rattle.trials.proofs.CourseLaws.{site-count, takeover-done}
use Rattle.trials.proofs.once.takeover.Goals as goal

pub returns-then-not-took_over : goal.returns-then-not-took_over
returns-then-not-took_over c = sym (cond-false (took_over (trial_of c.args.t)) _ _ (sym c.took_over.ensures ∙ c.if-not-took_over.true))

pub with_site-requires : goal.with_site-requires
with_site-requires c = site-count _ call.activation refl _ c.activated-last.ensures.site_value ∙ site-count _ (call.flush _) refl _ c.flushed_all-stored.ensures

pub returns : goal.returns
returns c =
    let d = c.activated-last.ensures in
    takeover-done c.args.t _ _ _ c.activated-last.result c.flushed_all-stored.ensures d.site_value d.value_value c.with_site.ensures (ap end_of c.ending.ensures)
    ∙ sym (cond-true (took_over (trial_of c.args.t)) _ _ (sym c.took_over.ensures ∙ c.if-not-took_over.false))
