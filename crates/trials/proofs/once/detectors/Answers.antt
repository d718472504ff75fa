-- `trials::once::detectors` meets its contract. Assumes nothing.
use mathlib.Core.Path.{refl, ◌∙◌}
use Rattle.rules.specs.World as call
use Rattle.trials.proofs.CourseLaws.{site-count, detectors-done}
use Rattle.trials.proofs.once.detectors.Goals as goal

pub with_site-requires : goal.with_site-requires
with_site-requires c = site-count _ call.standby_tick refl _ c.ticked.ensures ∙ site-count _ call.primary_tick refl _ c.primary_ticked-first.ensures

pub returns : goal.returns
returns c = detectors-done c.args.t _ _ _ c.primary_ticked-first.ensures c.ticked.ensures c.with_site.ensures
