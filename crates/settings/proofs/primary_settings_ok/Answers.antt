use mathlib.Core.Path.{sym, ◌∙◌}
use Rattle.settings.specs.Range.{primary_settings_ok}
use Rattle.settings.proofs.RangeLaws.{shared-facts, shared_of}
use Rattle.settings.proofs.primary_settings_ok.Goals as goal

pub stream_ok-requires : goal.stream_ok-requires
stream_ok-requires c =
    let f = shared-facts _ _ _ _ (sym c.shared_ok.ensures ∙ c.if-shared_ok.true) in
    (f.u-high, f.m-high, f.b-high)

pub returns-then-shared_ok : goal.returns-then-shared_ok
unfolding primary_settings_ok
returns-then-shared_ok c =
    rw (shared_of _ _ _ _ (shared-facts _ _ _ _ (sym c.shared_ok.ensures ∙ c.if-shared_ok.true))) (cc)

pub returns-else-shared_ok : goal.returns-else-shared_ok
unfolding primary_settings_ok
returns-else-shared_ok c = rw (c.if-shared_ok.false, sym c.shared_ok.ensures ∙ c.if-shared_ok.false)
