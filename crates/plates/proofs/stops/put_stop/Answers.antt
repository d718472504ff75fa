-- `plates::stops::put_stop` meets its contract. Assumes nothing.
use Rattle.std.specs.Prelude.{Result, Err}
use mathlib.Core.Path.{sym, ap, ◌∙◌}
use Rattle.records.specs.declared.Record.{Record}
use Rattle.records.specs.declared.Unread.{Unread}
use Rattle.records.specs.declared.Reader.TheVariants.{Test}
use Rattle.plates.proofs.PlateLaws.{stop-end, stop-short, stop-refused, refused-header, found_none, ok-found}
use Rattle.plates.proofs.stops.put_stop.Goals as goal

pub returns-then-bytes-eq0 : goal.returns-then-bytes-eq0
returns-then-bytes-eq0 c =
    rw (stop-end 0 _ _ _ c.if-bytes-eq0.true) (record {
      put_done = c.put_end.ensures.put_done;
      upper_bound = c.put_end.ensures.upper_bound;
    })

pub put_refused-requires : goal.put_refused-requires
put_refused-requires c =
    let p = c.requires in
    (p.0, refused-header Test _ _ _ p.1 (sym c.read.ensures ∙ c.in-Err-Refused.is ∙ ap (λ (u : Unread). Err u) c.in-Err-Refused.field-0-is))

pub returns-in-Err-Short : goal.returns-in-Err-Short
returns-in-Err-Short c =
    rw (stop-short 0 _ _ _ c.if-bytes-eq0.false _ (sym c.read.ensures ∙ c.in-Err-Short.is ∙ ap (λ (u : Unread). Err u) c.in-Err-Short.field-0-is))
    (record {
      put_done = c.put_short.ensures.put_done;
      upper_bound = c.put_short.ensures.upper_bound;
    })

pub returns-in-Err-Refused : goal.returns-in-Err-Refused
returns-in-Err-Refused c =
    rw (stop-refused 0 _ _ _ c.if-bytes-eq0.false _ (sym c.read.ensures ∙ c.in-Err-Refused.is ∙ ap (λ (u : Unread). Err u) c.in-Err-Refused.field-0-is))
    (record {
      put_done = c.put_refused.ensures.put_done;
      upper_bound = c.put_refused.ensures.upper_bound;
    })

pub returns-in-Ok : goal.returns-in-Ok
returns-in-Ok c =
    absurd (found_none _ _ _ c.read.result c.read.ensures c.requires.2 (rw c.in-Ok.is (ok-found _)))
