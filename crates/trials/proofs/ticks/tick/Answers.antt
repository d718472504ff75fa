-- `trials::ticks::tick` meets its contract: each part is what the definition has at its place. Assumes nothing.
use mathlib.Core.Path.{◌≡◌, sym, ap, ◌∙◌}
use mathlib.Core.List.{[], ◌∷◌, ◌++◌}
use borrow.Author.Rules.{rules}
use Rattle.std.specs.Prelude.{Err}
use Rattle.trials.specs.Trial.{Course, on, and_then, with_tick}
use Rattle.trials.specs.Part.{note, in_order}
use Rattle.trials.specs.Tick.{guest_parts, drain_link, reading, flush, acks, detectors, takeover, takes, tick}
use Rattle.trials.specs.Site.{trial_of, course_of}
use Rattle.trials.proofs.ticks.tick.Goals as goal
use Rattle.trials.proofs.ticks.tick.Goals.{In_ok-acked}

-- as far as the ACKs
up_to_acks : (c : In_ok-acked) → (in_order (note with_tick) (guest_parts c.args.pages c.args.blocks c.args.packets ++ (drain_link ∷ reading ∷ flush ∷ acks ∷ []))).course (trial_of c.args.t) ≡ on (trial_of c.in_ok-acked.acked)
up_to_acks c =
    rw (← c.begun-start.ensures, ← c.in_ok-written.ensures, ← c.in_ok-stored.ensures, ← c.in_ok-sent.ensures, ← c.in_ok-closed.ensures, ← c.drain_link-drained.ensures, ← c.in_ok-read.ensures, ← c.flush-flushed.ensures, ← c.in_ok-acked.ensures)

pub returns-in_err-written : goal.returns-in_err-written
unfolding tick
returns-in_err-written c =
    let is : c.from_residual.result ≡ Err c.in_err-written.field-0.0 = search rules in
    ap course_of is ∙ rw (← c.begun-start.ensures, ← c.in_err-written.ensures)

pub returns-in_err-stored : goal.returns-in_err-stored
unfolding tick
returns-in_err-stored c =
    let is : c.from_residual-in_err-stored.result ≡ Err c.in_err-stored.field-0.0 = search rules in
    ap course_of is ∙ rw (← c.begun-start.ensures, ← c.in_ok-written.ensures, ← c.in_err-stored.ensures)

pub returns-in_err-sent : goal.returns-in_err-sent
unfolding tick
returns-in_err-sent c =
    let is : c.from_residual-in_err-sent.result ≡ Err c.in_err-sent.field-0.0 = search rules in
    ap course_of is ∙ rw (← c.begun-start.ensures, ← c.in_ok-written.ensures, ← c.in_ok-stored.ensures, ← c.in_err-sent.ensures)

pub returns-in_err-closed : goal.returns-in_err-closed
unfolding tick
returns-in_err-closed c =
    let is : c.from_residual-in_err-closed.result ≡ Err c.in_err-closed.field-0.0 = search rules in
    ap course_of is ∙ rw (← c.begun-start.ensures, ← c.in_ok-written.ensures, ← c.in_ok-stored.ensures, ← c.in_ok-sent.ensures, ← c.in_err-closed.ensures)

pub returns-in_err-read : goal.returns-in_err-read
unfolding tick
returns-in_err-read c =
    let is : c.from_residual-in_err-read.result ≡ Err c.in_err-read.field-0.0 = search rules in
    ap course_of is ∙ rw (← c.begun-start.ensures, ← c.in_ok-written.ensures, ← c.in_ok-stored.ensures, ← c.in_ok-sent.ensures, ← c.in_ok-closed.ensures, ← c.drain_link-drained.ensures, ← c.in_err-read.ensures)

pub returns-in_err-acked : goal.returns-in_err-acked
unfolding tick
returns-in_err-acked c =
    let is : c.from_residual-in_err-acked.result ≡ Err c.in_err-acked.field-0.0 = search rules in
    ap course_of is ∙ rw (← c.begun-start.ensures, ← c.in_ok-written.ensures, ← c.in_ok-stored.ensures, ← c.in_ok-sent.ensures, ← c.in_ok-closed.ensures, ← c.drain_link-drained.ensures, ← c.in_ok-read.ensures, ← c.flush-flushed.ensures, ← c.in_err-acked.ensures)

pub returns-in_err-receiving : goal.returns-in_err-receiving
unfolding tick
returns-in_err-receiving c =
    let is : c.from_residual-in_err-receiving.result ≡ Err c.in_err-receiving.field-0.0 = search rules in
    ap course_of is
    ∙ sym (ap (λ (x : Course). and_then (and_then (and_then x detectors.course) takeover.course) takes.course) (up_to_acks (goal.at.returns-in_err-receiving c).In_ok-acked)
    ∙ ap (λ (x : Course). and_then (and_then x takeover.course) takes.course) (sym c.detectors-ticked.ensures)
    ∙ ap (λ (x : Course). and_then x takes.course) (sym c.in_err-receiving.ensures))

pub returns : goal.returns
unfolding tick
returns c =
    c.takes.ensures
    ∙ sym (ap (λ (x : Course). and_then (and_then (and_then x detectors.course) takeover.course) takes.course) (up_to_acks (goal.at.returns c).In_ok-acked)
    ∙ ap (λ (x : Course). and_then (and_then x takeover.course) takes.course) (sym c.detectors-ticked.ensures)
    ∙ ap (λ (x : Course). and_then x takes.course) (sym c.in_ok-receiving.ensures))
