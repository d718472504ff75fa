-- `trials::guest::send_packet` meets its contract. Assumes nothing.
use mathlib.Core.List.{[], ◌∷◌}
use mathlib.Core.Path.{refl, sym, ap, ◌∙◌}
use Rattle.rules.specs.World as call
use Rattle.script.specs.Pair.{Done, perform, used_port}
use Rattle.script.specs.Site.{world_of}
use Rattle.trials.specs.Trial.{with_sent}
use Rattle.trials.specs.Site.{end_of}
use Rattle.trials.proofs.QueueLaws.{step-packet, step-packet-refused}
use Rattle.trials.proofs.CourseLaws.{refused-done, sent-done}
use Rattle.trials.proofs.guest.send_packet.Goals as goal

pub returns-then-step-ne0 : goal.returns-then-step-ne0
unfolding perform
returns-then-step-ne0 c =
    refused-done c.args.t _ _ _ (call.packet used_port (0 ∷ [])) with_sent c.send-step.ensures c.if-step-ne0.true
    (λ n. step-packet-refused _ used_port (0 ∷ []) n) (ap end_of c.ending.ensures)

pub with_last-sent-requires : goal.with_last-sent-requires
unfolding perform world_of
with_last-sent-requires c =
    let e = c.send-step.ensures in
    (step-packet (world_of c.args.t.site) used_port (0 ∷ []) (ap (λ (y : Done). y.outcome.number) (sym e) ∙ c.if-step-ne0.false)).0

pub returns : goal.returns
unfolding perform
returns c = sent-done c.args.t _ _ _ used_port (0 ∷ []) _ c.send-step.ensures c.if-step-ne0.false c.with_last-sent.ensures refl
