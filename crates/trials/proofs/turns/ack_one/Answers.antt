-- `trials::turns::ack_one` meets its contract. Assumes nothing.
use mathlib.Core.Path.{◌≡◌, refl, sym, ap, ◌∙◌}
use mathlib.Core.Bool.{true, not}
use borrow.Author.Rules.{rules}
use borrow.Author.Tests.{eq-eqb, ne_eqb}
use Rattle.std.specs.Prelude.{Err}
use Rattle.lists.proofs.TestLaws.{cond-false}
use Rattle.text.specs.Line.{is_empty}
use Rattle.rules.specs.World as call
use Rattle.script.specs.Pair.{ack_bytes, perform, acknowledge_done, done}
use Rattle.script.specs.Site.{world_of, done_of}
use Rattle.rules.specs.Step.{step}
use Rattle.trials.specs.Tick.{acks_unread, ack_turn}
use Rattle.trials.specs.Site.{trial_of, turn_of}
use Rattle.trials.proofs.CourseLaws.{done-count, must-done, turn-made, turn-none}
use Rattle.trials.proofs.turns.ack_one.Goals as goal
use Rattle.trials.proofs.turns.ack_one.Goals.{After-acknowledge}

-- where one is unread, the ACK is read
read_is : (c : After-acknowledge) → done_of c.acknowledge.result ≡ done (step (world_of c.args.t.site) (call.ack ack_bytes))
unfolding perform acknowledge_done
read_is c =
    let w = world_of c.args.t.site in
    c.acknowledge.ensures
    ∙ cond-false (is_empty w.acks) _ _ (ne_eqb _ _ (λ z. c.if-unread_bytes-eq0.false (c.unread_bytes.ensures ∙ z)))

unread : (c : After-acknowledge) → acks_unread (trial_of c.args.t) ≡ true
unfolding trial_of
unread c = ap not (ne_eqb _ _ (λ z. c.if-unread_bytes-eq0.false (c.unread_bytes.ensures ∙ z)))

pub returns-then-unread_bytes-eq0 : goal.returns-then-unread_bytes-eq0
unfolding trial_of
returns-then-unread_bytes-eq0 c = turn-none acks_unread ack_turn (trial_of c.args.t) (ap not (eq-eqb _ _ (sym c.unread_bytes.ensures ∙ c.if-unread_bytes-eq0.true)))

pub unless_refused-requires : goal.unless_refused-requires
unless_refused-requires c = done-count _ (call.ack ack_bytes) refl _ (read_is (goal.at.unless_refused-requires c).After-acknowledge)

pub returns-in_err-unless_refused : goal.returns-in_err-unless_refused
unfolding trial_of
returns-in_err-unless_refused c =
    let a = (goal.at.returns-in_err-unless_refused c).After-acknowledge in
    let is : c.from_residual.result ≡ Err c.in_err-unless_refused.field-0.0 = search rules in
    ap turn_of is ∙ turn-made acks_unread ack_turn (trial_of c.args.t) (unread a) (must-done (λ u. call.ack ack_bytes) c.args.t _ _ _ (read_is a) c.in_err-unless_refused.ensures)

pub returns : goal.returns
unfolding trial_of
returns c =
    let a = (goal.at.returns c).After-acknowledge in
    turn-made acks_unread ack_turn (trial_of c.args.t) (unread a) (must-done (λ u. call.ack ack_bytes) c.args.t _ _ _ (read_is a) c.in_ok-unless_refused.ensures)
