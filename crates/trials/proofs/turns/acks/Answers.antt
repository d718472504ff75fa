-- `trials::turns::acks` meets its contract. Assumes nothing.
use Prim.Native.Nat.{ℕ, suc}
use mathlib.Core.Path.{ap, ◌∙◌}
use Rattle.trials.specs.Part.{whilst}
use Rattle.trials.specs.Tick.{acks_unread, ack_turn}
use Rattle.trials.specs.Site.{trial_of}
use Rattle.trials.proofs.turns.acks.Goals as goal

pub returns : goal.returns
unfolding trial_of
returns c =
    c.repeat.ensures acks_unread ack_turn (λ u r p. p.1)
    ∙ ap (λ (n : ℕ). (whilst acks_unread ack_turn (suc n)).course (trial_of c.args.t)) c.unread_bytes.ensures
