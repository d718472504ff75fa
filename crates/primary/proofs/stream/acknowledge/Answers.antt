-- `primary::stream::acknowledge` meets its contract. Assumes nothing.
use Rattle.std.specs.Prelude.{Result}
use mathlib.Core.Path.{ap}
use Rattle.records.specs.declared.Record.{Record}
use Rattle.records.specs.declared.Unread.{Unread}
use Rattle.rules.specs.Reply.{answer_of}
use Rattle.rules.specs.Stream.{ack_state, ack_reply}
use Rattle.rules.proofs.ReplyLaws.{answered}
use Rattle.primary.proofs.stream.acknowledge.Goals as goal

pub returns : goal.returns
unfolding ack_reply
returns c =
    let a = c.args in
    let j = c.ack_judged-r.ensures in record {
      value = rw (c.ack_state.ensures, c.answer_of.ensures) (ap (λ (r : Result Record Unread). record { state = ack_state a.p r; answer = answer_of r }) j);
      answered = answered _ _ _ j c.answer_of.ensures;
    }
