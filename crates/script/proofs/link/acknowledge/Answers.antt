-- `script::link::acknowledge` meets its contract. Assumes nothing.
use mathlib.Core.Path.{sym, ap, ◌∙◌}
use Rattle.lists.proofs.TestLaws.{cond-true, cond-false}
use Rattle.text.specs.Line.{is_empty}
use Rattle.script.specs.Pair.{perform, acknowledge_done}
use Rattle.script.specs.Site.{world_of}
use Rattle.script.proofs.AckLaws.{acks-none, acks-some}
use Rattle.script.proofs.link.acknowledge.Goals as goal

pub returns-then-s : goal.returns-then-s
unfolding perform acknowledge_done world_of
returns-then-s c = c.nothing_there.ensures ∙ sym (cond-true _ _ _ (ap is_empty (acks-none _ _ c.if-s.true)))

pub returns : goal.returns
unfolding perform acknowledge_done world_of
returns c = c.read_ack.ensures ∙ sym (cond-false _ _ _ (acks-some _ _ c.if-s.false))
