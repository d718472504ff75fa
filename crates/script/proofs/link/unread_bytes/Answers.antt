-- `script::link::unread_bytes` meets its contract. Assumes nothing.
use mathlib.Core.Path.{sym, ap}
use lib.ListN.{length}
use Rattle.script.specs.Site.{world_of}
use Rattle.script.proofs.AckLaws.{acks-none, length-between}
use Rattle.script.proofs.link.unread_bytes.Goals as goal

pub returns-then-last-s : goal.returns-then-last-s
unfolding world_of
returns-then-last-s c = sym (ap length (acks-none _ _ c.if-last-s.true))

pub returns : goal.returns
unfolding world_of
returns c = sym (length-between _ _)
