use Rattle.records.proofs.kinds.number_end.Goals as goal

pub returns-then-wide : goal.returns-then-wide
returns-then-wide c = rw c.if-wide.true

pub returns-else-wide : goal.returns-else-wide
returns-else-wide c = rw c.if-wide.false
