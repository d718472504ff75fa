use Rattle.records.proofs.kinds.commit_length.Goals as goal

pub returns-then-wide : goal.returns-then-wide
returns-then-wide c = rw c.if-wide.true

pub returns-else-wide : goal.returns-else-wide
returns-else-wide c = rw c.if-wide.false
