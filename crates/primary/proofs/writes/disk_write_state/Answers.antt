-- `primary::writes::disk_write_state` meets its contract. Assumes nothing.
use mathlib.Core.Path.{◌∙◌}
use Rattle.rules.specs.PrimaryWrites.{disk_write_state}
use Rattle.primary.proofs.writes.disk_write_state.Goals as goal

pub returns-then-p : goal.returns-then-p
unfolding disk_write_state
returns-then-p c = rw c.if-p.true

pub with_block_appended-requires : goal.with_block_appended-requires
with_block_appended-requires c = (c.requires.0, c.requires.1, c.requires.2 c.if-p.false)

pub returns : goal.returns
unfolding disk_write_state
returns c = c.with_block_appended.ensures ∙ rw c.if-p.false
