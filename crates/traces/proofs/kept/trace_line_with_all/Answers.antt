-- `traces::kept::trace_line_with_all` meets its contract. Assumes nothing.
use native.Mathlib.Omega.{arith}
use Rattle.traces.proofs.KeptLaws.{none_kept, some-kept}
use Rattle.traces.proofs.kept.trace_line_with_all.Goals as goal

pub returns-then-n-eq0 : goal.returns-then-n-eq0
returns-then-n-eq0 c = none_kept _ _ c.if-n-eq0.true

pub returns : goal.returns
returns c = some-kept _ _ _ c.line_with_all.ensures (omega arith)
