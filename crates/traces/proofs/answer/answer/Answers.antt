-- `traces::answer::answer` meets its contract. Assumes nothing.
use mathlib.Core.Path.{refl}
use Rattle.traces.proofs.AnswerLaws.{answer-is}
use Rattle.traces.proofs.answer.answer.Goals as goal

pub returns : goal.returns
returns c =
    let a = c.args in
    let p = c.perform-done in
    let w = c.put_lines-length.ensures in
    answer-is a.t a.l _ _ p.result c.damaged_by-damaged.result _ _ _ c.trace_command_of-c.ensures c.fault_of-fault.ensures
    p.ensures c.damaged_by-damaged.ensures w.put_done w.upper_bound refl
