-- `plate` answers a line by the bytes that are kept of it. Assumes nothing.
use Rattle.std.proofs.Common.{◌≡◌, ◌+◌, ◌≤◌, arith, length, take}
use Rattle.plates.specs.Read.{kept_of}
use Rattle.plates.proofs.KeptLaws.{kept-lent}
use Rattle.plate.proofs.PlateProgramLineProgram.answer.Goals as goal

pub put_answer-end-requires : goal.put_answer-end-requires
put_answer-end-requires c =
    let k = c.kept_length-n.ensures in
    rw (kept-lent c.args.line _ k.0) (omega (arith, k.0, k.1), omega (arith, c.requires))

pub returns-clause-printed : goal.returns-clause-printed
returns-clause-printed c = rw (kept-lent c.args.line _ c.kept_length-n.ensures.0) at c.put_answer-end.ensures.put_done
