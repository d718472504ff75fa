use native.Mathlib.Omega.{arith}
use Rattle.lists.specs.Page.{page}
use Rattle.lists.proofs.PageLaws.{length-page}
use Rattle.pages.proofs.DirtyLaws.{length-page-record, one_written}
use Rattle.pages.proofs.write_one.Goals as goal
use Rattle.pages.proofs.write_one.Goals.{After-slice_known-2-1}

pub returns : goal.returns
returns c =
    let start = c in
    let a = start.args in
    let call = c.write_page-n in
    let body = c.part_of-body in
    one_written a.memory.now a.out.now body.result.now call.new.out a.at call.result a.wide a.u a.epoch a.p
    start.requires.0 start.requires.1 start.requires.2 start.requires.3 body.ensures call.ensures

pub overflow_add-result : goal.overflow_add-result
overflow_add-result c =
    let start = c in
    let a = start.args in
    omega (arith, (returns (goal.at.overflow_add-result c).After-slice_known-2-1).position, length-page-record a.wide a.u a.epoch a.p (page a.u a.memory.now a.p) (length-page a.u a.p a.memory.now start.requires.1))
