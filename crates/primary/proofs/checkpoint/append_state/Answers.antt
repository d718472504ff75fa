-- `primary::checkpoint::append_state` meets its contract. Assumes nothing.
use borrow.Author.Rules.{rules}
use mathlib.Core.Path.{◌≡◌, refl}
use mathlib.Core.Bool.{true}
use native.Mathlib.Omega.{arith}
use lib.ListN.{length}
use Rattle.records.specs.Write.{state_record}
use Rattle.records.proofs.FrameLaws.{length-state}
use Rattle.records.proofs.WriteLaws.{written-done}
use Rattle.primary.proofs.checkpoint.append_state.Goals as goal
use Rattle.primary.proofs.checkpoint.append_state.Goals.{After-slice_known-2-1}

pub returns : goal.returns
returns c =
    let a = c.args in
    let call = c.write_state-n in
    let size : length a.processor ≡ 64 = search rules in
    written-done true (state_record a.epoch a.processor) a.stream.now call.new.out a.at call.result refl
    (omega (arith, length-state a.epoch a.processor)) call.ensures

pub overflow_add-result : goal.overflow_add-result
overflow_add-result c =
    let a = c.args in
    let size : length a.processor ≡ 64 = search rules in
    omega (arith, (returns (goal.at.overflow_add-result c).After-slice_known-2-1).position, length-state a.epoch a.processor)
