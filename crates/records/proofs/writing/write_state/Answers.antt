use mathlib.Core.Path.{◌≡◌, refl}
use lib.ListN.{length}
use Rattle.records.specs.Kind.{STATE}
use Rattle.records.specs.Write.{state_record}
use native.Mathlib.Omega.{arith}
use Rattle.records.proofs.FrameLaws.{length-state}
use Rattle.records.proofs.WriteLaws.{put_rest, room_of, no_room, written_of, unwritten_of}
use borrow.Author.Rules.{rules}
use Rattle.records.proofs.writing.write_state.Goals as goal

pub returns-then-out-lt-STATE_RECORD : goal.returns-then-out-lt-STATE_RECORD
returns-then-out-lt-STATE_RECORD c =
    let a = c.args in
    let w : length a.processor.now ≡ 64 = search rules in
    let n = length-state a.epoch a.processor.now in
    unwritten_of (no_room _ _ _ (λ f h. omega arith)) refl refl

pub returns : goal.returns
unfolding state_record
returns c =
    let a = c.args in
    let w : length a.processor.now ≡ 64 = search rules in
    let n = length-state a.epoch a.processor.now in
    let e = put_rest 68 STATE a.epoch a.out.now a.processor.now (omega arith) (omega arith) in
    written_of (room_of _ _ _ refl (omega arith)) (cc e) (omega arith)
