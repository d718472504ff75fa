-- `primary::checkpoint::checkpoint` meets its contract. Assumes nothing.
use borrow.Author.Rules.{rules}
use mathlib.Core.Path.{◌≡◌, sym, ap, ◌∙◌}
use Prim.Native.Nat.{◌+◌}
use native.Mathlib.Omega.{arith}
use lib.ListN.{length}
use Rattle.lists.proofs.TestLaws.{pick-accepted, pick-refused}
use Rattle.records.specs.Kind.{is_wide}
use Rattle.records.specs.Number.{number_in}
use Rattle.records.proofs.RefusalLaws.{number-passed, failed-some}
use Rattle.marks.proofs.MarkLaws.{count-le}
use Rattle.rules.specs.Checkpoint.{dirty_count, checkpoint_length, checkpoint_number, checkpoint_state, checkpoint_reply, checkpoint_dirty, checkpoint_stream}
use Rattle.rules.proofs.ReplyLaws.{check-accepts, check-refuses}
use Rattle.rules.proofs.CheckpointLaws.{CheckpointRoom, checkpoint-accepted, length-checkpoint}
use Rattle.primary.proofs.checkpoint.checkpoint.Goals as goal
use Rattle.primary.proofs.checkpoint.checkpoint.Goals.{After-check_checkpoint, After-clear, In_default, Start}

-- the number is that of the dirty pages counted
number : (c : After-check_checkpoint) → let a = c.args in
    number_in c.check_checkpoint.result ≡ checkpoint_number a.p a.memory.now a.dirty.now a.stream.now
number c = rw c.count-pages.ensures at c.check_checkpoint.ensures

-- the dirty marks: they are cleared where the checkpoint is accepted, and past the tests it is
marks-left : (c : After-clear) → let a = c.args in
    c.clear.new.ws ≡ checkpoint_dirty a.p a.memory.now a.dirty.now a.stream.now
unfolding checkpoint_dirty
marks-left c = c.clear.ensures ∙ sym (pick-accepted _ _ _ (number-passed _ _ (rw c.count-pages.ensures at c.check_checkpoint.ensures) c.in_default.is))

-- the processor state has its 64 bytes
size : (c : Start) → length c.args.processor ≡ 64
size c = search rules

-- past the tests the checkpoint is accepted
module _ (c : In_default) where
  accepted : let a = c.args in checkpoint_number a.p a.memory.now a.dirty.now a.stream.now ≡ 0
  accepted = number-passed _ _ (rw c.count-pages.ensures at c.check_checkpoint.ensures) c.in_default.is

  facts : let a = c.args in CheckpointRoom a.p (length a.memory.now) (length a.dirty.now) (length a.stream.now) (dirty_count a.p a.dirty.now)
  facts = checkpoint-accepted _ _ _ _ _ accepted

pub check_checkpoint-requires : goal.check_checkpoint-requires
check_checkpoint-requires c = rw c.count-pages.ensures (count-le _ _)

pub returns-in-Err : goal.returns-in-Err
unfolding checkpoint_reply checkpoint_dirty checkpoint_stream
returns-in-Err c =
    let e = number (goal.at.returns-in-Err c).After-check_checkpoint in
    let z = failed-some _ _ e c.in-Err.is in record {
      value = rw c.refused.ensures (check-refuses _ _ _ _ _ e c.in-Err.is);
      dirty_after = sym (pick-refused _ _ _ z);
      stream_after = sym (pick-refused _ _ _ z);
    }

pub append_checkpoint-waiting-requires : goal.append_checkpoint-waiting-requires
append_checkpoint-waiting-requires c = (accepted (goal.at.append_checkpoint-waiting-requires c).In_default, c.count-pages.ensures)

pub overflow_add-p : goal.overflow_add-p
overflow_add-p c = omega (arith, (facts (goal.at.overflow_add-p c).In_default).next)

pub returns : goal.returns
unfolding checkpoint_reply checkpoint_state checkpoint_dirty checkpoint_stream
returns c =
    let a = c.args in
    let z = accepted (goal.at.returns c).In_default in
    let done = c.append_checkpoint-waiting in
    let w : done.result ≡ a.p.waiting + checkpoint_length a.p.settings.u (is_wide a.p.settings.m) (dirty_count a.p a.dirty.now) =
    done.ensures.position ∙ ap (λ n. a.p.waiting + n) (length-checkpoint a.p a.memory.now a.dirty.now a.processor (facts (goal.at.returns c).In_default).memory-is (size (goal.at.returns c).Start)) in record {
      value = rw (c.accepted.ensures, c.with_epoch_waiting.ensures, w) (check-accepts _ _ _ _ _ (number (goal.at.returns c).After-check_checkpoint) c.in_default.is);
      dirty_after = marks-left (goal.at.returns c).After-clear;
      stream_after = done.ensures.bytes ∙ sym (pick-accepted _ _ _ z);
    }
