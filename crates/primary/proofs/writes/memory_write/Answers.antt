-- `primary::writes::memory_write` meets its contract. Assumes nothing.
use mathlib.Core.Path.{◌≡◌, sym, ◌∙◌}
use lib.ListN.{length}
use Rattle.lists.proofs.TestLaws.{pick-accepted, pick-refused}
use Rattle.records.proofs.RefusalLaws.{number-passed, failed-some}
use Rattle.rules.specs.PrimaryWrites.{memory_write_refusal, memory_write_reply, memory_write_memory, memory_write_dirty}
use Rattle.rules.proofs.ReplyLaws.{check-accepts, check-refuses}
use Rattle.rules.proofs.WriteLaws.{memory-write-accepted, memory-write-end}
use Rattle.primary.proofs.writes.memory_write.Goals as goal
use Rattle.primary.proofs.writes.memory_write.Goals.{In_default}

-- past the tests the write is accepted
accepted : (c : In_default) → let a = c.args in
    memory_write_refusal a.p (length a.memory.now) (length a.dirty.now) a.page a.offset (length a.bytes.now) ≡ 0
accepted c = number-passed _ _ c.check_memory_write.ensures c.in_default.is

pub returns-in-Err : goal.returns-in-Err
unfolding memory_write_reply memory_write_memory memory_write_dirty
returns-in-Err c =
    let z = failed-some _ _ c.check_memory_write.ensures c.in-Err.is in record {
      value = rw c.refused.ensures (check-refuses _ _ _ _ _ c.check_memory_write.ensures c.in-Err.is);
      memory_after = sym (pick-refused _ _ _ z);
      dirty_after = sym (pick-refused _ _ _ z);
    }

pub write-requires : goal.write-requires
write-requires c = memory-write-end _ _ _ _ _ _ (memory-write-accepted _ _ _ _ _ _ (accepted (goal.at.write-requires c).In_default))

pub returns : goal.returns
unfolding memory_write_reply memory_write_memory memory_write_dirty
returns c =
    let z = accepted (goal.at.returns c).In_default in record {
      value = rw c.accepted.ensures (check-accepts _ _ _ _ _ c.check_memory_write.ensures c.in_default.is);
      memory_after = c.write.ensures ∙ sym (pick-accepted _ _ _ z);
      dirty_after = c.mark.ensures ∙ sym (pick-accepted _ _ _ z);
    }
