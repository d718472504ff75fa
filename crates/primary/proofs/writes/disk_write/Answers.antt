-- `primary::writes::disk_write` meets its contract. Assumes nothing.
use mathlib.Core.Path.{◌≡◌, sym, ◌∙◌}
use native.Mathlib.Omega.{arith}
use lib.ListN.{length}
use Rattle.lists.proofs.TestLaws.{pick-accepted, pick-refused}
use Rattle.records.proofs.RefusalLaws.{number-passed, failed-some}
use Rattle.settings.proofs.RangeLaws.{block-record}
use Rattle.rules.specs.PrimaryWrites.{disk_write_refusal, disk_write_reply, disk_write_disk, disk_write_stream}
use Rattle.rules.proofs.BlocksLaws.{block-allowed}
use Rattle.rules.proofs.PrimaryFacts.{primary-facts}
use Rattle.rules.proofs.ReplyLaws.{check-accepts, check-refuses}
use Rattle.rules.proofs.WriteLaws.{DiskWriteRoom, disk-write-accepted, disk-write-end}
use Rattle.primary.proofs.writes.disk_write.Goals as goal
use Rattle.primary.proofs.writes.disk_write.Goals.{In_default}

module _ (c : In_default) where
  -- past the tests the write is accepted
  accepted : let a = c.args in
      disk_write_refusal a.p (length a.disk.now) (length a.stream.now) a.block (length a.bytes.now) ≡ 0
  accepted = number-passed _ _ c.check_disk_write.ensures c.in_default.is

  facts : let a = c.args in DiskWriteRoom a.p (length a.disk.now) (length a.stream.now) a.block (length a.bytes.now)
  facts = disk-write-accepted _ _ _ _ _ accepted

pub returns-in-Err : goal.returns-in-Err
unfolding disk_write_reply disk_write_disk disk_write_stream
returns-in-Err c =
    let z = failed-some _ _ c.check_disk_write.ensures c.in-Err.is in record {
      value = rw c.refused.ensures (check-refuses _ _ _ _ _ c.check_disk_write.ensures c.in-Err.is);
      disk_after = sym (pick-refused _ _ _ z);
      stream_after = sym (pick-refused _ _ _ z);
    }

pub write_disk-requires : goal.write_disk-requires
write_disk-requires c = disk-write-end _ _ _ _ _ (facts (goal.at.write_disk-requires c).In_default)

pub append_block-requires : goal.append_block-requires
append_block-requires c =
    let f = facts (goal.at.append_block-requires c).In_default in
    let g = primary-facts _ f.ok in
    (omega arith, omega arith, λ a. omega (arith, f.room a, block-record c.args.p.settings.u))

pub disk_write_state-requires : goal.disk_write_state-requires
disk_write_state-requires c =
    let f = facts (goal.at.disk_write_state-requires c).In_default in
    let g = primary-facts _ f.ok in
    (f.ok, omega arith, λ a. block-allowed _ _ _ _ (f.allowance a))

pub returns : goal.returns
unfolding disk_write_reply disk_write_disk disk_write_stream
returns c =
    let z = accepted (goal.at.returns c).In_default in record {
      value = rw (c.accepted.ensures, c.disk_write_state.ensures) (check-accepts _ _ _ _ _ c.check_disk_write.ensures c.in_default.is);
      disk_after = c.write_disk.ensures ∙ sym (pick-accepted _ _ _ z);
      stream_after = c.append_block.ensures ∙ sym (pick-accepted _ _ _ z);
    }
