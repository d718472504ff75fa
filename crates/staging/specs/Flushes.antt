-- Flushes one after the other, for "it equals n flushes of 1". Assumes nothing.
use Rattle.std.specs.Prelude.{ℕ, zero, suc, ◌+◌, ◌≡◌, List}
use Rattle.staging.specs.declared.Slots.{Slots}
use Rattle.staging.specs.Slot.{flush_count, stored, flushed, flushed_bytes}
use Rattle.staging.specs.SlotList.{slot_list}

-- the slots, their bytes, the disk, and the counts reported so far, summed
pub record Flushing : Type 0 where
  pub slots : Slots
  pub bytes : List ℕ
  pub disk : List ℕ
  pub count : ℕ

-- after a flush with budget n
unfoldable pub flush_by : ℕ → ℕ → Flushing → Flushing
flush_by u n f =
    let count = flush_count f.slots n in
    record {
      slots = flushed f.slots count;
      bytes = flushed_bytes u f.slots count f.bytes;
      disk = stored u f.slots.numbers f.bytes f.disk count;
      count = f.count + count;
    }

-- after n flushes of 1
unfoldable pub flush_ones : ℕ → ℕ → Flushing → Flushing
flush_ones u zero f = f
flush_ones u (suc n) f = flush_ones u n (flush_by u 1 f)

-- equal in everything live: all but the bytes behind the staged blocks
pub record SameLive (u : ℕ) (f g : Flushing) : Type 0 where
  pub slots_same : f.slots ≡ g.slots
  pub blocks_same : slot_list u f.slots f.bytes ≡ slot_list u g.slots g.bytes
  pub disk_same : f.disk ≡ g.disk
  pub count_same : f.count ≡ g.count
