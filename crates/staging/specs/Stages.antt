-- Blocks staged one after the other, as an epoch's BLOCKs are, for "the disk at each checkpoint, all due flushed, is
-- what it was" (document 02, Job 9). Assumes nothing.
use Rattle.std.specs.Prelude.{ℕ, ◌*◌, ◌≤◌, ◌<◌, ◌≡◌, true, List, [], ◌∷◌, length}
use Rattle.lists.specs.Select.{NoRepeats}
use Rattle.settings.specs.Range.{most_slots}
use Rattle.staging.specs.declared.Slots.{Slots}
use Rattle.staging.specs.Slot.{empty_slots, slots_ok, fresh_numbers, with_block, with_block_bytes}
use Rattle.staging.specs.SlotList.{Staged, slot_list, store_all}

-- the slots and their bytes
pub record Staging : Type 0 where
  pub slots : Slots
  pub bytes : List ℕ

-- after a BLOCK
abbrev pub stage_block : ℕ → Staging → Staged → Staging
stage_block u f b =
    record {
      slots = with_block f.slots b.number;
      bytes = with_block_bytes u f.slots b.number f.bytes b.bytes;
    }

-- after a list of them
abbrev pub stage_all : ℕ → Staging → List Staged → Staging
stage_all u f [] = f
stage_all u f (b ∷ bs) = stage_all u (stage_block u f b) bs

-- blocks that a disk of d blocks has, each of u bytes
abbrev pub Storable : (u d : ℕ) → List Staged → Type 0
Storable u d [] = Unit {0}
Storable u d (b ∷ bs) = (b.number < d) × (length b.bytes ≡ u) × Storable u d bs

-- slots in range, of which no two that are not due have one number: at the start of an epoch all are due
pub record Ready (u s d : ℕ) (f : Staging) : Type 0 where
  pub array : length f.slots.numbers ≡ most_slots
  pub ok : slots_ok f.slots s d ≡ true
  pub lent : length f.bytes ≡ s * u
  pub different : NoRepeats (fresh_numbers f.slots)

-- a list of blocks staged, a repeated one in its earlier slot, and all slots stored give what storing all slots and
-- then each block in order gives. No flush comes between them; whole runs, with flushes: runs/specs/Corollaries.antt,
-- `DiskAtCheckpoint`
abbrev pub SameDisk : Type 0
SameDisk =
    (u s d : ℕ) → s ≤ most_slots → (disk : List ℕ) → length disk ≡ d * u → (bs : List Staged) (f : Staging)
    → Ready u s d f → Storable u d bs → (stage_all u f bs).slots.staged ≤ s
    → store_all u disk (slot_list u (stage_all u f bs).slots (stage_all u f bs).bytes) ≡ store_all u (store_all u disk (slot_list u f.slots f.bytes)) bs

-- of an epoch's blocks, where no slot is staged before them
abbrev pub SameDiskOfEpoch : Type 0
SameDiskOfEpoch =
    (u s d : ℕ) → s ≤ most_slots → (disk : List ℕ) → length disk ≡ d * u → (bytes : List ℕ) → length bytes ≡ s * u → (bs : List Staged) → Storable u d bs
    → let f = stage_all u (record { slots = empty_slots; bytes = bytes }) bs in f.slots.staged ≤ s → store_all u disk (slot_list u f.slots f.bytes) ≡ store_all u disk bs
