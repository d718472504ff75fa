-- The blocks of an epoch, which both ends count alike: the different ones, and the BLOCK records (document 02, Job 9).
-- `again`: the epoch has this block already. Assumes nothing.
use Rattle.std.specs.Prelude.{ℕ, ◌+◌, Bool, cond, ◌&&◌, ◌||◌, ltb}
use Rattle.settings.specs.Range.{most_records}

-- 14 counts "different blocks", and "is also given at 65,535 BLOCK records in an epoch"
abbrev pub block_allowed : (again : Bool) → (b blocks records : ℕ) → Bool
block_allowed again b blocks records = ltb records most_records && (again || ltb blocks b)

-- how many different blocks there are with this one
abbrev pub blocks_with : (again : Bool) → ℕ → ℕ
blocks_with again blocks = cond again blocks (blocks + 1)
