-- Laws of an epoch's blocks: what holds where one more is allowed, and the counts with it. Assumes nothing.
use mathlib.Core.Path.{◌≡◌, refl}
use mathlib.Core.Bool.{Bool, true, false, ◌&&◌, ◌||◌}
use Prim.Native.Nat.{ℕ, ◌+◌, ◌≤◌, ◌<◌}
use native.Mathlib.Omega.{arith}
use lib.Dec.{leb, ltb}
use borrow.Author.Tests.{ltb-true, lt-ltb}
use Rattle.lists.proofs.TestLaws.{agree, both, join, unless, or-unless}
use Rattle.settings.specs.Range.{most_records}
use Rattle.rules.specs.Blocks.{block_allowed, blocks_with}

pub record BlockRoom (again : Bool) (b blocks records : ℕ) : Type 0 where
  pub records-low : records < most_records
  pub blocks-low : again ≡ false → blocks < b

module _ (again : Bool) (b blocks records : ℕ) where
  pub block_room : block_allowed again b blocks records ≡ true → BlockRoom again b blocks records
  block_room e =
      let h = both (ltb records most_records) (again || ltb blocks b) e in
      record { records-low = ltb-true records most_records h.0; blocks-low = λ z. ltb-true blocks b (unless again (ltb blocks b) h.1 z) }

  pub block-allowed : BlockRoom again b blocks records → block_allowed again b blocks records ≡ true
  block-allowed r = join _ _ (lt-ltb records most_records r.records-low) (or-unless again (ltb blocks b) (λ z. lt-ltb blocks b (r.blocks-low z)))

-- the counts with one BLOCK more
pub blocks-high : (again : Bool) (b blocks records : ℕ) → BlockRoom again b blocks records → blocks ≤ b → blocks_with again blocks ≤ b
blocks-high true b blocks records r h = h
blocks-high false b blocks records r h = omega (arith, r.blocks-low refl)

pub blocks-of-records : (again : Bool) (blocks records : ℕ) → blocks ≤ records → blocks_with again blocks ≤ records + 1
blocks-of-records true blocks records h = omega arith
blocks-of-records false blocks records h = omega arith

-- a block that the epoch has takes none of the allowance
pub again-allowed : (b blocks records : ℕ) → block_allowed true b blocks records ≡ ltb records most_records
again-allowed b blocks records =
    let low = ltb records most_records in
    agree (low && true) low (λ e. (both low true e).0) (λ e. join low true e refl)

-- the last BLOCK of an epoch is its 65,535th, of a block that it has or not
pub last-record : (block_allowed true 2 1 65534 ≡ true) × (block_allowed true 2 1 65535 ≡ false) × (block_allowed false 2 1 65534 ≡ true) × (block_allowed false 2 1 65535 ≡ false)
last-record = (refl, refl, refl, refl)

pub most-in-a-state : (leb 65535 most_records ≡ true) × (leb 65536 most_records ≡ false)
most-in-a-state = (refl, refl)
