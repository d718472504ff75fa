-- What the dirty marks say between two checkpoints. Assumes nothing.
use Rattle.std.specs.Prelude.{ℕ, ◌<◌, ◌≡◌, false, List}
use Rattle.lists.specs.Page.{page}
use Rattle.marks.specs.Mark.{marked}

-- every page that is not dirty is as in old, the memory at the last checkpoint
pub record Clean (old memory dirty : List ℕ) (u m : ℕ) : Type 0 where
  pub same : (p : ℕ) → p < m → marked dirty p ≡ false → page u memory p ≡ page u old p
