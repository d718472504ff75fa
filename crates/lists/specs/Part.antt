-- Parts of a list: reading one, putting bytes in the place of others, removing some with the rest closed up.
-- Assumes nothing.
use Rattle.std.specs.Prelude.{ℕ, ◌+◌, ◌-◌, ◌≡◌, List, ◌++◌, length, take, drop, replicate}

module _ {A : Type 0} where
  -- the n elements from at on
  unfoldable pub part : ℕ → ℕ → List A → List A
  part at n l = take n (drop at l)

  -- l with bs in the place of its elements from at on
  unfoldable pub put : List A → ℕ → List A → List A
  put l at bs = take at l ++ bs ++ drop (at + length bs) l

  -- of the first total elements, n from at on are removed: the rest of them closes up in order, and all that lies behind stays
  unfoldable pub removed : ℕ → ℕ → ℕ → List A → List A
  removed at n total l = put l at (part (at + n) (total - (at + n)) l)

  -- the same in an array, with the entries that become free made empty
  unfoldable pub freed : A → ℕ → ℕ → ℕ → List A → List A
  freed empty at n total l = put (removed at n total l) (total - n) (replicate n empty)

-- what a writer that is told a position leaves: bs at at, and the position after it
pub record PutDone (bs before : List ℕ) (at : ℕ) (after : List ℕ) (next : ℕ) : Type 0 where
  pub bytes : after ≡ put before at bs
  pub position : next ≡ at + length bs
