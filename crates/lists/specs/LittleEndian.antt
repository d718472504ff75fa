-- Numbers in little-endian bytes. Assumes nothing.
use Rattle.std.specs.Prelude.{ℕ, zero, suc, ◌+◌, ◌*◌, ◌/◌, ◌%◌, List, [], ◌∷◌, get_or}

-- v in k bytes, the lowest first
unfoldable pub le_bytes : ℕ → ℕ → List ℕ
le_bytes zero v = []
le_bytes (suc k) v = v % 256 ∷ le_bytes k (v / 256)

-- the number in the k bytes of s from i on, the lowest first
unfoldable pub le_at : ℕ → List ℕ → ℕ → ℕ
le_at zero s i = 0
le_at (suc k) s i = get_or s i 0 + 256 * le_at k s (suc i)
