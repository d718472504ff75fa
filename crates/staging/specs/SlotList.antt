-- The staged blocks as a list, each with its number and its bytes, in order of first arrival, and a disk with the
-- blocks of such a list stored. Assumes nothing.
use Rattle.std.specs.Prelude.{ℕ, List, [], ◌∷◌, take, drop}
use Rattle.lists.specs.Page.{with_page}
use Rattle.staging.specs.declared.Slots.{Slots}

pub record Staged : Type 0 where
  pub number : ℕ
  pub bytes : List ℕ

-- blocks with these numbers, whose bytes, u of each, stand in s one after the other
unfoldable pub staged_from : ℕ → List ℕ → List ℕ → List Staged
staged_from u [] s = []
staged_from u (n ∷ ns) s = record { number = n; bytes = take u s } ∷ staged_from u ns (drop u s)

unfoldable pub slot_list : ℕ → Slots → List ℕ → List Staged
slot_list u k slots = staged_from u (take k.staged k.numbers) slots

-- the due ones came first
unfoldable pub due_list : ℕ → Slots → List ℕ → List Staged
due_list u k slots = take k.due (slot_list u k slots)

-- the disk with these blocks stored, one after the other
unfoldable pub store_all : ℕ → List ℕ → List Staged → List ℕ
store_all u disk [] = disk
store_all u disk (b ∷ bs) = store_all u (with_page u disk b.number b.bytes) bs
