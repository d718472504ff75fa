-- The dirty pages of a checkpoint, and what an accepted COMMIT makes of the staged pages. Assumes nothing.
use Rattle.std.specs.Prelude.{ℕ, Bool, cond, List, []}
use Rattle.lists.specs.Page.{page, gather}
use Rattle.records.specs.Write.{page_record}
use Rattle.marks.specs.Mark.{marked}

-- the PAGE record of page p where it is dirty, else nothing
unfoldable pub dirty_record : List ℕ → List ℕ → (wide : Bool) → ℕ → ℕ → ℕ → List ℕ
dirty_record memory dirty wide u epoch p = cond (marked dirty p) (page_record wide epoch p (page u memory p)) []

-- "every dirty page", in rising order
unfoldable pub dirty_records : List ℕ → List ℕ → (wide : Bool) → ℕ → ℕ → ℕ → List ℕ
dirty_records memory dirty wide u epoch m = gather (dirty_record memory dirty wide u epoch) m

-- page p once the staged pages are copied: the staged one where it is marked, else memory's own
unfoldable pub installed_page : List ℕ → List ℕ → List ℕ → ℕ → ℕ → List ℕ
installed_page memory staged marks u p = cond (marked marks p) (page u staged p) (page u memory p)

-- "copies the staged pages into memory"
unfoldable pub installed : List ℕ → List ℕ → List ℕ → ℕ → ℕ → List ℕ
installed memory staged marks u m = gather (installed_page memory staged marks u) m
