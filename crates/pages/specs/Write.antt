-- A guest's write into a page, at either end. Assumes nothing.
use Rattle.std.specs.Prelude.{ℕ, ◌+◌, ◌*◌, Bool, ◌&&◌, List, leb}
use Rattle.lists.specs.Part.{put}

-- "1 to U bytes inside one page"
abbrev pub inside_page : ℕ → ℕ → ℕ → Bool
inside_page u offset n = leb 1 n && leb (offset + n) u

-- the bytes in their page
unfoldable pub written : ℕ → List ℕ → ℕ → ℕ → List ℕ → List ℕ
written u memory page offset bytes = put memory (page * u + offset) bytes
