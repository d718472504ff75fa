-- The detector of an end. Assumes nothing.
use Rattle.std.specs.Prelude.{ℕ, ◌+◌, Bool, cond, leb}
use Rattle.detector.specs.declared.Detector.{Detector}

abbrev pub with_count : Detector → ℕ → Detector
with_count d n = record { patience = d.patience; count = n }

-- the count has reached the patience T
abbrev pub expired : Detector → Bool
expired d = leb d.patience d.count

-- the count returns to 0
abbrev pub reset : Detector → Detector
reset d = with_count d 0

-- a tick: it counts while something is outstanding, else the count is 0; once expired it changes nothing
unfoldable pub ticked : Detector → Bool → Detector
ticked d outstanding = cond (expired d) d (with_count d (cond outstanding (d.count + 1) 0))
