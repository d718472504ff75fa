-- Columns of a row: a text padded with spaces to a width. A longer text is not cut. Assumes nothing.
use Rattle.std.specs.Prelude.{ℕ, ◌-◌, List, ◌++◌, length, replicate}
use Rattle.text.specs.Line.{space}

-- at the left of its column
abbrev pub left : ℕ → List ℕ → List ℕ
left width s = s ++ replicate (width - length s) space

-- at the right of its column
abbrev pub right : ℕ → List ℕ → List ℕ
right width s = replicate (width - length s) space ++ s
