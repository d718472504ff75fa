-- Laws of the record area in words. Assumes nothing.
use Prim.Native.Nat.{ℕ}
use mathlib.Core.Path.{◌≡◌}
use mathlib.Core.List.{List}
use borrow.Author.Tests.{eq-eqb, ne_eqb}
use lib.ListN.{length}
use Rattle.records.specs.Area.{area_of, area_length}
use Rattle.rules.specs.Choose.{choice_of}
use Rattle.plates.specs.Words.{area_line, area_length_line}
use Rattle.plates.specs.Plate.{area_output}

-- of another length
pub area-short : (s : List ℕ) → (length s ≡ area_length → ⊥) → area_output s ≡ area_length_line (length s)
unfolding area_output
area-short s h = rw (ne_eqb _ _ h)

-- of its length: what it holds, and what the choice of disk says of two disks of one length
pub area-whole : (s : List ℕ) → length s ≡ area_length → area_output s ≡ area_line (area_of s) (choice_of 0 0 s)
unfolding area_output choice_of
area-whole s h = rw (eq-eqb _ _ h)
