-- The standby disk's record area. Assumes nothing.
use Rattle.std.specs.Prelude.{ℕ, Bool, true, cond, ◌&&◌, List, [], ◌∷◌, eqb, length}
use Rattle.lists.specs.LittleEndian.{le_at}
use Rattle.records.specs.declared.Area.{Area}
use Rattle.records.specs.declared.Area.TheVariants.{Zero, Activation, Neither}
use Rattle.records.specs.Number.{bad_area}
use Rattle.records.specs.Kind.{ACTIVATION, epoch_body}

-- "record area 8"
abbrev pub area_length : ℕ
area_length = 8

-- each byte is 0
unfoldable pub all_zero : List ℕ → Bool
all_zero [] = true
all_zero (b ∷ s) = eqb b 0 && all_zero s

-- "an all-zero record area", "a record of length 4, kind 6", or neither
unfoldable pub area_of : List ℕ → Area
area_of s =
    cond (eqb (length s) area_length)
    (cond (all_zero s) Zero
    (cond (eqb (le_at 2 s 0) epoch_body && eqb (le_at 2 s 2) ACTIVATION) (Activation (le_at 4 s 4)) Neither))
    Neither

-- the paper's number of each case: 12, "record area neither zero nor a record"
abbrev pub area_number : Area → ℕ
area_number Zero = 0
area_number (Activation epoch) = 0
area_number Neither = bad_area

-- and its value: the activation's epoch; "Every refusal's value is 0"
abbrev pub area_value : Area → ℕ
area_value Zero = 0
area_value (Activation epoch) = epoch
area_value Neither = 0
