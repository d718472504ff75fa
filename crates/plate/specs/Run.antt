-- What the turns of the program come to. Assumes nothing.
use Rattle.std.specs.Prelude.{ℕ, ◌≡◌, true, false}
use mathlib.Core.List.{List, [], ◌∷◌, ◌++◌, flatten}
use Rattle.text.specs.Feed.{first_reading}
use Rattle.text.specs.Turns.{all_printed, all_more, ends_after, none_empty}
use Rattle.plates.specs.Plate.{plate_program, plate_output}

-- what is claimed of the program over any parts of its input
pub record RunRight (parts : List (List ℕ)) : Type 0 where
  -- where the program has ended after these turns, all that it wrote is the output of all that it read
  pub ended : ends_after plate_program (first_reading plate_program) parts ≡ true → all_printed plate_program (first_reading plate_program) parts ≡ plate_output (flatten parts)
  -- an input in any parts, then its end: all that is written is the output of the whole input
  pub whole : none_empty parts ≡ true → all_printed plate_program (first_reading plate_program) (parts ++ [] ∷ []) ≡ plate_output (flatten parts)
  -- and no line ends it: it goes on reading up to the end
  pub more : none_empty parts ≡ true → all_more plate_program (first_reading plate_program) parts ≡ true
