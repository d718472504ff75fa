-- What all turns come to, from the first state on and whatever parts are read: the laws of text/proofs/TurnLaws.antt at
-- `plate`. Assumes nothing.
use Prim.Native.Nat.{ℕ}
use mathlib.Core.Path.{◌≡◌, refl, ap, ◌∙◌}
use mathlib.Core.Bool.{false, not}
use mathlib.Core.List.{List, [], ◌∷◌, flatten}
use Rattle.text.specs.Feed.{any_last, ended_lines}
use Rattle.text.proofs.TurnLaws as turns
use Rattle.plates.specs.Plate.{plate_program}
use Rattle.plates.proofs.KeptLaws.{kept-right}
use Rattle.plate.specs.Run.{RunRight}

-- no line ends it
none_last : (s : Unit {0}) (lines : List (List ℕ)) → any_last plate_program s lines ≡ false
unfolding any_last
none_last s [] = refl
none_last s (line ∷ lines) = none_last tt lines

pub run-right : (parts : List (List ℕ)) → RunRight parts
run-right parts =
    let r = turns.run-right plate_program kept-right parts in
    record { ended = r.ended; whole = r.whole; more = λ e. r.more e ∙ ap not (none_last tt (ended_lines (flatten parts))) }
