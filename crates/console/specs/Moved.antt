-- What the turns of a program do to the bytes that a reader has left and a writer holds, where these are known: `read`
-- and `write` of the system say of none. Assumes nothing.
use Rattle.std.specs.Prelude.{ℕ, ◌≡◌, ◌⊎◌, Bool, true, List, IfOk, Option, Result, length}
use mathlib.Core.List.{flatten}
use Rattle.std.specs.Io.KnownBytes.{Appends, Consumes}
use Rattle.text.specs.Feed.{Program, Reading, first_reading, output}
use Rattle.text.specs.Turns.{turn_printed, all_printed, all_more, ends_after, most_turns, SomeTurn, SomeTurns}

-- a turn was made on the next bytes of the input, and at `Ok` what it prints was written
pub record TurnDone {S L E : Type 0} (p : Program S L) (r next : Reading S L) (unread unread' held held' : Option (List ℕ)) (result : Result Bool E) : Type 0 where
  pub more : Bool
  pub turn : SomeTurn p r next more
  pub read : Consumes unread unread' turn.part
  pub written : IfOk result (λ told. (told ≡ more) × Appends held held' (turn_printed p r turn.part))

-- turns were made on the next bytes of the input, part after part, up to one after which no more is read or the largest
-- number of them, and all that they print was written
pub record TurnsDone {S L : Type 0} (p : Program S L) (first last : Reading S L) (unread unread' held held' : Option (List ℕ)) : Type 0 where
  pub turns : SomeTurns p first last
  pub read : Consumes unread unread' (flatten turns.parts)
  pub written : Appends held held' (all_printed p first turns.parts)

-- the program ran: turns were made on the next bytes of the input, and what was written is its output for these bytes,
-- or, where the largest number of turns was made and more is to be read, what those turns print
pub record ProgramDone {S L : Type 0} (p : Program S L) (unread unread' held held' : Option (List ℕ)) : Type 0 where
  pub parts : List (List ℕ)
  pub read : Consumes unread unread' (flatten parts)
  pub written : ((ends_after p (first_reading p) parts ≡ true) × Appends held held' (output p (flatten parts)))
      ⊎ ((all_more p (first_reading p) parts ≡ true) × (length parts ≡ most_turns) × Appends held held' (all_printed p (first_reading p) parts))
