-- `plates::heads::number_of` meets its contract. The loop's invariant: the rest of the word, from what is kept, gives
-- what all of it gives.
use mathlib.Core.Path.{◌≡◌}
use lib.ListN.{drop}
use Rattle.text.specs.Kept.{kept_all, no_number, number_with}
use Rattle.plates.proofs.heads.number_of.Given as goal

abbrev pub invariant-loop-byte : goal.invariant-loop-byte
invariant-loop-byte l = kept_all number_with no_number l.fn.word ≡ kept_all number_with l.number (drop l.byte-index l.fn.word)
