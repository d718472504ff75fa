-- Words that are a state, or settings with room for both states, are as many as they have to be. Assumes nothing.
use mathlib.Core.Path.{◌≡◌}
use mathlib.Core.List.{List}
use mathlib.Core.Bool.{true}
use Prim.Native.Nat.{ℕ}
use borrow.Author.Tests.{eqb-true}
use lib.ListN.{length}
use Rattle.lists.proofs.TestLaws.{both}
use Rattle.capi.specs.PrimaryWords.{primary_length}
use Rattle.capi.specs.StandbyWords.{standby_length}
use Rattle.capi.specs.PairCalls.{settings_length, start_words_ok}
use Rattle.capi.proofs.PrimaryWordLaws.{primary-many}
use Rattle.capi.proofs.StandbyWordLaws.{standby-many}

pub ruleset many = (primary-many, standby-many)

-- as many settings as there are, and room for both states
pub start-many : (settings primary standby : List ℕ) → start_words_ok settings primary standby ≡ true
    → (length settings ≡ settings_length) × (length primary ≡ primary_length) × (length standby ≡ standby_length)
unfolding start_words_ok
start-many settings primary standby e =
    let a = both _ _ e in
    let b = both _ _ a.0 in
    (eqb-true _ _ b.0, eqb-true _ _ b.1, eqb-true _ _ a.1)

pub ruleset started = (start-many)
