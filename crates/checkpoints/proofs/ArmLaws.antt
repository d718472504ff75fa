-- The last arm of each `match` on a record: what the definitions give behind the arms that name a kind. Assumes
-- nothing.
use Rattle.std.specs.Prelude.{Result, Ok, Err}
use Prim.Native.Nat.{ℕ}
use mathlib.Core.Path.{◌≡◌, refl}
use mathlib.Core.Bool.{false}
use mathlib.Core.List.{List, [], ◌∷◌}
use types.Run.{miss}
use Rattle.records.specs.declared.Record.{Record}
use Rattle.records.specs.declared.Unread.{Unread}
use Rattle.records.specs.declared.Record.TheVariants.{Page, Block, State, Commit, Ack}
use Rattle.records.specs.Read.{other_refusal}
use Rattle.records.proofs.ReadLaws.{LeftIn, other_arm}
use Rattle.checkpoints.specs.declared.FileSettings.{FileSettings}
use Rattle.checkpoints.specs.declared.Counts.{Counts}
use Rattle.checkpoints.specs.Judge.{Known}
use Rattle.checkpoints.specs.Scan.{record_refusal, counts_with, numbers_with, places_with, goes_on}

-- behind PAGE, BLOCK, STATE and COMMIT
pub refusal-arm : (g : FileSettings) (k : Known) (r : Result Record Unread) → LeftIn (4 ∷ []) r → record_refusal g k r ≡ other_refusal r
refusal-arm g k r = other_arm _ _ _ _ (other_refusal r) r

-- behind PAGE, BLOCK and STATE
pub goes-arm : (r : Result Record Unread) → LeftIn (3 ∷ 4 ∷ []) r → false ≡ goes_on r
goes-arm (Ok (Page w e p c)) k = absurd (miss (3 ∷ 4 ∷ []) 0 tt k)
goes-arm (Ok (Block e n c)) k = absurd (miss (3 ∷ 4 ∷ []) 1 tt k)
goes-arm (Ok (State e c)) k = absurd (miss (3 ∷ 4 ∷ []) 2 tt k)
goes-arm (Ok (Commit w e p b c)) k = refl
goes-arm (Ok (Ack e c)) k = refl
goes-arm (Err u) k = refl

pub kept_arm : (k : Counts) (numbers places : List ℕ) (at : ℕ) (r : Result Record Unread) → LeftIn (3 ∷ 4 ∷ []) r
    → (k ≡ counts_with k numbers r) × (numbers ≡ numbers_with k.blocks numbers r) × (places ≡ places_with k.blocks numbers places at r)
kept_arm k numbers places at (Ok (Page w e p c)) o = absurd (miss (3 ∷ 4 ∷ []) 0 tt o)
kept_arm k numbers places at (Ok (Block e n c)) o = absurd (miss (3 ∷ 4 ∷ []) 1 tt o)
kept_arm k numbers places at (Ok (State e c)) o = absurd (miss (3 ∷ 4 ∷ []) 2 tt o)
kept_arm k numbers places at (Ok (Commit w e p b c)) o = (refl, refl, refl)
kept_arm k numbers places at (Ok (Ack e c)) o = (refl, refl, refl)
kept_arm k numbers places at (Err u) o = (refl, refl, refl)
