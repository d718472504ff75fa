-- The last arm of each `match` on a record: what the definitions give behind the arms that name a kind. Assumes
-- nothing.
use Rattle.std.specs.Prelude.{Result, Ok, Err}
use mathlib.Core.Path.{◌≡◌, refl}
use mathlib.Core.List.{List, [], ◌∷◌}
use Prim.Native.Nat.{ℕ}
use types.Run.{miss}
use Rattle.records.specs.declared.Record.{Record}
use Rattle.records.specs.declared.Unread.{Unread}
use Rattle.records.specs.declared.Record.TheVariants.{Page, Block, State, Commit, Ack}
use Rattle.records.specs.Read.{other_refusal}
use Rattle.records.proofs.ReadLaws.{LeftIn, other_arm}
use Rattle.rules.specs.declared.Standby.{Standby}
use Rattle.rules.specs.Judge.{record_refusal}
use Rattle.rules.specs.Read.{read_state, memory_after, staged_pages_after, staged_marks_after, staged_blocks_after, reply_after}
use Rattle.standby.specs.Fits.{slot_of}

-- behind PAGE, BLOCK, STATE and COMMIT
pub refusal-arm : (s : Standby) (reply : ℕ) (r : Result Record Unread) → LeftIn (4 ∷ []) r → record_refusal s reply r ≡ other_refusal r
refusal-arm s reply r = other_arm _ _ _ _ (other_refusal r) r

pub state-arm : (s : Standby) (bytes : List ℕ) (r : Result Record Unread) → LeftIn (4 ∷ []) r → read_state s bytes r ≡ s
state-arm s bytes r = other_arm _ _ _ _ s r

-- behind BLOCK
pub slot-arm : (s : Standby) (r : Result Record Unread) → LeftIn (0 ∷ 2 ∷ 3 ∷ 4 ∷ []) r → slot_of s r ≡ 0
slot-arm s (Ok (Page w e p c)) k = refl
slot-arm s (Ok (Block e n c)) k = absurd (miss (0 ∷ 2 ∷ 3 ∷ 4 ∷ []) 1 tt k)
slot-arm s (Ok (State e c)) k = refl
slot-arm s (Ok (Commit w e p b c)) k = refl
slot-arm s (Ok (Ack e c)) k = refl
slot-arm s (Err u) k = refl

-- behind PAGE, BLOCK and COMMIT
module _ (s : Standby) (bytes memory pages marks blocks reply : List ℕ) where
  pub buffers-arm : (r : Result Record Unread) → LeftIn (2 ∷ 4 ∷ []) r
      → (memory ≡ memory_after s memory pages marks r)
      × ((pages ≡ staged_pages_after s bytes pages r)
      × ((marks ≡ staged_marks_after s marks r)
      × ((blocks ≡ staged_blocks_after s bytes blocks r)
      × (reply ≡ reply_after reply r))))
  buffers-arm (Ok (Page w e p c)) k = absurd (miss (2 ∷ 4 ∷ []) 0 tt k)
  buffers-arm (Ok (Block e n c)) k = absurd (miss (2 ∷ 4 ∷ []) 1 tt k)
  buffers-arm (Ok (State e c)) k = (refl, (refl, (refl, (refl, refl))))
  buffers-arm (Ok (Commit w e p b c)) k = absurd (miss (2 ∷ 4 ∷ []) 3 tt k)
  buffers-arm (Ok (Ack e c)) k = (refl, (refl, (refl, (refl, refl))))
  buffers-arm (Err u) k = (refl, (refl, (refl, (refl, refl))))
