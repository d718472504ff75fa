-- A destination as long as an accepted file, or as the least L of its settings, holds its normal form, proved
-- (document 02, Job 14). Assumes nothing.
use mathlib.Core.Path.{◌≡◌, sym, ap, ap₂, ◌∙◌, subst}
use mathlib.Core.Bool.{Bool}
use mathlib.Core.List.{List, [], ◌++◌, append-nil}
use Prim.Native.Nat.{ℕ, ◌+◌, ◌*◌, ◌≤◌}
use native.Mathlib.Nat.{mul-le-mul_right}
use native.Mathlib.Omega.{arith}
use lib.ListN.{length, length-append}
use Rattle.records.specs.Kind.{BLOCK, STATE, is_wide, page_kind, commit_kind, record_length}
use Rattle.records.specs.Message.{Message, encode_all}
use Rattle.settings.specs.Range.{least_stream}
use Rattle.staging.specs.SlotList.{Staged}
use Rattle.runs.proofs.Effects.{All, Readable}
use Rattle.checkpoints.specs.declared.FileSettings.{FileSettings}
use Rattle.checkpoints.specs.Content.{is_block}
use Rattle.checkpoints.specs.Judge.{epoch_of}
use Rattle.checkpoints.specs.Saving.{normal_bytes}
use Rattle.checkpoints.specs.Claims.{Accepted, normal_of_file}
use Rattle.checkpoints.specs.Room.{RoomEnough}
use Rattle.checkpoints.proofs.FileBytes.{file-readable, file-encoded}
use Rattle.checkpoints.proofs.ShapeLaws.{checkpoint_of, Shape}
use Rattle.checkpoints.proofs.NormalLaws.{normal_staged, rises-length}
use Rattle.checkpoints.proofs.NormalShapeLaws.{normal-staged-count, numbers-records, normal-form}
use Rattle.checkpoints.proofs.EncodeLaws.{block_part, page_part, commit_part, checkpoint-bytes, part-lengths}
use Rattle.checkpoints.proofs.ClaimsProved.{messages_of, accepted-unit, accepted-shape, accepted-readable}

-- the bytes of a checkpoint of so many PAGEs and BLOCKs
abbrev bytes_of_counts : (u : ℕ) → (wide : Bool) → (pages blocks : ℕ) → ℕ
bytes_of_counts u wide pages blocks =
    blocks * record_length u BLOCK + (pages * record_length u (page_kind wide) + record_length u STATE + record_length u (commit_kind wide))

-- are as many as it has, where a standby reads its records back
checkpoint-count : (u : ℕ) (wide : Bool) (e : ℕ) (bs ps : List Staged) (x : List ℕ) → All (Readable u wide) (checkpoint_of e bs ps x)
    → length (encode_all wide (checkpoint_of e bs ps x)) ≡ bytes_of_counts u wide (length ps) (length bs)
checkpoint-count u wide e bs ps x a =
    let blocks = block_part wide e bs ps x in
    let pages = page_part wide e bs ps x in
    let end = commit_part wide e bs ps x in
    let l = part-lengths wide e bs ps x u a in
    ap length (checkpoint-bytes wide e bs ps x)
    ∙ length-append blocks (pages ++ end)
    ∙ ap₂ ◌+◌ l.block-part (length-append pages end ∙ ap₂ ◌+◌ l.page-part l.commit-part)

-- ---- a file that is accepted
module _ (g : FileSettings) (file : List ℕ) (a : Accepted g file) where
  -- U, the width, the records and their shape
  abbrev u : ℕ
  u = g.u

  abbrev wide : Bool
  wide = is_wide g.m

  abbrev ms : List Message
  ms = messages_of g file a

  abbrev s : Shape g ms
  s = accepted-shape g file a

  -- the BLOCKs of the normal form
  abbrev bs : List Staged
  bs = normal_staged is_block g.d ms

  -- the file's bytes, by its counts
  file-count : length file ≡ bytes_of_counts u wide (length s.ps) (length s.bs)
  file-count =
      let unit = accepted-unit g file a in
      ap length (sym (file-encoded g file [] unit a.bytes a.whole) ∙ append-nil (encode_all wide ms) ∙ ap (encode_all wide) s.are)
      ∙ checkpoint-count u wide (epoch_of ms) s.bs s.ps s.x (subst (All (Readable u wide)) s.are (file-readable g file unit a.bytes))

  -- those of its normal form
  normal-count : length (normal_of_file g file) ≡ bytes_of_counts u wide (length s.ps) (length bs)
  unfolding normal_bytes
  normal-count =
      let form = normal-form g ms s in
      ap length (ap (encode_all wide) form)
      ∙ checkpoint-count u wide (epoch_of ms) bs s.ps s.x (subst (All (Readable u wide)) form (accepted-readable g file a))

  -- which has no more BLOCKs than the file
  blocks-file : length bs * record_length u BLOCK ≤ length s.bs * record_length u BLOCK
  blocks-file = mul-le-mul_right (record_length u BLOCK) (omega (arith, normal-staged-count g ms s, numbers-records g ms s))

  -- no more than B
  blocks-few : length bs * record_length u BLOCK ≤ g.b * record_length u BLOCK
  blocks-few = mul-le-mul_right (record_length u BLOCK) (omega (arith, normal-staged-count g ms s, s.few))

  -- and no more PAGEs than M
  pages-few : length s.ps * record_length u (page_kind wide) ≤ g.m * record_length u (page_kind wide)
  pages-few = mul-le-mul_right (record_length u (page_kind wide)) (omega (arith, rises-length 0 g.m s.ps (omega arith) s.rises))

  -- so it is no longer than the file
  normal-file-length : length (normal_of_file g file) ≤ length file
  normal-file-length = omega (arith, normal-count, file-count, blocks-file)

  -- nor than the least L
  normal-least-length : length (normal_of_file g file) ≤ least_stream g.u g.m g.b
  unfolding least_stream
  normal-least-length = omega (arith, normal-count, blocks-few, pages-few)

-- a destination of either length holds the normal form
pub room-enough-proved : RoomEnough
room-enough-proved g file a = (normal-file-length g file a, normal-least-length g file a)
