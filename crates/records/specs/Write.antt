-- The bytes of each kind of record, and what a writer leaves in the part that it is handed. Assumes nothing.
use Rattle.std.specs.Prelude.{ℕ, ◌+◌, ◌^◌, ◌≡◌, Bool, cond, ◌&&◌, List, ◌++◌, leb, ltb, length}
use Rattle.lists.specs.Part.{put}
use Rattle.lists.specs.LittleEndian.{le_bytes}
use Rattle.records.specs.Kind.{BLOCK, STATE, ACK, ACTIVATION, page_kind, commit_kind, number_width, epoch_body}

-- the length of the body, the kind, the body
unfoldable pub frame : ℕ → List ℕ → List ℕ
frame kind body = le_bytes 2 (length body) ++ (le_bytes 2 kind ++ body)

-- a PAGE or a BLOCK: epoch 4, number 2 or 4, the bytes
unfoldable pub unit_record : (kind width : ℕ) → ℕ → ℕ → List ℕ → List ℕ
unit_record kind width epoch number bytes = frame kind (le_bytes 4 epoch ++ (le_bytes width number ++ bytes))

abbrev pub page_record : (wide : Bool) → ℕ → ℕ → List ℕ → List ℕ
page_record wide epoch page bytes = unit_record (page_kind wide) (number_width wide) epoch page bytes

abbrev pub block_record : ℕ → ℕ → List ℕ → List ℕ
block_record epoch block bytes = unit_record BLOCK 2 epoch block bytes

unfoldable pub state_record : ℕ → List ℕ → List ℕ
state_record epoch bytes = frame STATE (le_bytes 4 epoch ++ bytes)

unfoldable pub commit_record : (wide : Bool) → ℕ → ℕ → ℕ → List ℕ
commit_record wide epoch pages blocks =
    frame (commit_kind wide) (le_bytes 4 epoch ++ (le_bytes (number_width wide) pages ++ le_bytes (number_width wide) blocks))

-- an ACK or an activation: the epoch alone
unfoldable pub epoch_record : ℕ → ℕ → List ℕ
epoch_record kind epoch = frame kind (le_bytes 4 epoch)

abbrev pub ack_record : ℕ → List ℕ
ack_record epoch = epoch_record ACK epoch

abbrev pub activation_record : ℕ → List ℕ
activation_record epoch = epoch_record ACTIVATION epoch

-- a number fits its field of so many bytes
abbrev pub fits_in : (width : ℕ) → ℕ → Bool
fits_in width n = ltb n (256 ^ width)

-- the numbers of a PAGE or a BLOCK fit: the number, and the length of the body
abbrev pub unit_fits : (width : ℕ) → ℕ → List ℕ → Bool
unit_fits width number bytes = fits_in width number && fits_in 2 (length bytes + (epoch_body + width))

-- the counts of a COMMIT fit
abbrev pub counts_fit : (wide : Bool) → ℕ → ℕ → Bool
counts_fit wide pages blocks = fits_in (number_width wide) pages && fits_in (number_width wide) blocks

-- a record is written where its numbers fit and the part has room, else nothing is
unfoldable pub has_room : Bool → List ℕ → List ℕ → Bool
has_room fits bytes out = fits && leb (length bytes) (length out)

-- what a writer of a record leaves: the whole part, and the length written, 0 where nothing is
pub record Written (fits : Bool) (bytes before after : List ℕ) (reported : ℕ) : Type 0 where
  pub content : after ≡ cond (has_room fits bytes before) (put before 0 bytes) before
  pub count : reported ≡ cond (has_room fits bytes before) (length bytes) 0
