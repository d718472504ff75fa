-- A record as it is meant, with its bytes: for statements about whole streams. It has no width: what is sent has one,
-- that which M calls for (document 02, Job 7). Assumes nothing.
use Rattle.std.specs.Prelude.{ℕ, ◌<◌, ◌^◌, ◌≡◌, Bool, List, [], ◌∷◌, ◌++◌, length, Result, Ok}
use Rattle.records.specs.declared.Record.{Record}
use Rattle.records.specs.declared.Unread.{Unread}
use Rattle.records.specs.declared.Record.TheVariants.{Page, Block, State, Commit, Ack}
use Rattle.records.specs.Kind.{BLOCK, STATE, ACK, page_kind, commit_kind, number_width, number_end, processor_bytes, record_length}
use Rattle.records.specs.Read.{cursor}
use Rattle.records.specs.Write.{page_record, block_record, state_record, commit_record, ack_record}

pub data Message : Type 0 where
  page : ℕ → ℕ → List ℕ → Message
  block : ℕ → ℕ → List ℕ → Message
  state : ℕ → List ℕ → Message
  commit : ℕ → ℕ → ℕ → Message
  ack : ℕ → Message

abbrev pub message_kind : (wide : Bool) → Message → ℕ
message_kind wide (page e p bs) = page_kind wide
message_kind wide (block e n bs) = BLOCK
message_kind wide (state e bs) = STATE
message_kind wide (commit e p b) = commit_kind wide
message_kind wide (ack e) = ACK

-- its bytes
abbrev pub encode : (wide : Bool) → Message → List ℕ
encode wide (page e p bs) = page_record wide e p bs
encode wide (block e n bs) = block_record e n bs
encode wide (state e bs) = state_record e bs
encode wide (commit e p b) = commit_record wide e p b
encode wide (ack e) = ack_record e

-- its field of bytes, none in a COMMIT and an ACK
abbrev pub bytes_of : Message → List ℕ
bytes_of (page e p bs) = bs
bytes_of (block e n bs) = bs
bytes_of (state e bs) = bs
bytes_of (commit e p b) = []
bytes_of (ack e) = []

-- the bytes of several, one after the other
abbrev pub encode_all : (wide : Bool) → List Message → List ℕ
encode_all wide [] = []
encode_all wide (m ∷ ms) = encode wide m ++ encode_all wide ms

-- what reading it answers
abbrev pub read_as : ℕ → (wide : Bool) → Message → Result Record Unread
read_as u wide (page e p bs) = Ok (Page wide e p (cursor (number_end wide) (record_length u (page_kind wide))))
read_as u wide (block e n bs) = Ok (Block e n (cursor 10 (record_length u BLOCK)))
read_as u wide (state e bs) = Ok (State e (cursor 8 (record_length u STATE)))
read_as u wide (commit e p b) = let end = record_length u (commit_kind wide) in Ok (Commit wide e p b (cursor end end))
read_as u wide (ack e) = Ok (Ack e (cursor 8 (record_length u ACK)))

-- its numbers fit their fields, and its bytes are as many as they should be
abbrev pub Fits : ℕ → (wide : Bool) → Message → Type 0
Fits u wide (page e p bs) = (e < 2 ^ 32) × (p < 256 ^ number_width wide) × (length bs ≡ u)
Fits u wide (block e n bs) = (e < 2 ^ 32) × (n < 2 ^ 16) × (length bs ≡ u)
Fits u wide (state e bs) = (e < 2 ^ 32) × (length bs ≡ processor_bytes)
Fits u wide (commit e p b) = (e < 2 ^ 32) × (p < 256 ^ number_width wide) × (b < 256 ^ number_width wide)
Fits u wide (ack e) = e < 2 ^ 32
