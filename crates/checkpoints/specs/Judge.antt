-- What the records of a file are refused with, each by those before it (document 02, Job 14): 8 is "an epoch unlike the
-- first record's" (Job 10), 2, 9, 10 and 14 are a standby's. Assumes nothing.
use Rattle.std.specs.Prelude.{ℕ, ◌+◌, Bool, true, false, cond, ◌&&◌, ◌||◌, not, List, [], ◌∷◌, ◌++◌, leb, ltb, eqb, length}
use Rattle.lists.specs.Refusal.{Test, test, refusal, pick}
use Rattle.lists.specs.Select.{is_in}
use Rattle.records.specs.Number.{no_such_unit, bad_kind, bad_epoch, out_of_order, bad_counts, allowance_used}
use Rattle.records.specs.Message.{Message, page, block, state, commit, ack}
use Rattle.rules.specs.Blocks.{block_allowed}
use Rattle.checkpoints.specs.declared.FileSettings.{FileSettings}

-- what is known of the records so far: whether there is one, the first one's epoch, the different blocks in the order of
-- their first BLOCKs, how many BLOCKs and PAGEs, the least page that may come next, and whether STATE came
pub record Known : Type 0 where
  pub begun : Bool
  pub epoch : ℕ
  pub numbers : List ℕ
  pub records : ℕ
  pub pages : ℕ
  pub next : ℕ
  pub seen : Bool

-- before the first record
abbrev pub none_known : Known
none_known = record { begun = false; epoch = 0; numbers = []; records = 0; pages = 0; next = 0; seen = false }

-- this record has the first one's epoch, or is the first; else 8
abbrev pub is_of_epoch : Known → ℕ → Bool
is_of_epoch k e = not k.begun || eqb e k.epoch

-- the first record's epoch, once this one is read
abbrev pub first_epoch : Known → ℕ → ℕ
first_epoch k e = cond k.begun k.epoch e

-- PAGE: 2 8 9 ("PAGE not above the last or after STATE")
abbrev pub page_tests : FileSettings → Known → (e p : ℕ) → List Test
page_tests g k e p =
    test no_such_unit (ltb p g.m) ∷ test bad_epoch (is_of_epoch k e) ∷ test out_of_order (leb k.next p && not k.seen) ∷ []

-- BLOCK: 2 8 9 ("BLOCK after PAGE or STATE") 14, `again` where the block came before
abbrev pub block_tests : FileSettings → Known → (again : Bool) → (e n : ℕ) → List Test
block_tests g k again e n =
    test no_such_unit (ltb n g.d)
    ∷ test bad_epoch (is_of_epoch k e)
    ∷ test out_of_order (eqb k.pages 0 && not k.seen)
    ∷ test allowance_used (block_allowed again g.b (length k.numbers) k.records)
    ∷ []

-- STATE: 8 9 ("second STATE")
abbrev pub state_tests : Known → (e : ℕ) → List Test
state_tests k e = test bad_epoch (is_of_epoch k e) ∷ test out_of_order (not k.seen) ∷ []

-- COMMIT: 8 9 ("COMMIT without STATE") 10 (BLOCK records: "COMMIT's count is still of records")
abbrev pub commit_tests : Known → (e p b : ℕ) → List Test
commit_tests k e p b =
    test bad_epoch (is_of_epoch k e) ∷ test out_of_order k.seen ∷ test bad_counts (eqb p k.pages && eqb b k.records) ∷ []

-- the number of the next record; an ACK is not for this reader
abbrev pub message_refusal : FileSettings → Known → Message → ℕ
message_refusal g k (page e p bs) = refusal (page_tests g k e p)
message_refusal g k (block e n bs) = refusal (block_tests g k (is_in n k.numbers) e n)
message_refusal g k (state e bs) = refusal (state_tests k e)
message_refusal g k (commit e p b) = refusal (commit_tests k e p b)
message_refusal g k (ack e) = bad_kind

-- what is known with it
abbrev pub with_page : Known → (e p : ℕ) → Known
with_page k e p = record { begun = true; epoch = first_epoch k e; numbers = k.numbers; records = k.records; pages = k.pages + 1; next = p + 1; seen = k.seen }

abbrev pub with_block : Known → (e n : ℕ) → Known
with_block k e n =
    record { begun = true; epoch = first_epoch k e; numbers = cond (is_in n k.numbers) k.numbers (k.numbers ++ (n ∷ [])); records = k.records + 1; pages = k.pages; next = k.next; seen = k.seen }

abbrev pub with_state : Known → (e : ℕ) → Known
with_state k e = record { begun = true; epoch = first_epoch k e; numbers = k.numbers; records = k.records; pages = k.pages; next = k.next; seen = true }

abbrev pub known_with : Known → Message → Known
known_with k (page e p bs) = with_page k e p
known_with k (block e n bs) = with_block k e n
known_with k (state e bs) = with_state k e
known_with k (commit e p b) = k
known_with k (ack e) = k

-- the records in turn: the number of the first that is refused, 0 where none is
unfoldable pub refusal_from : FileSettings → Known → List Message → ℕ
refusal_from g k [] = 0
refusal_from g k (x ∷ xs) = pick (message_refusal g k x) (refusal_from g (known_with k x) xs) (message_refusal g k x)

-- the epoch of the first record
unfoldable pub epoch_of : List Message → ℕ
epoch_of [] = 0
epoch_of (page e p bs ∷ xs) = e
epoch_of (block e n bs ∷ xs) = e
epoch_of (state e bs ∷ xs) = e
epoch_of (commit e p b ∷ xs) = e
epoch_of (ack e ∷ xs) = e
