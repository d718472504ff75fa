-- The bytes that the code writes, by what it kept of the file. That they are the normal form's is a law
-- (proofs/FormLaws.antt). Assumes nothing.
use Rattle.std.specs.Prelude.{ℕ, ◌+◌, ◌*◌, ◌≤◌, ◌<◌, ◌≡◌, Bool, true, cond, List, [], ◌∷◌, ◌++◌, length, take, get_or}
use Rattle.lists.specs.Part.{part}
use Rattle.lists.specs.Page.{gather}
use Rattle.lists.specs.Select.{is_in}
use Rattle.records.specs.Kind.{BLOCK, STATE, page_kind, commit_kind, record_length}
use Rattle.records.specs.Write.{block_record, commit_record, counts_fit}
use Rattle.marks.specs.Mark.{marked, with_mark}
use Rattle.checkpoints.specs.declared.Counts.{Counts}
use Rattle.checkpoints.specs.declared.normal.Kept.{Kept as KeptInCode}
use Rattle.checkpoints.specs.Scan.{first_of, slot_in, numbers_of, places_of}

-- the numbers of the different blocks, where the last bytes of each begin, and the file
pub record Kept : Type 0 where
  pub counts : Counts
  pub numbers : List ℕ
  pub places : List ℕ
  pub file : List ℕ

abbrev pub kept_of : Counts → (numbers places file : List ℕ) → Kept
kept_of k numbers places file = record { counts = k; numbers = numbers; places = places; file = file }

-- of what the code hands on
abbrev pub kept_in : KeptInCode → Kept
kept_in t = kept_of t.counts (numbers_of t.blocks.now) (places_of t.blocks.now) t.file.now

-- block n came
abbrev pub keeps_block : Kept → ℕ → Bool
keeps_block t n = is_in n (take t.counts.blocks t.numbers)

-- where its last bytes begin
abbrev pub place_of_block : Kept → ℕ → ℕ
place_of_block t n = get_or t.places (slot_in t.counts.blocks t.numbers n) 0

abbrev pub kept_block : (u : ℕ) → Kept → ℕ → List ℕ
kept_block u t n = block_record (first_of t.counts) n (part (place_of_block t n) u t.file)

-- BLOCKs in rising order
unfoldable pub kept_blocks : (u d : ℕ) → Kept → List ℕ
kept_blocks u d t = gather (λ n. cond (keeps_block t n) (kept_block u t n) []) d

-- PAGEs and STATE as they stand in the file, behind the BLOCKs
abbrev pub pages_at : (u : ℕ) → Counts → ℕ
pages_at u k = k.records * record_length u BLOCK

abbrev pub pages_length : (u : ℕ) → (wide : Bool) → Counts → ℕ
pages_length u wide k = k.pages * record_length u (page_kind wide) + record_length u STATE

abbrev pub kept_pages : (u : ℕ) → (wide : Bool) → Kept → List ℕ
kept_pages u wide t = part (pages_at u t.counts) (pages_length u wide t.counts) t.file

-- COMMIT with the new counts
abbrev pub kept_commit : (wide : Bool) → Kept → List ℕ
kept_commit wide t = commit_record wide (first_of t.counts) t.counts.pages t.counts.blocks

unfoldable pub kept_form : (u d : ℕ) → (wide : Bool) → Kept → List ℕ
kept_form u d wide t = kept_blocks u d t ++ (kept_pages u wide t ++ kept_commit wide t)

-- its length
abbrev pub form_length : (u : ℕ) → (wide : Bool) → Counts → ℕ
form_length u wide k = k.blocks * record_length u BLOCK + (pages_length u wide k + record_length u (commit_kind wide))

-- the marks of these numbers set, one after the other
unfoldable pub marked_all : (marks numbers : List ℕ) → List ℕ
marked_all ws [] = ws
marked_all ws (n ∷ ns) = marked_all (with_mark ws n) ns

-- what was kept of the blocks: the arrays have 64 entries, and the last bytes of each block stand in the file
pub record BlocksFit (u d : ℕ) (t : Kept) : Type 0 where
  pub unit : u ≤ 4096
  pub disk : d ≤ 4096
  pub slots : t.counts.blocks ≤ 64
  pub numbers : length t.numbers ≡ 64
  pub places : length t.places ≡ 64
  pub inside : (n : ℕ) → n < d → keeps_block t n ≡ true → place_of_block t n + u ≤ length t.file

-- the marks below d are those of the blocks that came
abbrev pub MarksKept : (d : ℕ) → (marks : List ℕ) → Kept → Type 0
MarksKept d ws t = (n : ℕ) → n < d → marked ws n ≡ keeps_block t n

-- all of it: the blocks came below d, PAGEs and STATE stand behind the BLOCKs, and the counts fit their fields
pub record FormFits (u d : ℕ) (wide : Bool) (t : Kept) : Type 0 where
  pub blocks : BlocksFit u d t
  pub size : length (kept_blocks u d t) ≡ t.counts.blocks * record_length u BLOCK
  pub pages : pages_at u t.counts + pages_length u wide t.counts ≤ length t.file
  pub counts : counts_fit wide t.counts.pages t.counts.blocks ≡ true
