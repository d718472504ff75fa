-- How the code goes through a file: what it keeps of the records so far, and what it makes of the next one. What all of
-- it comes to is said by `file_in` and `refusal_from` (proofs/ScanEnds.antt). Assumes nothing.
use Rattle.std.specs.Prelude.{ℕ, zero, suc, ◌+◌, Bool, true, false, cond, List, map, ltb, length, take, drop, set, Some, None, Result, Ok, Err}
use Rattle.std.specs.Option.{is_some, unwrap_or}
use Rattle.lists.specs.Refusal.{refusal}
use Rattle.lists.specs.Select.{place_in, is_in}
use Rattle.records.specs.declared.Record.{Record}
use Rattle.records.specs.declared.Unread.{Unread}
use Rattle.records.specs.declared.Unread.TheVariants.{Short}
use Rattle.records.specs.Cases.{on_block, by_kind}
use Rattle.records.specs.Kind.{header_length}
use Rattle.records.specs.Read.{read_record, other_refusal, used_of}
use Rattle.rules.specs.Blocks.{blocks_with}
use Rattle.rules.specs.Reply.{unless_refused}
use Rattle.checkpoints.specs.declared.FileSettings.{FileSettings}
use Rattle.checkpoints.specs.declared.Counts.{Counts}
use Rattle.checkpoints.specs.declared.KeptBlock.{KeptBlock}
use Rattle.checkpoints.specs.declared.Scanned.{Scanned}
use Rattle.checkpoints.specs.Judge.{Known, page_tests, block_tests, state_tests, commit_tests}
use Rattle.checkpoints.specs.File.{file_reader}

-- the numbers of the blocks kept, and where the last bytes of each begin
abbrev pub numbers_of : List KeptBlock → List ℕ
numbers_of blocks = map (λ (b : KeptBlock). b.number) blocks

abbrev pub places_of : List KeptBlock → List ℕ
places_of blocks = map (λ (b : KeptBlock). b.place) blocks

-- the epoch of the first record; 0 where none came
abbrev pub first_of : Counts → ℕ
first_of k = unwrap_or k.epoch 0

-- what is known, by the counts and the block numbers
abbrev pub known_as : Counts → (numbers : List ℕ) → Known
known_as k numbers =
    record { begun = is_some k.epoch; epoch = first_of k; numbers = numbers; records = k.records; pages = k.pages; next = k.next; seen = k.seen }

-- the same by the array of block numbers, of which the first are counted
abbrev pub known_of : Counts → (numbers : List ℕ) → Known
known_of k numbers = known_as k (take k.blocks numbers)

-- what the record that was read is refused with, by its kind
abbrev pub record_refusal : FileSettings → Known → Result Record Unread → ℕ
record_refusal g k r =
    by_kind r
    (λ e p c. refusal (page_tests g k e p))
    (λ e n c. refusal (block_tests g k (is_in n k.numbers) e n))
    (λ e c. refusal (state_tests k e))
    (λ e p b c. refusal (commit_tests k e p b))
    (other_refusal r)

-- the record at the head of the rest where it is accepted, else cut short or the number
unfoldable pub judged : FileSettings → Known → List ℕ → Result Record Unread
judged g k rest =
    let r = read_record (file_reader g) g.u rest in
    unless_refused (record_refusal g k r) r

-- the counts with a record of each kind; `again` where its block came before
abbrev pub epoch_with : Counts → ℕ → ℕ
epoch_with k e = cond (is_some k.epoch) (first_of k) e

abbrev pub count_page : Counts → (e p : ℕ) → Counts
count_page k e p = record { epoch = Some (epoch_with k e); blocks = k.blocks; records = k.records; pages = k.pages + 1; next = p + 1; seen = k.seen }

abbrev pub count_block : Counts → (again : Bool) → (e : ℕ) → Counts
count_block k again e = record { epoch = Some (epoch_with k e); blocks = blocks_with again k.blocks; records = k.records + 1; pages = k.pages; next = k.next; seen = k.seen }

abbrev pub count_state : Counts → (e : ℕ) → Counts
count_state k e = record { epoch = Some (epoch_with k e); blocks = k.blocks; records = k.records; pages = k.pages; next = k.next; seen = true }

-- the place of block n among the first `blocks` numbers; where it is none of them, the next one
abbrev pub slot_in : (blocks : ℕ) → (numbers : List ℕ) → ℕ → ℕ
slot_in blocks numbers n = place_in n (take blocks numbers)

-- what is kept: the counts, the numbers of the different blocks, where the last bytes of each begin, and the bytes of the
-- records so far
pub record Scanning : Type 0 where
  pub counts : Counts
  pub numbers : List ℕ
  pub places : List ℕ
  pub at : ℕ

abbrev pub no_counts : Counts
no_counts = record { epoch = None; blocks = 0; records = 0; pages = 0; next = 0; seen = false }

abbrev pub counts_with : Counts → (numbers : List ℕ) → Result Record Unread → Counts
counts_with k numbers r =
    by_kind r
    (λ e p c. count_page k e p)
    (λ e n c. count_block k (ltb (slot_in k.blocks numbers n) k.blocks) e)
    (λ e c. count_state k e)
    (λ e p b c. k)
    k

abbrev pub numbers_with : (blocks : ℕ) → (numbers : List ℕ) → Result Record Unread → List ℕ
numbers_with blocks numbers r = on_block r (λ e n c. set numbers (slot_in blocks numbers n) n) numbers

abbrev pub places_with : (blocks : ℕ) → (numbers places : List ℕ) → (at : ℕ) → Result Record Unread → List ℕ
places_with blocks numbers places at r = on_block r (λ e n c. set places (slot_in blocks numbers n) (at + c.start)) places

unfoldable pub scanned_with : Scanning → Result Record Unread → Scanning
scanned_with t r =
    record {
      counts = counts_with t.counts t.numbers r;
      numbers = numbers_with t.counts.blocks t.numbers r;
      places = places_with t.counts.blocks t.numbers t.places t.at r;
      at = t.at + used_of r;
    }

-- a PAGE, a BLOCK or a STATE: another record has to follow
abbrev pub goes_on : Result Record Unread → Bool
goes_on r = by_kind r (λ e p c. true) (λ e n c. true) (λ e c. true) (λ e p b c. false) false

-- where it ends: the last record judged, with its end, and what was kept before it
pub record ScanEnd : Type 0 where
  pub last : Result Record Unread
  pub counts : Counts
  pub end : ℕ
  pub numbers : List ℕ
  pub places : List ℕ

abbrev pub scan_end : Scanning → Result Record Unread → ScanEnd
scan_end t r = record { last = r; counts = t.counts; end = t.at + used_of r; numbers = t.numbers; places = t.places }

-- at most so many records
unfoldable pub scan_in : (most : ℕ) → FileSettings → List ℕ → Scanning → ScanEnd
scan_in zero g file t = scan_end t (Err (Short header_length))
scan_in (suc most) g file t =
    let r = judged g (known_of t.counts t.numbers) (drop t.at file) in
    cond (goes_on r) (scan_in most g file (scanned_with t r)) (scan_end t r)

-- the whole file, with these arrays lent
abbrev pub scanning : (numbers places : List ℕ) → Scanning
scanning numbers places = record { counts = no_counts; numbers = numbers; places = places; at = 0 }

abbrev pub scan_of : FileSettings → List ℕ → (numbers places : List ℕ) → ScanEnd
scan_of g file numbers places = scan_in (length file + 1) g file (scanning numbers places)

-- what the code has of it: where it is a COMMIT, the counts and the end; what is cut short or refused is handed on
abbrev pub scanned_by : Result Record Unread → Counts → (end : ℕ) → Result Scanned Unread
scanned_by (Ok r) counts end = Ok (record { counts = counts; end = end })
scanned_by (Err u) counts end = Err u

abbrev pub scanned_in : ScanEnd → Result Scanned Unread
scanned_in e = scanned_by e.last e.counts e.end
