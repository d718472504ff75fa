-- What the code makes of one record: what is judged, by what is read and its refusal; one step of going through a file;
-- and that the counts and the array then say what is known with the record. Assumes nothing.
use Rattle.std.specs.Prelude.{Result, Ok, Err}
use mathlib.Core.Path.{◌≡◌, refl, sym, ap, ◌∙◌}
use mathlib.Core.Bool.{Bool, true, false, false≢true}
use mathlib.Core.List.{List}
use Prim.Native.Nat.{ℕ, suc, ◌+◌, ◌≤◌, ◌<◌}
use native.Mathlib.Omega.{arith}
use lib.Dec.{ltb}
use lib.ListN.{length, take, drop, set}
use lib.Seq.{length-take-le}
use Rattle.lists.specs.Select.{is_in}
use Rattle.lists.proofs.TestLaws.{cond-true, cond-false}
use Rattle.records.specs.declared.Cursor.{Cursor}
use Rattle.records.specs.declared.Record.{Record}
use Rattle.records.specs.declared.Unread.{Unread}
use Rattle.records.specs.declared.Record.TheVariants.{Page, Block, State, Commit, Ack}
use Rattle.records.specs.declared.Unread.TheVariants.{Short, Refused}
use Rattle.records.specs.Message.{block}
use Rattle.records.proofs.ReadLaws.{is_found}
use Rattle.runs.proofs.Effects.{Before}
use Rattle.rules.specs.Read.{bytes_at}
use Rattle.rules.proofs.ReplyLaws.{unless-accepted, unless-refused, unless-cases}
use Rattle.checkpoints.specs.declared.FileSettings.{FileSettings}
use Rattle.checkpoints.specs.declared.Counts.{Counts}
use Rattle.checkpoints.specs.Judge.{Known, message_refusal, with_block, known_with}
use Rattle.checkpoints.specs.Scan.{known_of, record_refusal, judged, epoch_with, count_block, slot_in, counts_with, numbers_with, goes_on, Scanning, scanned_with, scan_end, scan_in}
use Rattle.checkpoints.proofs.ByteLaws.{message_of}
use Rattle.checkpoints.proofs.FileLaws.{head_of}
use Rattle.checkpoints.proofs.KnownLaws.{block-facts}
use Rattle.checkpoints.proofs.PlaceLaws.{numbers-stored}

-- ---- what is judged
module _ (g : FileSettings) (k : Known) (rest : List ℕ) where
  -- the record that is read, where it is not refused
  pub judged-accepted : (r : Result Record Unread) → head_of g rest ≡ r → record_refusal g k r ≡ 0 → judged g k rest ≡ r
  unfolding judged
  judged-accepted r q z = rw q (unless-accepted (record_refusal g k r) r z)

  -- else its number
  pub judged-refused : (r : Result Record Unread) → head_of g rest ≡ r → (record_refusal g k r ≡ 0 → ⊥) → judged g k rest ≡ Err (Refused (record_refusal g k r))
  unfolding judged
  judged-refused r q ne = rw q (unless-refused (record_refusal g k r) r ne)

  -- where another record has to follow, it is what is read, and not refused
  pub goes-found : goes_on (judged g k rest) ≡ true → (judged g k rest ≡ head_of g rest) × (record_refusal g k (head_of g rest) ≡ 0)
  unfolding judged
  goes-found =
      unless-cases (record_refusal g k (head_of g rest)) (head_of g rest)
      (λ (r : Result Record Unread). goes_on r ≡ true → (r ≡ head_of g rest) × (record_refusal g k (head_of g rest) ≡ 0))
      (λ z h. (refl, z))
      (λ ne h. absurd (false≢true h))

  -- no ACK is accepted
  judged-no-ack : (e : ℕ) (c : Cursor) → judged g k rest ≡ Ok (Ack e c) → ⊥
  unfolding judged
  judged-no-ack e c =
      unless-cases (record_refusal g k (head_of g rest)) (head_of g rest)
      (λ (r : Result Record Unread). r ≡ Ok (Ack e c) → ⊥)
      (λ z q. let six : record_refusal g k (Ok (Ack e c)) ≡ 0 = ap (record_refusal g k) (sym q) ∙ z in omega arith)
      (λ ne q. false≢true (ap is_found q))

  -- so behind one that is accepted and is no COMMIT another has to follow
  pub accepted-goes : (r : Record) → judged g k rest ≡ Ok r → ((w : Bool) (e p b : ℕ) (c : Cursor) → r ≡ Commit w e p b c → ⊥) → goes_on (Ok r) ≡ true
  accepted-goes (Page w e p c) q other = refl
  accepted-goes (Block e n c) q other = refl
  accepted-goes (State e c) q other = refl
  accepted-goes (Commit w e p b c) q other = absurd (other w e p b c refl)
  accepted-goes (Ack e c) q other = absurd (judged-no-ack e c q)

-- a record that is found is refused as its message is
pub refusal-found : (g : FileSettings) (k : Known) (s : List ℕ) (r : Result Record Unread) → is_found r ≡ true → record_refusal g k r ≡ message_refusal g k (message_of r s)
refusal-found g k s (Ok (Page w e p c)) f = refl
refusal-found g k s (Ok (Block e n c)) f = refl
refusal-found g k s (Ok (State e c)) f = refl
refusal-found g k s (Ok (Commit w e p b c)) f = refl
refusal-found g k s (Ok (Ack e c)) f = refl
refusal-found g k s (Err (Short n)) f = absurd (false≢true f)
refusal-found g k s (Err (Refused n)) f = absurd (false≢true f)

-- where another record has to follow, it is found, and one before the COMMIT
pub goes_before : (s : List ℕ) (r : Result Record Unread) → goes_on r ≡ true → (is_found r ≡ true) × Before (message_of r s)
goes_before s (Ok (Page w e p c)) h = (refl, tt)
goes_before s (Ok (Block e n c)) h = (refl, tt)
goes_before s (Ok (State e c)) h = (refl, tt)
goes_before s (Ok (Commit w e p b c)) h = absurd (false≢true h)
goes_before s (Ok (Ack e c)) h = absurd (false≢true h)
goes_before s (Err (Short n)) h = absurd (false≢true h)
goes_before s (Err (Refused n)) h = absurd (false≢true h)

-- ---- one step
module _ (most : ℕ) (g : FileSettings) (file : List ℕ) (t : Scanning) (r : Result Record Unread)
    (is : judged g (known_of t.counts t.numbers) (drop t.at file) ≡ r) where
  -- where another record has to follow, with what is kept of this one
  pub scan-more : goes_on r ≡ true → scan_in (suc most) g file t ≡ scan_in most g file (scanned_with t r)
  unfolding scan_in
  scan-more h = rw is (cond-true (goes_on r) (scan_in most g file (scanned_with t r)) (scan_end t r) h)

  -- else it is the last
  pub scan-last : goes_on r ≡ false → scan_in (suc most) g file t ≡ scan_end t r
  unfolding scan_in
  scan-last h = rw is (cond-false (goes_on r) (scan_in most g file (scanned_with t r)) (scan_end t r) h)

-- ---- what is known with a record
-- a BLOCK that is not refused is of a block that came before, or the array has room
pub block_room : (g : FileSettings) (k : Counts) (numbers : List ℕ) → k.blocks ≤ length numbers → (e n : ℕ) (bs : List ℕ)
    → message_refusal g (known_of k numbers) (block e n bs) ≡ 0 → is_in n (take k.blocks numbers) ≡ false → k.blocks < g.b
block_room g k numbers fits e n bs z t =
    let a = (block-facts g (known_of k numbers) e n bs z).allowed.blocks-low t in
    omega (arith, length-take-le k.blocks numbers fits)

-- with a BLOCK, the array has its number once
known-block : (k : Counts) (numbers : List ℕ) (e n : ℕ) → k.blocks ≤ length numbers → (is_in n (take k.blocks numbers) ≡ false → k.blocks < length numbers)
    → known_of (count_block k (ltb (slot_in k.blocks numbers n) k.blocks) e) (set numbers (slot_in k.blocks numbers n) n) ≡ with_block (known_of k numbers) e n
known-block k numbers e n fits room =
    ap (λ (l : List ℕ). record { begun = true; epoch = epoch_with k e; numbers = l; records = k.records + 1; pages = k.pages; next = k.next; seen = k.seen })
    (numbers-stored k.blocks numbers n fits room)

-- the counts and the array say what is known with a PAGE, a BLOCK or a STATE
pub known-with : (g : FileSettings) (k : Counts) (numbers s : List ℕ) (r : Result Record Unread) → goes_on r ≡ true → k.blocks ≤ length numbers → g.b ≤ length numbers
    → message_refusal g (known_of k numbers) (message_of r s) ≡ 0
    → known_of (counts_with k numbers r) (numbers_with k.blocks numbers r) ≡ known_with (known_of k numbers) (message_of r s)
known-with g k numbers s (Ok (Page w e p c)) h fits few z = refl
known-with g k numbers s (Ok (Block e n c)) h fits few z = known-block k numbers e n fits (λ t. omega (arith, block_room g k numbers fits e n (bytes_at c s) z t))
known-with g k numbers s (Ok (State e c)) h fits few z = refl
known-with g k numbers s (Ok (Commit w e p b c)) h fits few z = absurd (false≢true h)
known-with g k numbers s (Ok (Ack e c)) h fits few z = absurd (false≢true h)
known-with g k numbers s (Err (Short n)) h fits few z = absurd (false≢true h)
known-with g k numbers s (Err (Refused n)) h fits few z = absurd (false≢true h)
