-- What a standby reads, written again, is the bytes that were read. Assumes nothing.
use Rattle.std.specs.Prelude.{Result, Ok, Err}
use Prim.Native.Nat.{ℕ, ◌+◌, ◌-◌, ◌≤◌}
use mathlib.Core.Path.{◌≡◌, refl, sym, ap, ap₂, ◌∙◌}
use mathlib.Core.Bool.{Bool, true, false, false≢true}
use mathlib.Core.List.{List, ◌++◌}
use native.Mathlib.Omega.{arith}
use lib.ListN.{length, take, drop}
use lib.Seq.{length-take-le, get_or-drop}
use Rattle.lists.specs.Part.{part}
use Rattle.lists.specs.LittleEndian.{le_bytes, le_at}
use Rattle.lists.proofs.LittleEndianLaws.{le_at-lt, le_bytes-le_at}
use Rattle.lists.proofs.PartLaws.{length_part, part-zero, part_join}
use Rattle.lists.proofs.TestLaws.{not-both}
use Rattle.records.specs.declared.Cursor.{Cursor}
use Rattle.records.specs.declared.Reader.TheVariants.{Standby}
use Rattle.records.specs.declared.Record.{Record}
use Rattle.records.specs.declared.Unread.{Unread}
use Rattle.records.specs.declared.Record.TheVariants.{Page, Block, State, Commit, Ack}
use Rattle.records.specs.declared.Unread.TheVariants.{Short, Refused}
use Rattle.records.specs.Kind.{BLOCK, STATE, ACK, page_kind, commit_kind, number_width, processor_bytes, body_length, record_length, is_for}
use Rattle.records.specs.Read.{read_record, used_of, kind_of, cursor, page_at, commit_at}
use Rattle.records.specs.Write.{frame, unit_record, state_record, commit_record}
use Rattle.records.specs.Message.{Message, page, block, state, commit, ack, encode}
use Rattle.records.proofs.KindLaws.{for-test, for-page, for-block, for-state, for-commit, ack-not-for, page-length, commit-length, record-ge}
use Rattle.records.proofs.ReadLaws.{Whole, is_found, found-facts, read-facts, read-cases, fields-cases}
use Rattle.rules.specs.Read.{bytes_at}
use Rattle.runs.proofs.Effects.{Readable}
use Rattle.checkpoints.specs.Claims.{AreBytes}

-- what is behind the first bytes are bytes
pub bytes_drop : (n : ℕ) (s : List ℕ) → AreBytes s → AreBytes (drop n s)
bytes_drop n s h i = rw get_or-drop (h (n + i))

-- ---- fields
-- a field written again, in front of the part behind it
field-join : (k i n m : ℕ) (s t : List ℕ) → AreBytes s → i + k ≤ length s → k + n ≡ m → t ≡ part (i + k) n s → le_bytes k (le_at k s i) ++ t ≡ part i m s
field-join k i n m s t h l q e =
    ap₂ (λ (x y : List ℕ). x ++ y) (le_bytes-le_at k i s h l) e ∙ part_join i k n s ∙ ap (λ (x : ℕ). part i x s) q

-- a frame of the kind and of the length of the body that the first four bytes say
frame-again : (kind n : ℕ) (body s : List ℕ) → AreBytes s → 4 + n ≤ length s → le_at 2 s 0 ≡ n → le_at 2 s 2 ≡ kind → body ≡ part 4 n s → frame kind body ≡ take (4 + n) s
unfolding frame
frame-again kind n body s h l size k e =
    let len : length body ≡ le_at 2 s 0 = ap length e ∙ length_part 4 n s l ∙ sym size in
    let inner : le_bytes 2 (le_at 2 s 2) ++ body ≡ part 2 (2 + n) s = field-join 2 2 n (2 + n) s body h (omega arith) refl e in
    rw (len, ← k) (field-join 2 0 (2 + n) (4 + n) s (le_bytes 2 (le_at 2 s 2) ++ body) h (omega arith) (omega arith) inner ∙ part-zero (4 + n) s)

-- ---- the message that a record stands for, with its bytes
abbrev pub message_of : Result Record Unread → List ℕ → Message
message_of r s =
    elim r [ Ok (Page w e p c) ↦ page e p (bytes_at c s) | Ok (Block e n c) ↦ block e n (bytes_at c s) | Ok (State e c) ↦ state e (bytes_at c s) | Ok (Commit w e p b c) ↦ commit e p b | Ok (Ack e c) ↦ ack e | Err (Short n) ↦ ack 0 | Err (Refused n) ↦ ack 0 ]

-- a PAGE for a standby is of its width
pub page-width : (wide w : Bool) → is_for (Standby wide) (page_kind w) ≡ true → w ≡ wide
page-width false false h = refl
page-width false true h = absurd (false≢true h)
page-width true false h = absurd (false≢true h)
page-width true true h = refl

-- so is a COMMIT
pub commit-width : (wide w : Bool) → is_for (Standby wide) (commit_kind w) ≡ true → w ≡ wide
commit-width false false h = refl
commit-width false true h = absurd (false≢true h)
commit-width true false h = absurd (false≢true h)
commit-width true true h = refl

-- the bytes of a BLOCK
block-length : (u : ℕ) → record_length u BLOCK ≡ u + 10
unfolding record_length body_length
block-length u = omega arith

-- ---- what a standby reads
module _ (u : ℕ) (wide : Bool) (s : List ℕ) where
  -- a PAGE that it reads is of its width
  pub found-width-page : (w : Bool) (e p : ℕ) (c : Cursor) → read_record (Standby wide) u s ≡ Ok (Page w e p c) → w ≡ wide
  found-width-page w e p c q = page-width wide w (rw q at (read-facts (Standby wide) u s)).for-reader

  -- so is a COMMIT
  pub found-width-commit : (w : Bool) (e p b : ℕ) (c : Cursor) → read_record (Standby wide) u s ≡ Ok (Commit w e p b c) → w ≡ wide
  found-width-commit w e p b c q = commit-width wide w (rw q at (read-facts (Standby wide) u s)).for-reader

  -- it reads no ACK
  pub found-no-ack : (e : ℕ) (c : Cursor) → read_record (Standby wide) u s ≡ Ok (Ack e c) → ⊥
  found-no-ack e c q = not-both (is_for (Standby wide) ACK) (rw q at (read-facts (Standby wide) u s)).for-reader (ack-not-for wide)

  -- what it reads has 8 bytes or more, and no more than there are
  pub used-range : is_found (read_record (Standby wide) u s) ≡ true → (8 ≤ used_of (read_record (Standby wide) u s)) × (used_of (read_record (Standby wide) u s) ≤ length s)
  used-range h =
      let r = read_record (Standby wide) u s in
      let f = found-facts (Standby wide) u s r h (read-facts (Standby wide) u s) in
      (omega (arith, f.used, record-ge u (kind_of r) (for-test (Standby wide) (kind_of r) f.for-reader)), f.inside)

-- ---- written again
-- a record is a message that a standby of this width reads, and that is written as the bytes read
abbrev pub Again : (u : ℕ) (wide : Bool) (s : List ℕ) → Result Record Unread → Type 0
Again u wide s r = (encode wide (message_of r s) ≡ take (used_of r) s) × Readable u wide (message_of r s)

module _ (u : ℕ) (wide : Bool) (s : List ℕ) (h : AreBytes s) (w : Whole (Standby wide) u s) where
  -- of a kind, with the epoch and what follows it
  again : (kind n : ℕ) (rest : List ℕ) → le_at 2 s 2 ≡ kind → record_length u kind ≡ 8 + n → rest ≡ part 8 n s
      → frame kind (le_bytes 4 (le_at 4 s 4) ++ rest) ≡ take (record_length u kind) s
  unfolding record_length
  again kind n rest k l e =
      let b : record_length u kind ≤ length s = rw k at w.body in
      let body : body_length u kind ≡ 4 + n = omega arith in
      let all : 4 + (4 + n) ≡ record_length u kind = omega arith in
      let inner : le_bytes 4 (le_at 4 s 4) ++ rest ≡ part 4 (4 + n) s = field-join 4 4 n (4 + n) s rest h (omega arith) refl e in
      frame-again kind (4 + n) (le_bytes 4 (le_at 4 s 4) ++ rest) s h (omega arith) (w.size ∙ ap (body_length u) k ∙ body) k inner
      ∙ ap (λ (x : ℕ). take x s) all

  -- a PAGE or a BLOCK, with a number of so many bytes
  again-unit : (kind width : ℕ) → le_at 2 s 2 ≡ kind → record_length u kind ≡ u + (8 + width)
      → (unit_record kind width (le_at 4 s 4) (le_at width s 8) (bytes_at (cursor (8 + width) (record_length u kind)) s) ≡ take (record_length u kind) s)
      × (length (bytes_at (cursor (8 + width) (record_length u kind)) s) ≡ u)
  unfolding unit_record
  again-unit kind width k l =
      let b : record_length u kind ≤ length s = rw k at w.body in
      let n : record_length u kind - (8 + width) ≡ u = omega arith in
      let bs : part (8 + width) (record_length u kind - (8 + width)) s ≡ part (8 + width) u s = ap (λ (x : ℕ). part (8 + width) x s) n in (
        again kind (width + u) _ k (omega arith) (field-join width 8 u (width + u) s _ h (omega arith) refl bs),
        ap length bs ∙ length_part (8 + width) u s (omega arith),
      )

  -- a PAGE of the width
  again-page : le_at 2 s 2 ≡ page_kind wide → Again u wide s (page_at u wide s)
  again-page k =
      let a = again-unit (page_kind wide) (number_width wide) k (page-length u wide) in
      (a.0, ((le_at-lt 4 4 s h, le_at-lt (number_width wide) 8 s h, a.1), for-page wide))

  -- a BLOCK
  again-block : le_at 2 s 2 ≡ BLOCK → Again u wide s (Ok (Block (le_at 4 s 4) (le_at 2 s 8) (cursor 10 (record_length u BLOCK))))
  again-block k =
      let a = again-unit BLOCK 2 k (block-length u) in
      (a.0, ((le_at-lt 4 4 s h, le_at-lt 2 8 s h, a.1), for-block wide))

  -- a STATE
  again-state : le_at 2 s 2 ≡ STATE → Again u wide s (Ok (State (le_at 4 s 4) (cursor 8 (record_length u STATE))))
  unfolding state_record record_length body_length
  again-state k =
      let b : record_length u STATE ≤ length s = rw k at w.body in
      (again STATE processor_bytes _ k refl refl, ((le_at-lt 4 4 s h, length_part 8 processor_bytes s b), for-state wide))

  -- a COMMIT of the width
  again-commit : le_at 2 s 2 ≡ commit_kind wide → Again u wide s (commit_at u wide s)
  unfolding commit_record
  again-commit k =
      let n = number_width wide in
      let l = commit-length u wide in
      let b : record_length u (commit_kind wide) ≤ length s = rw k at w.body in
      let second = le_bytes-le_at n (8 + n) s h (omega arith) in (
        again (commit_kind wide) (n + n) _ k (omega arith) (field-join n 8 n (n + n) s _ h (omega arith) refl second),
        ((le_at-lt 4 4 s h, le_at-lt n 8 s h, le_at-lt n (8 + n) s h), for-commit wide),
      )

-- what is read, written again, is the bytes that were read
pub read-encode : (u : ℕ) (wide : Bool) (s : List ℕ) → AreBytes s → is_found (read_record (Standby wide) u s) ≡ true → Again u wide s (read_record (Standby wide) u s)
read-encode u wide s h =
    read-cases (λ (r : Result Record Unread). is_found r ≡ true → Again u wide s r) (Standby wide) u s
    (λ v f. absurd (false≢true f)) (λ v k f. absurd (false≢true f)) (λ v k f. absurd (false≢true f)) (λ v l f. absurd (false≢true f)) (λ c f. absurd (false≢true f))
    (λ w f. fields-cases (Again u wide s) u (le_at 2 s 2) s (for-test (Standby wide) (le_at 2 s 2) w.kind)
    (λ x k. pages w x (page-width wide x (rw k at w.kind)) k)
    (again-block u wide s h w)
    (again-state u wide s h w)
    (λ x k. commits w x (commit-width wide x (rw k at w.kind)) k)
    (λ k. absurd (not-both (is_for (Standby wide) ACK) (rw k at w.kind) (ack-not-for wide))))
  where
    pages : Whole (Standby wide) u s → (x : Bool) → x ≡ wide → le_at 2 s 2 ≡ page_kind x → Again u wide s (page_at u x s)
    pages w x e k = rw e (again-page u wide s h w (rw e at k))

    commits : Whole (Standby wide) u s → (x : Bool) → x ≡ wide → le_at 2 s 2 ≡ commit_kind x → Again u wide s (commit_at u x s)
    commits w x e k = rw e (again-commit u wide s h w (rw e at k))

-- so they are as many as its bytes
pub length-again : (u : ℕ) (wide : Bool) (s : List ℕ) → AreBytes s → is_found (read_record (Standby wide) u s) ≡ true
    → length (encode wide (message_of (read_record (Standby wide) u s) s)) ≡ used_of (read_record (Standby wide) u s)
length-again u wide s h f = ap length (read-encode u wide s h f).0 ∙ length-take-le _ s (used-range u wide s f).1
