-- Laws of the writers: how their copies make up a record, when there is room, and what the caller of one gets. Assumes nothing.
use mathlib.Core.Path.{◌≡◌, refl, sym, ap, ◌∙◌}
use mathlib.Core.Bool.{Bool, true, false, ◌&&◌}
use mathlib.Core.List.{List, [], ◌++◌, append_assoc, append-nil}
use Prim.Native.Nat.{ℕ, ◌+◌, ◌-◌, ◌^◌, ◌≤◌, ◌<◌}
use native.Mathlib.Omega.{arith}
use lib.Dec.{leb}
use lib.ListN.{length, take, length-append, length-take, length-drop}
use borrow.Author.Tests.{leb-true, le-leb, ltb-true, lt-ltb}
use borrow.Rule.Slice.PartMut.{put_mid, mid_of}
use Rattle.lists.specs.Part.{put, PutDone}
use Rattle.lists.specs.LittleEndian.{le_bytes}
use Rattle.lists.proofs.TestLaws.{both, join, refuted, cond-true}
use Rattle.lists.proofs.PartLaws.{take-put-front, put_next, part-back-front}
use Rattle.lists.proofs.LittleEndianLaws.{length-le_bytes}
use Rattle.records.specs.Kind.{ACK, body_length, record_length}
use Rattle.records.specs.Write.{frame, epoch_record, ack_record, fits_in, has_room, Written}
use Rattle.records.proofs.FrameLaws.{length-epoch, head-frame}

-- ---- copies one after the other, over the kind and what follows the head

-- the length of the body, the kind and the epoch
abbrev head : ℕ → ℕ → ℕ → List ℕ
head n kind epoch = le_bytes 2 n ++ le_bytes 2 kind ++ le_bytes 4 epoch

length-head : (n kind epoch : ℕ) → length (head n kind epoch) ≡ 8
length-head n kind epoch = simp (length-append, length-le_bytes)

module _ (n kind epoch : ℕ) (l : List ℕ) where
  pub put-fields : 8 ≤ length l → put (put (put l 0 (le_bytes 2 n)) 2 (le_bytes 2 kind)) 4 (le_bytes 4 epoch) ≡ put l 0 (head n kind epoch)
  put-fields h =
      ap (λ (s : List ℕ). put s 4 (le_bytes 4 epoch)) (put_next l (le_bytes 2 n) (le_bytes 2 kind) 2 (length-le_bytes 2 n) (omega arith))
      ∙ put_next l (le_bytes 2 n ++ le_bytes 2 kind) (le_bytes 4 epoch) 4 (simp (length-append, length-le_bytes)) (omega arith)

  -- the head, and then the rest
  pub put_rest : (rest : List ℕ) → n ≡ length rest + 4 → 8 ≤ length l → put (put l 0 (head n kind epoch)) 8 rest ≡ put l 0 (frame kind (le_bytes 4 epoch ++ rest))
  put_rest rest e h =
      put_next l (head n kind epoch) rest 8 (length-head n kind epoch) h ∙ ap (put l 0) (head-frame n kind epoch rest e)

  -- the head, a number of k bytes, and then the rest
  pub put-number-rest : (k number : ℕ) (rest : List ℕ) → n ≡ length rest + (4 + k) → 8 + k ≤ length l
      → put (put (put l 0 (head n kind epoch)) 8 (le_bytes k number)) (8 + k) rest ≡ put l 0 (frame kind (le_bytes 4 epoch ++ (le_bytes k number ++ rest)))
  put-number-rest k number rest e h =
      let m : n ≡ length (le_bytes k number ++ rest) + 4 = simp (length-append, length-le_bytes) (omega arith) in
      ap (λ (s : List ℕ). put s (8 + k) rest) (put_next l (head n kind epoch) (le_bytes k number) 8 (length-head n kind epoch) (omega arith))
      ∙ put_next l (head n kind epoch ++ le_bytes k number) rest (8 + k) (simp (length-append, length-le_bytes)) h
      ∙ ap (put l 0) (append_assoc (head n kind epoch) (le_bytes k number) rest ∙ head-frame n kind epoch (le_bytes k number ++ rest) m)

-- the head alone
pub head-epoch : (kind epoch : ℕ) → head 4 kind epoch ≡ epoch_record kind epoch
unfolding epoch_record
head-epoch kind epoch =
    sym (append-nil (head 4 kind epoch)) ∙ head-frame 4 kind epoch [] refl ∙ ap (frame kind) (append-nil (le_bytes 4 epoch))

-- ---- room

module _ (fits : Bool) (bs out : List ℕ) where
  pub room_of : fits ≡ true → length bs ≤ length out → has_room fits bs out ≡ true
  unfolding has_room
  room_of f h = join fits (leb (length bs) (length out)) f (le-leb _ _ h)

  pub room-facts : has_room fits bs out ≡ true → (fits ≡ true) × (length bs ≤ length out)
  unfolding has_room
  room-facts e =
      let p = both fits (leb (length bs) (length out)) e in
      (p.0, leb-true _ _ p.1)

  pub no_room : (fits ≡ true → length bs ≤ length out → ⊥) → has_room fits bs out ≡ false
  no_room f = sym (refuted (has_room fits bs out) (λ e. let p = room-facts e in f p.0 p.1))

-- the same where two numbers have to fit: a number and a length of a PAGE or a BLOCK, the counts of a COMMIT
module _ (j k m n : ℕ) (bs out : List ℕ) where
  pub two-room : m < 256 ^ j → n < 256 ^ k → length bs ≤ length out → has_room (fits_in j m && fits_in k n) bs out ≡ true
  two-room p q = room_of (fits_in j m && fits_in k n) bs out (join (fits_in j m) (fits_in k n) (lt-ltb m (256 ^ j) p) (lt-ltb n (256 ^ k) q))

  pub two-no-room : (m < 256 ^ j → n < 256 ^ k → length bs ≤ length out → ⊥) → has_room (fits_in j m && fits_in k n) bs out ≡ false
  two-no-room f =
      no_room (fits_in j m && fits_in k n) bs out
      (λ e. let p = both (fits_in j m) (fits_in k n) e in f (ltb-true m (256 ^ j) p.0) (ltb-true n (256 ^ k) p.1))

-- ---- what a writer leaves
module _ {fits : Bool} {bs before after : List ℕ} {r : ℕ} where
  -- with room the record, and its length
  pub written_of : has_room fits bs before ≡ true → after ≡ put before 0 bs → r ≡ length bs → Written fits bs before after r
  written_of h e n = record { content = rw h e; count = rw h n }

  pub written-bytes : Written fits bs before after r → has_room fits bs before ≡ true → after ≡ put before 0 bs
  written-bytes w h = w.content ∙ cond-true _ _ _ h

  pub written-length : Written fits bs before after r → has_room fits bs before ≡ true → r ≡ length bs
  written-length w h = w.count ∙ cond-true _ _ _ h

  -- without it nothing, and 0
  pub unwritten_of : has_room fits bs before ≡ false → after ≡ before → r ≡ 0 → Written fits bs before after r
  unwritten_of h e n = record { content = rw h e; count = rw h n }

-- what a COMMIT writes at the head of its reply: the bytes of an ACK's length there are the ACK
pub ack-written : (u epoch : ℕ) (reply : List ℕ) → take (record_length u ACK) (put reply 0 (ack_record epoch)) ≡ ack_record epoch
unfolding record_length body_length
ack-written u epoch reply = take-put-front reply (ack_record epoch) 8 (length-epoch ACK epoch)

-- ---- what comes back to a caller that lent `&mut s[at..]`
module _ (fits : Bool) (bs s : List ℕ) (at : ℕ) where
  pub part_room : fits ≡ true → at + length bs ≤ length s → has_room fits bs (mid_of at (length s - at) s) ≡ true
  part_room f h = room_of fits bs (mid_of at (length s - at) s) f (simp (length-take, length-drop) (omega arith))

  module _ {after : List ℕ} {r : ℕ} (w : Written fits bs (mid_of at (length s - at) s) after r) where
    -- with room the record stands at at of the whole
    pub written-part : at ≤ length s → has_room fits bs (mid_of at (length s - at) s) ≡ true → put_mid at (length s - at) s after ≡ put s at bs
    written-part h e = part-back-front s at after bs h (written-bytes w e)

-- the same with the position behind it
pub written-done : (fits : Bool) (bs s after : List ℕ) (at r : ℕ) → fits ≡ true → at + length bs ≤ length s → Written fits bs (mid_of at (length s - at) s) after r
    → PutDone bs s at (put_mid at (length s - at) s after) (at + r)
written-done fits bs s after at r f h w =
    let room = part_room fits bs s at f h in
    record { bytes = written-part fits bs s at w (omega arith) room; position = ap (λ (x : ℕ). at + x) (written-length w room) }
