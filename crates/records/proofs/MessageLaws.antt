-- Laws of messages and streams of them: a message is read back, a first part of it is cut short, and its bytes stand at the cursor. Assumes nothing.
use Rattle.std.specs.Prelude.{Err}
use mathlib.Core.Path.{◌≡◌, refl, sym, ap, ◌∙◌}
use mathlib.Core.Bool.{Bool, true, false, cond}
use mathlib.Core.Logic.{⊎_elim}
use mathlib.Core.List.{List, [], ◌∷◌, ◌++◌, append_assoc, append-nil}
use Prim.Native.Nat.{ℕ, ◌+◌, ◌-◌, ◌≤◌, ◌<◌}
use native.Mathlib.Omega.{arith}
use lib.Dec.{leb}
use lib.ListN.{length, take, length-append}
use lib.Seq.{take-append-add, take_at}
use borrow.Author.Tests.{le-leb, lt-leb}
use Rattle.lists.specs.Part.{part}
use Rattle.lists.specs.LittleEndian.{le_bytes, le_at}
use Rattle.lists.proofs.TestLaws.{lt-or-ge}
use Rattle.lists.proofs.LittleEndianLaws.{length-le_bytes, le_at-le_bytes, le_at-skip}
use Rattle.records.specs.declared.Reader.{Reader}
use Rattle.records.specs.declared.Unread.TheVariants.{Short}
use Rattle.records.specs.Kind.{unit_ok, BLOCK, STATE, ACK, page_kind, commit_kind, number_width, body_length, header_length, record_length, is_for}
use Rattle.records.specs.Read.{page_at, commit_at, fields_of, read_record, cursor_of, used_of}
use Rattle.records.specs.Write.{frame, unit_record, state_record, commit_record, epoch_record}
use Rattle.records.specs.Missing.{missing_from}
use Rattle.records.specs.Message.{Message, page, block, state, commit, ack, message_kind, encode, encode_all, read_as, Fits}
unfoldable pub use Rattle.records.specs.Message.{bytes_of}
use Rattle.records.proofs.FrameLaws.{length-frame}
use Rattle.records.proofs.KindLaws.{page-length, commit-length}
use Rattle.records.proofs.ReadLaws.{read-no-header}
use Rattle.records.proofs.FramedLaws.{Framed, frame-read, frame-short, epoch-at, field_at}

-- ---- every message is a frame of its kind: its epoch, and what follows it
abbrev epoch_of : Message → ℕ
epoch_of (page e p bs) = e
epoch_of (block e n bs) = e
epoch_of (state e bs) = e
epoch_of (commit e p b) = e
epoch_of (ack e) = e

abbrev rest_of : Bool → Message → List ℕ
rest_of wide (page e p bs) = le_bytes (number_width wide) p ++ bs
rest_of wide (block e n bs) = le_bytes 2 n ++ bs
rest_of wide (state e bs) = bs
rest_of wide (commit e p b) = le_bytes (number_width wide) p ++ le_bytes (number_width wide) b
rest_of wide (ack e) = []

abbrev body_of : Bool → Message → List ℕ
body_of wide m = le_bytes 4 (epoch_of m) ++ rest_of wide m

encode-frame : (wide : Bool) (m : Message) → encode wide m ≡ frame (message_kind wide m) (body_of wide m)
unfolding unit_record state_record commit_record epoch_record
encode-frame wide (page e p bs) = refl
encode-frame wide (block e n bs) = refl
encode-frame wide (state e bs) = refl
encode-frame wide (commit e p b) = refl
encode-frame wide (ack e) = ap (frame ACK) (sym (append-nil (le_bytes 4 e)))

body-length : (u : ℕ) (wide : Bool) (m : Message) → Fits u wide m → body_length u (message_kind wide m) ≡ length (body_of wide m)
unfolding body_length record_length
body-length u wide (page e p bs) f = simp (length-append, length-le_bytes) (omega (arith, f.2, page-length u wide))
body-length u wide (block e n bs) f = simp (length-append, length-le_bytes) (omega (arith, f.2))
body-length u wide (state e bs) f = simp (length-append, length-le_bytes) (omega (arith, f.1))
body-length u wide (commit e p b) f = simp (length-append, length-le_bytes) (omega (arith, commit-length u wide))
body-length u wide (ack e) f = simp (length-append, length-le_bytes)

-- of either width, the fields of a kind are those of a PAGE, or of a COMMIT
fields-page : (u : ℕ) (wide : Bool) (s : List ℕ) → fields_of u (page_kind wide) s ≡ page_at u wide s
unfolding fields_of
fields-page u false s = refl
fields-page u true s = refl

fields-commit : (u : ℕ) (wide : Bool) (s : List ℕ) → fields_of u (commit_kind wide) s ≡ commit_at u wide s
unfolding fields_of
fields-commit u false s = refl
fields-commit u true s = refl

fields-message : (u : ℕ) (wide : Bool) (m : Message) → Fits u wide m → (rest : List ℕ)
    → fields_of u (message_kind wide m) (frame (message_kind wide m) (body_of wide m) ++ rest) ≡ read_as u wide m
unfolding fields_of
fields-message u wide (page e p bs) f rest =
    let n = number_width wide in
    let k = page_kind wide in
    let t = le_bytes n p ++ bs in
    fields-page u wide (frame k (le_bytes 4 e ++ t) ++ rest)
    ∙ rw (epoch-at k e t rest f.0, field_at n k e t rest 0, append_assoc, le_at-le_bytes n p (bs ++ rest) f.1)
fields-message u wide (block e n bs) f rest =
    let t = le_bytes 2 n ++ bs in
    rw (epoch-at BLOCK e t rest f.0, field_at 2 BLOCK e t rest 0, append_assoc, le_at-le_bytes 2 n (bs ++ rest) f.1)
fields-message u wide (state e bs) f rest = rw (epoch-at STATE e bs rest f.0)
fields-message u wide (commit e p b) f rest =
    let n = number_width wide in
    let k = commit_kind wide in
    let t = le_bytes n p ++ le_bytes n b in
    let second : le_at n (le_bytes n p ++ (le_bytes n b ++ rest)) n ≡ le_at n (le_bytes n b ++ rest) 0
    = ap (le_at n (le_bytes n p ++ (le_bytes n b ++ rest))) (omega arith) ∙ le_at-skip n p n 0 (le_bytes n b ++ rest) in
    fields-commit u wide (frame k (le_bytes 4 e ++ t) ++ rest)
    ∙ rw (
      epoch-at k e t rest f.0,
      field_at n k e t rest 0,
      field_at n k e t rest n,
      append_assoc,
      le_at-le_bytes n p (le_bytes n b ++ rest) f.1,
      second,
      le_at-le_bytes n b rest f.2,
    )
fields-message u wide (ack e) f rest = rw (epoch-at ACK e [] rest f)

-- ---- the bytes of a message
pub length-message : (u : ℕ) (wide : Bool) (m : Message) → Fits u wide m → length (encode wide m) ≡ record_length u (message_kind wide m)
unfolding record_length
length-message u wide m f = rw (encode-frame wide m, length-frame, body-length u wide m f)

used-kind : (u : ℕ) (wide : Bool) (m : Message) → used_of (read_as u wide m) ≡ record_length u (message_kind wide m)
used-kind u wide (page e p bs) = refl
used-kind u wide (block e n bs) = refl
used-kind u wide (state e bs) = refl
used-kind u wide (commit e p b) = refl
used-kind u wide (ack e) = refl

-- the bytes used are its own
pub used-message : (u : ℕ) (wide : Bool) (m : Message) → Fits u wide m → used_of (read_as u wide m) ≡ length (encode wide m)
used-message u wide m f = used-kind u wide m ∙ sym (length-message u wide m f)

-- the bytes stand at the cursor
pub message-bytes : (u : ℕ) (wide : Bool) (m : Message) → Fits u wide m → (rest : List ℕ)
    → part (cursor_of (read_as u wide m)).start ((cursor_of (read_as u wide m)).end - (cursor_of (read_as u wide m)).start) (encode wide m ++ rest) ≡ bytes_of m
unfolding part unit_record state_record frame le_bytes record_length body_length
message-bytes u false (page e p bs) f rest = take_at bs rest (record_length u (page_kind false) - 10) (omega (arith, f.2))
message-bytes u true (page e p bs) f rest = take_at bs rest (record_length u (page_kind true) - 12) (omega (arith, f.2))
message-bytes u wide (block e n bs) f rest = take_at bs rest (record_length u BLOCK - 10) (omega (arith, f.2))
message-bytes u wide (state e bs) f rest = take_at bs rest _ f.1
message-bytes u false (commit e p b) f rest = refl
message-bytes u true (commit e p b) f rest = refl
message-bytes u wide (ack e) f rest = refl

-- ---- reading
module _ (reader : Reader) (u : ℕ) (v : unit_ok u ≡ true) where
  -- where no byte is
  pub read_none : read_record reader u [] ≡ Err (Short header_length)
  read_none = read-no-header reader u [] v (omega arith)

  module _ (wide : Bool) (m : Message) (f : Fits u wide m) (k : is_for reader (message_kind wide m) ≡ true) where
    framed : Framed reader u (message_kind wide m) (body_of wide m)
    framed = record { unit = v; for-reader = k; size = body-length u wide m f }

    abbrev bytes : List ℕ
    bytes = encode wide m

    -- a message is read back, whatever follows
    pub read-message : (rest : List ℕ) → read_record reader u (encode wide m ++ rest) ≡ read_as u wide m
    read-message rest =
        rw (encode-frame wide m) (frame-read reader u (message_kind wide m) (body_of wide m) framed rest ∙ fields-message u wide m f rest)

    -- any first part of it is cut short, by what is missing of its header or its body
    pub short-message : (n : ℕ) (rest : List ℕ) → n < length (encode wide m)
        → read_record reader u (take n (encode wide m ++ rest)) ≡ Err (Short (missing_from (length (encode wide m)) n))
    short-message n rest h =
        rw (encode-frame wide m) (frame-short reader u (message_kind wide m) (body_of wide m) framed n rest (rw (encode-frame wide m) at h))

    pub whole-message : (n : ℕ) (rest : List ℕ) → length (encode wide m) ≤ n → read_record reader u (take n (encode wide m ++ rest)) ≡ read_as u wide m
    whole-message n rest h =
        let e : length bytes + (n - length bytes) ≡ n = omega arith in
        rw (rw e at (take-append-add bytes rest (n - length bytes))) (read-message (take (n - length bytes) rest))

    -- any first part of a stream that starts with it is cut short or the message, by where the cut is
    pub cut-message : (n : ℕ) (rest : List ℕ)
        → read_record reader u (take n (encode wide m ++ rest)) ≡ cond (leb (length (encode wide m)) n) (read_as u wide m) (Err (Short (missing_from (length (encode wide m)) n)))
    cut-message n rest =
        ⊎_elim
        (λ h. rw (lt-leb (length bytes) n h) (short-message n rest h))
        (λ h. rw (le-leb (length bytes) n h) (whole-message n rest h))
        (lt-or-ge n (length bytes))

    pub stream-cut : (ms : List Message) (n : ℕ) (rest : List ℕ)
        → read_record reader u (take n (encode_all wide (m ∷ ms) ++ rest)) ≡ cond (leb (length (encode wide m)) n) (read_as u wide m) (Err (Short (missing_from (length (encode wide m)) n)))
    stream-cut ms n rest = rw (append_assoc bytes (encode_all wide ms) rest) (cut-message n (encode_all wide ms ++ rest))

-- the bytes of two lists of messages, one after the other
pub encode_all-append : (wide : Bool) (xs ys : List Message) → encode_all wide (xs ++ ys) ≡ encode_all wide xs ++ encode_all wide ys
encode_all-append wide [] ys = refl
encode_all-append wide (m ∷ ms) ys = rw (encode_all-append wide ms ys) (sym (append_assoc (encode wide m) (encode_all wide ms) (encode_all wide ys)))
