-- The bytes of records are bytes where those of their fields are, so those of a file's records and of a normal form
-- are. Assumes nothing.
use Rattle.std.specs.Prelude.{Result, Ok, Err}
use mathlib.Core.Path.{◌≡◌, subst}
use mathlib.Core.Bool.{Bool, true}
use mathlib.Core.Logic.{⊎_elim}
use mathlib.Core.List.{List, [], ◌∷◌, ◌++◌}
use Prim.Native.Nat.{ℕ, zero, suc, ◌-◌, ◌/◌, ◌≤◌, ◌<◌}
use native.Mathlib.Omega.{arith}
use lib.ListN.{length, get_or, take, drop, length-take, get_or-eq_default}
use lib.Seq.{get_or-take}
use Rattle.lists.specs.Part.{part}
use Rattle.lists.specs.LittleEndian.{le_bytes}
use Rattle.lists.proofs.TestLaws.{lt-or-ge}
use Rattle.records.specs.declared.Record.{Record}
use Rattle.records.specs.declared.Unread.{Unread}
use Rattle.records.specs.declared.Record.TheVariants.{Page, Block, State, Commit, Ack}
use Rattle.records.specs.declared.Unread.TheVariants.{Short, Refused}
use Rattle.records.specs.Kind.{unit_ok, BLOCK, STATE, page_kind, commit_kind, number_width}
use Rattle.records.specs.Write.{frame, unit_record, state_record, commit_record, epoch_record}
use Rattle.records.specs.Message.{Message, page, block, state, commit, ack, encode, encode_all, bytes_of}
use Rattle.runs.proofs.Effects.{All}
use Rattle.checkpoints.specs.declared.FileSettings.{FileSettings}
use Rattle.checkpoints.specs.Content.{is_page, is_block, is_state}
use Rattle.checkpoints.specs.Normal.{normal_of}
use Rattle.checkpoints.specs.File.{File, file_in}
use Rattle.checkpoints.specs.Saving.{normal_bytes}
use Rattle.checkpoints.specs.Judge.{epoch_of}
use Rattle.checkpoints.specs.Claims.{AreBytes}
use Rattle.checkpoints.proofs.ByteLaws.{message_of, bytes_drop}
use Rattle.checkpoints.proofs.FileLaws.{head_of, Reads, file-induction}
use Rattle.checkpoints.proofs.NormalReadLaws.{normal-all, last-all}

-- ---- parts of bytes, and bytes behind bytes
pub bytes-none : AreBytes []
bytes-none i = omega arith

-- the first n
pub bytes_take : (n : ℕ) (s : List ℕ) → AreBytes s → AreBytes (take n s)
bytes_take n s h i =
    ⊎_elim
    (λ (l : i < n). rw (get_or-take n s i 0 l) (h i))
    (λ (l : n ≤ i). let e : get_or (take n s) i 0 ≡ 0 = get_or-eq_default (take n s) 0 (rw length-take (omega arith)) in omega arith)
    (lt-or-ge i n)

-- a part
pub bytes-part : (i n : ℕ) (s : List ℕ) → AreBytes s → AreBytes (part i n s)
unfolding part
bytes-part i n s h = bytes_take n (drop i s) (bytes_drop i s h)

-- bytes behind bytes
pub bytes-append : (xs ys : List ℕ) → AreBytes xs → AreBytes ys → AreBytes (xs ++ ys)
bytes-append [] ys f h i = h i
bytes-append (x ∷ xs) ys f h zero = f zero
bytes-append (x ∷ xs) ys f h (suc i) = bytes-append xs ys (λ j. f (suc j)) h i

-- a number written in bytes
pub bytes-number : (k v : ℕ) → AreBytes (le_bytes k v)
unfolding le_bytes
bytes-number zero v i = omega arith
bytes-number (suc k) v zero = omega arith
bytes-number (suc k) v (suc i) = bytes-number k (v / 256) i

-- ---- a record
bytes-behind : (k v : ℕ) (rest : List ℕ) → AreBytes rest → AreBytes (le_bytes k v ++ rest)
bytes-behind k v rest h = bytes-append (le_bytes k v) rest (bytes-number k v) h

-- a frame around bytes
bytes-frame : (kind : ℕ) (body : List ℕ) → AreBytes body → AreBytes (frame kind body)
unfolding frame
bytes-frame kind body h = bytes-behind 2 (length body) (le_bytes 2 kind ++ body) (bytes-behind 2 kind body h)

-- a record whose field is bytes
pub encode-bytes : (wide : Bool) (x : Message) → AreBytes (bytes_of x) → AreBytes (encode wide x)
unfolding unit_record state_record commit_record epoch_record
encode-bytes wide (page e p bs) h = bytes-frame (page_kind wide) _ (bytes-behind 4 e _ (bytes-behind (number_width wide) p bs h))
encode-bytes wide (block e n bs) h = bytes-frame BLOCK _ (bytes-behind 4 e _ (bytes-behind 2 n bs h))
encode-bytes wide (state e bs) h = bytes-frame STATE _ (bytes-behind 4 e bs h)
encode-bytes wide (commit e p b) h = bytes-frame (commit_kind wide) _ (bytes-behind 4 e _ (bytes-behind (number_width wide) p _ (bytes-number (number_width wide) b)))
encode-bytes wide (ack e) h = bytes-frame _ _ (bytes-number 4 e)

-- several
pub encode_all-bytes : (wide : Bool) (xs : List Message) → All (λ x. AreBytes (bytes_of x)) xs → AreBytes (encode_all wide xs)
encode_all-bytes wide [] a = bytes-none
encode_all-bytes wide (x ∷ xs) a = bytes-append (encode wide x) (encode_all wide xs) (encode-bytes wide x a.0) (encode_all-bytes wide xs a.1)

-- ---- the records of a file
message-bytes : (r : Result Record Unread) (s : List ℕ) → AreBytes s → AreBytes (bytes_of (message_of r s))
message-bytes (Ok (Page w e p c)) s h = bytes-part c.start (c.end - c.start) s h
message-bytes (Ok (Block e n c)) s h = bytes-part c.start (c.end - c.start) s h
message-bytes (Ok (State e c)) s h = bytes-part c.start (c.end - c.start) s h
message-bytes (Ok (Commit w e p b c)) s h = bytes-none
message-bytes (Ok (Ack e c)) s h = bytes-none
message-bytes (Err (Short n)) s h = bytes-none
message-bytes (Err (Refused n)) s h = bytes-none

-- so all records of a file that is bytes
pub file-bytes : (g : FileSettings) (s : List ℕ) → unit_ok g.u ≡ true → AreBytes s → All (λ x. AreBytes (bytes_of x)) (file_in g s).messages
file-bytes g s v =
    let read : (t : List ℕ) (x : Message) (n : ℕ) → AreBytes t → Reads g t x n → AreBytes (bytes_of x) =
    λ t x n h r. subst (λ (y : Message). AreBytes (bytes_of y)) r.message (message-bytes (head_of g t) t h) in
    file-induction g v (λ (t : List ℕ) (f : File). AreBytes t → All (λ x. AreBytes (bytes_of x)) f.messages)
    (λ t x n i r rest h. (read t x n h r, rest (bytes_drop n t h)))
    (λ t e p b n r h. (bytes-none, tt))
    (λ t n q h. tt)
    (λ t n q h. tt)
    s

-- ---- a normal form
pub normal-bytes : (g : FileSettings) (ms : List Message) → All (λ x. AreBytes (bytes_of x)) ms → AreBytes (normal_bytes g ms)
unfolding normal_bytes
normal-bytes g ms a =
    encode_all-bytes _ (normal_of (epoch_of ms) g.d g.m ms)
    (normal-all (λ x. AreBytes (bytes_of x)) (epoch_of ms) g.d g.m ms
    (λ n l t. last-all AreBytes (is_block n) ms [] a bytes-none)
    (λ p l t. last-all AreBytes (is_page p) ms [] a bytes-none)
    (last-all AreBytes is_state ms [] a bytes-none)
    bytes-none)
