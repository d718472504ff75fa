-- Laws of framed records: what is framed is read back, a first part of it is cut short, and its fields. Assumes nothing.
use Rattle.std.specs.Prelude.{Err}
use mathlib.Core.Path.{◌≡◌, sym, ap, ◌∙◌}
use mathlib.Core.Bool.{true}
use mathlib.Core.Logic.{⊎_elim}
use mathlib.Core.List.{List, ◌++◌, append_assoc}
use Prim.Native.Nat.{ℕ, ◌+◌, ◌-◌, ◌^◌, ◌≤◌, ◌<◌}
use native.Mathlib.Omega.{arith}
use lib.ListN.{length, take, length-append}
use lib.Seq.{length-take-le}
use borrow.Author.Tests.{le-leb, lt-leb}
use Rattle.lists.specs.LittleEndian.{le_bytes, le_at}
use Rattle.lists.proofs.TestLaws.{lt-or-ge}
use Rattle.lists.proofs.LittleEndianLaws.{le_at-le_bytes, le_at-append, le_at-skip, le_at-take}
use Rattle.records.specs.declared.Reader.{Reader}
use Rattle.records.specs.declared.Unread.TheVariants.{Short}
use Rattle.records.specs.Kind.{unit_ok, body_length, record_length, is_for}
use Rattle.records.specs.Read.{fields_of, read_record}
use Rattle.records.specs.Missing.{missing_from}
use Rattle.records.specs.Write.{frame}
use Rattle.records.proofs.FrameLaws.{length-frame}
use Rattle.records.proofs.KindLaws.{for-test, kind-range, record-le}
use Rattle.records.proofs.ReadLaws.{read_whole, read-no-header, read-no-body}

flat : (kind : ℕ) (body rest : List ℕ) → frame kind body ++ rest ≡ le_bytes 2 (length body) ++ (le_bytes 2 kind ++ (body ++ rest))
unfolding frame
flat kind body rest = simp append_assoc

-- body is the body of a record of a kind that is for the reader
pub record Framed (reader : Reader) (u kind : ℕ) (body : List ℕ) : Type 0 where
  pub unit : unit_ok u ≡ true
  pub for-reader : is_for reader kind ≡ true
  pub size : body_length u kind ≡ length body

module _ (reader : Reader) (u kind : ℕ) (body : List ℕ) (f : Framed reader u kind body) where
  length_at : (rest : List ℕ) → le_at 2 (frame kind body ++ rest) 0 ≡ length body
  unfolding record_length
  length_at rest =
      let b : length body < 2 ^ 16 = omega (arith, f.size, record-le u kind f.unit (for-test reader kind f.for-reader)) in
      rw flat (le_at-le_bytes 2 (length body) (le_bytes 2 kind ++ (body ++ rest)) b)

  kind_at : (rest : List ℕ) → le_at 2 (frame kind body ++ rest) 2 ≡ kind
  kind_at rest =
      let k = kind-range kind (for-test reader kind f.for-reader) in
      rw flat (le_at-skip 2 (length body) 2 0 (le_bytes 2 kind ++ (body ++ rest)) ∙ le_at-le_bytes 2 kind (body ++ rest) (omega arith))

  -- a record is read whole, whatever follows
  pub frame-read : (rest : List ℕ) → read_record reader u (frame kind body ++ rest) ≡ fields_of u kind (frame kind body ++ rest)
  unfolding record_length
  frame-read rest =
      let s = frame kind body ++ rest in
      let len : length s ≡ 4 + length body + length rest = simp (length-append, length-frame) in
      let b : record_length u kind ≤ length s = omega (arith, f.size) in
      read_whole reader u s
      (record { unit = f.unit; kind = rw kind_at f.for-reader; size = rw (length_at, kind_at) (sym f.size); body = rw kind_at b })
      ∙ ap (λ (k : ℕ). fields_of u k s) (kind_at rest)

  -- any first part of it is cut short, by what is missing of its header or its body
  pub frame-short : (n : ℕ) (rest : List ℕ) → n < length (frame kind body) → read_record reader u (take n (frame kind body ++ rest)) ≡ Err (Short (missing_from (length (frame kind body)) n))
  unfolding record_length
  frame-short n rest h =
      let s = frame kind body ++ rest in
      let hl : n < 4 + length body = rw length-frame at h in
      let whole : length s ≡ 4 + length body + length rest = simp (length-append, length-frame) in
      let len : length (take n s) ≡ n = length-take-le n s (omega arith) in
      ⊎_elim
      (λ (c : n < 4). read-no-header reader u (take n s) f.unit (omega arith) ∙ ap (λ (m : ℕ). Err (Short (4 - m))) len ∙ sym (ap (λ (n : ℕ). Err (Short n)) (rw (lt-leb 4 n c))))
      (λ (c : 4 ≤ n).
      let l0 : le_at 2 (take n s) 0 ≡ length body = le_at-take 2 0 n s (omega arith) ∙ length_at rest in
      let l2 : le_at 2 (take n s) 2 ≡ kind = le_at-take 2 2 n s (omega arith) ∙ kind_at rest in
      let b : length (take n s) < record_length u kind = omega (arith, f.size) in
      let m : record_length u kind - length (take n s) ≡ length (frame kind body) - n = omega (arith, f.size, length-frame kind body) in
      read-no-body reader u (take n s) (record { unit = f.unit; header = omega arith; kind = rw l2 f.for-reader; size = rw (l0, l2) (sym f.size); body = rw l2 b })
      ∙ ap (λ (k : ℕ). Err (Short (record_length u k - length (take n s)))) l2
      ∙ ap (λ (n : ℕ). Err (Short n)) (m ∙ sym (rw (le-leb 4 n c))))
      (lt-or-ge n 4)

-- the fields of a frame: the epoch, and what follows it
pub epoch-at : (kind epoch : ℕ) (t rest : List ℕ) → epoch < 2 ^ 32 → le_at 4 (frame kind (le_bytes 4 epoch ++ t) ++ rest) 4 ≡ epoch
epoch-at kind epoch t rest fits =
    rw (flat, append_assoc (le_bytes 4 epoch))
    (le_at-skip 2 _ 4 2 _ ∙ le_at-skip 2 kind 4 0 _ ∙ le_at-le_bytes 4 epoch _ fits)

pub field_at : (k kind epoch : ℕ) (t rest : List ℕ) (i : ℕ) → le_at k (frame kind (le_bytes 4 epoch ++ t) ++ rest) (8 + i) ≡ le_at k (t ++ rest) i
unfolding le_bytes
field_at k kind epoch t rest i =
    rw (flat, append_assoc (le_bytes 4 epoch))
    (le_at-append k i (le_bytes 2 (length (le_bytes 4 epoch ++ t)) ++ le_bytes 2 kind ++ le_bytes 4 epoch) (t ++ rest))
