-- Reading any first part of the unread bytes: cut short, or exactly the next record sent. Assumes nothing.
use Rattle.std.specs.Prelude.{Err}
use Prim.Native.Nat.{ℕ, ◌≤◌, ◌<◌}
use mathlib.Core.Path.{◌≡◌, refl, sym, ap, ◌∙◌}
use mathlib.Core.Logic.{⊎_elim}
use mathlib.Core.Bool.{Bool, true}
use mathlib.Core.List.{List, [], ◌∷◌, ◌++◌, append_assoc}
use native.Mathlib.Omega.{arith}
use lib.ListN.{length, take, drop, length-take, take-append-drop}
use lib.Seq.{take-nil, take-append-le, take-append_seam, drop-append-le, drop-append_seam}
use Rattle.lists.proofs.TestLaws.{lt-or-ge}
use Rattle.records.specs.declared.Reader.{Reader}
use Rattle.records.specs.declared.Unread.TheVariants.{Short}
use Rattle.records.specs.Kind.{unit_ok, header_length}
use Rattle.records.specs.Read.{read_record}
use Rattle.records.specs.Missing.{missing_from}
use Rattle.records.specs.Message.{Message, encode, encode_all, read_as}
use Rattle.records.proofs.MessageLaws.{read_none, read-message, short-message}
use Rattle.runs.proofs.Effects.{All, ReadableBy}

-- the first bytes of a stream of records that begins with x
module _ (p q a b : List ℕ) (same : p ++ q ≡ a ++ b) where
  pub whole-first : length a ≤ length p → p ≡ a ++ drop (length a) p
  whole-first h =
      sym (take-append-drop (length a) p)
      ∙ ap (λ (l : List ℕ). l ++ drop (length a) p) (sym (take-append-le (length a) p q h) ∙ ap (take (length a)) same ∙ take-append_seam a b)

  part-first : p ≡ take (length p) (a ++ b)
  part-first = sym (take-append_seam p q) ∙ ap (take (length p)) same

  whole-rest : length a ≤ length p → drop (length a) p ++ q ≡ b
  whole-rest h = sym (drop-append-le (length a) p q h) ∙ ap (drop (length a)) same ∙ drop-append_seam a b

-- `bytes` is a first part of the unread bytes; behind these lies `rest`
pub data Reading (reader : Reader) (u : ℕ) (wide : Bool) (pending : List Message) (unread rest bytes : List ℕ) : Type 0 where
  none : (n : ℕ) → read_record reader u bytes ≡ Err (Short n) → Reading reader u wide pending unread rest bytes
  one : (x : Message) (xs : List Message) → pending ≡ x ∷ xs → read_record reader u bytes ≡ read_as u wide x → bytes ≡ encode wide x ++ drop (length (encode wide x)) bytes
      → drop (length (encode wide x)) unread ++ rest ≡ encode_all wide xs → Reading reader u wide pending unread rest bytes

module _ (reader : Reader) (u : ℕ) (wide : Bool) (ok : unit_ok u ≡ true) (rest : List ℕ) (k : ℕ) where
  reading-none : (unread : List ℕ) → unread ++ rest ≡ [] → read_record reader u (take k unread) ≡ Err (Short header_length)
  reading-none [] h = rw take-nil (read_none reader u ok)
  reading-none (d ∷ ds) h = let z : ◌≡◌ {A = ℕ} 0 1 = cc in absurd (omega arith)

  pub read_next : (pending : List Message) (unread : List ℕ) → All (ReadableBy reader u wide) pending → unread ++ rest ≡ encode_all wide pending
      → Reading reader u wide pending unread rest (take k unread)
  read_next [] unread f h = none header_length (reading-none unread h)
  read_next (x ∷ xs) unread f h =
      let bytes = take k unread in
      let same : bytes ++ (drop k unread ++ rest) ≡ encode wide x ++ encode_all wide xs
      = sym (append_assoc (take k unread) (drop k unread) rest) ∙ ap (λ (l : List ℕ). l ++ rest) (take-append-drop k unread) ∙ h in
      ⊎_elim
      (λ (l : length bytes < length (encode wide x)).
      none (missing_from (length (encode wide x)) (length bytes))
      (ap (read_record reader u) (part-first bytes (drop k unread ++ rest) (encode wide x) (encode_all wide xs) same)
      ∙ short-message reader u ok wide x f.0.0 f.0.1 (length bytes) (encode_all wide xs) l))
      (λ (l : length (encode wide x) ≤ length bytes).
      let w = whole-first bytes (drop k unread ++ rest) (encode wide x) (encode_all wide xs) same l in
      one x xs refl
      (ap (read_record reader u) w ∙ read-message reader u ok wide x f.0.0 f.0.1 (drop (length (encode wide x)) bytes))
      w
      (whole-rest unread rest (encode wide x) (encode_all wide xs) h (omega (arith, length-take k unread))))
      (lt-or-ge (length bytes) (length (encode wide x)))
