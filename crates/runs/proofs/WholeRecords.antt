-- The record test on bytes that it does not refuse: cut short exactly where they do not begin with a whole record, else
-- of the kind that they say, with that kind's length. Assumes nothing.
use Rattle.std.specs.Prelude.{Result, Err}
use Prim.Native.Nat.{ℕ, ◌+◌, ◌-◌}
use mathlib.Core.Path.{◌≡◌, refl, ap}
use mathlib.Core.Bool.{Bool, true, false, cond, ◌&&◌}
use mathlib.Core.List.{List}
use native.Mathlib.Omega.{arith}
use lib.Dec.{leb, eqb}
use lib.ListN.{length}
use borrow.Author.Tests.{eqb-true}
use Rattle.lists.specs.LittleEndian.{le_at}
use Rattle.records.specs.declared.Record.{Record}
use Rattle.records.specs.declared.Unread.{Unread}
use Rattle.records.specs.declared.Unread.TheVariants.{Short, Refused}
use Rattle.records.specs.declared.Reader.{Reader}
use Rattle.records.specs.Kind.{unit_ok, body_length, record_length, header_length, is_for}
use Rattle.records.specs.Read.{fields_of, read_record, number_of, kind_of, cut_short}
use Rattle.records.proofs.KindLaws.{for-test}
use Rattle.records.proofs.ReadLaws.{fields-cases}
use Rattle.runs.specs.Progress.{whole_record}

-- what an answer says of the bytes: `whole` is whether they begin with a whole record, `kind` its kind, `size` its body's
-- length as it says and `body` as its kind has it
pub record Tells (whole : Bool) (kind size body : ℕ) (r : Result Record Unread) : Type 0 where
  pub short : number_of r ≡ cut_short → whole ≡ false
  pub found : number_of r ≡ 0 → (whole ≡ true) × (kind ≡ kind_of r) × (size ≡ body)

module _ (reader : Reader) (u : ℕ) (s : List ℕ) where
  -- the tests, in their order: b' is the body's by the length that the record says
  by_tests : (f : Result Record Unread) (missing rest : ℕ) (v h i l b b' : Bool) → (l ≡ true → (b' ≡ b) × (le_at 2 s 0 ≡ body_length u (le_at 2 s 2))) → (i ≡ true → (number_of f ≡ 0) × (le_at 2 s 2 ≡ kind_of f))
      → Tells (h && b') (le_at 2 s 2) (le_at 2 s 0) (body_length u (le_at 2 s 2)) (cond v (cond h (cond i (cond l (cond b f (Err (Short rest))) (Err (Refused 7))) (Err (Refused 6))) (Err (Short missing))) (Err (Refused 1)))
  by_tests f missing rest false h i l b b' e t = record { short = λ z. absurd (omega arith); found = λ z. absurd (omega arith) }
  by_tests f missing rest true false i l b b' e t = record { short = λ z. refl; found = λ z. absurd (omega arith) }
  by_tests f missing rest true true false l b b' e t = record { short = λ z. absurd (omega arith); found = λ z. absurd (omega arith) }
  by_tests f missing rest true true true false b b' e t = record { short = λ z. absurd (omega arith); found = λ z. absurd (omega arith) }
  by_tests f missing rest true true true true false b' e t = record { short = λ z. (e refl).0; found = λ z. absurd (omega arith) }
  by_tests f missing rest true true true true true b' e t = record { short = λ z. absurd (omega (arith, (t refl).0)); found = λ z. ((e refl).0, (t refl).1, (e refl).1) }

  fields-tell : is_for reader (le_at 2 s 2) ≡ true → (number_of (fields_of u (le_at 2 s 2) s) ≡ 0) × (le_at 2 s 2 ≡ kind_of (fields_of u (le_at 2 s 2) s))
  fields-tell k =
      let kind = le_at 2 s 2 in
      fields-cases (λ (r : Result Record Unread). (number_of r ≡ 0) × (le_at 2 s 2 ≡ kind_of r)) u kind s (for-test reader kind k) (λ wide e. (refl, e)) (λ e. (refl, e)) (λ e. (refl, e)) (λ wide e. (refl, e)) (λ e. (refl, e))

  body_is : eqb (le_at 2 s 0) (body_length u (le_at 2 s 2)) ≡ true
      → (leb (header_length + le_at 2 s 0) (length s) ≡ leb (record_length u (le_at 2 s 2)) (length s)) × (le_at 2 s 0 ≡ body_length u (le_at 2 s 2))
  unfolding record_length
  body_is e = let same = eqb-true (le_at 2 s 0) (body_length u (le_at 2 s 2)) e in (ap (λ (n : ℕ). leb (header_length + n) (length s)) same, same)

  pub tells : Tells (whole_record s) (le_at 2 s 2) (le_at 2 s 0) (body_length u (le_at 2 s 2)) (read_record reader u s)
  unfolding read_record
  tells =
      let k = le_at 2 s 2 in
      by_tests (fields_of u k s) (header_length - length s) (record_length u k - length s) (unit_ok u) (leb header_length (length s)) (is_for reader k) (eqb (le_at 2 s 0) (body_length u k)) (leb (record_length u k) (length s))
      (leb (header_length + le_at 2 s 0) (length s)) body_is fields-tell
