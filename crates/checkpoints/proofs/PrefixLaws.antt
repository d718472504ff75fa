-- A record found in a first part of some bytes is the record of all of them, with the same field. Assumes nothing.
use Rattle.std.specs.Prelude.{Result}
use Prim.Native.Nat.{ℕ, ◌-◌, ◌≤◌}
use mathlib.Core.Path.{◌≡◌, sym, ap, ◌∙◌}
use mathlib.Core.Bool.{Bool, true, false, false≢true}
use mathlib.Core.List.{List}
use native.Mathlib.Omega.{arith}
use lib.ListN.{length, take, drop, length-take}
use lib.Seq.{take-take}
use Rattle.lists.specs.Part.{part}
use Rattle.lists.specs.LittleEndian.{le_at}
use Rattle.lists.proofs.LittleEndianLaws.{le_at-take}
use Rattle.lists.proofs.PartLaws.{drop-take}
use Rattle.records.specs.declared.Cursor.{Cursor}
use Rattle.records.specs.declared.Reader.{Reader}
use Rattle.records.specs.declared.Record.{Record}
use Rattle.records.specs.declared.Unread.{Unread}
use Rattle.records.specs.Kind.{page_kind, commit_kind, body_length, record_length, is_for}
use Rattle.records.specs.declared.Reader.TheVariants.{Test}
use Rattle.records.specs.Read.{fields_of, read_record}
use Rattle.records.proofs.KindLaws.{for-test, kind-cases, record-ge}
use Rattle.records.proofs.ReadLaws.{Whole, is_found, read-cases, read_whole}
use Rattle.rules.specs.Read.{bytes_at}

module _ (u n : ℕ) (s : List ℕ) where
  -- the fields of a kind stand in its own bytes
  pub fields-take : (kind : ℕ) → is_for Test kind ≡ true → record_length u kind ≤ n → fields_of u kind (take n s) ≡ fields_of u kind s
  unfolding fields_of record_length body_length
  fields-take =
      kind-cases (λ (k : ℕ). record_length u k ≤ n → fields_of u k (take n s) ≡ fields_of u k s) pages
      (λ h. rw (le_at-take 4 4 n s (omega arith), le_at-take 2 8 n s (omega arith)))
      (λ h. rw (le_at-take 4 4 n s (omega arith)))
      commits
      (λ h. rw (le_at-take 4 4 n s (omega arith)))
    where
      pages : (wide : Bool) → record_length u (page_kind wide) ≤ n → fields_of u (page_kind wide) (take n s) ≡ fields_of u (page_kind wide) s
      pages false h = rw (le_at-take 4 4 n s (omega arith), le_at-take 2 8 n s (omega arith))
      pages true h = rw (le_at-take 4 4 n s (omega arith), le_at-take 4 8 n s (omega arith))

      commits : (wide : Bool) → record_length u (commit_kind wide) ≤ n → fields_of u (commit_kind wide) (take n s) ≡ fields_of u (commit_kind wide) s
      commits false h = rw (le_at-take 4 4 n s (omega arith), le_at-take 2 8 n s (omega arith), le_at-take 2 10 n s (omega arith))
      commits true h = rw (le_at-take 4 4 n s (omega arith), le_at-take 4 8 n s (omega arith), le_at-take 4 12 n s (omega arith))

  -- a record found in the first n bytes is that of all
  pub read-prefix : (reader : Reader) → is_found (read_record reader u (take n s)) ≡ true → read_record reader u s ≡ read_record reader u (take n s)
  read-prefix reader =
      read-cases (λ (r : Result Record Unread). is_found r ≡ true → read_record reader u s ≡ r) reader u (take n s)
      (λ v f. absurd (false≢true f)) (λ v k f. absurd (false≢true f)) (λ v k f. absurd (false≢true f)) (λ v h f. absurd (false≢true f)) (λ c f. absurd (false≢true f))
      (λ w f. whole w)
    where
      whole : Whole reader u (take n s) → read_record reader u s ≡ fields_of u (le_at 2 (take n s) 2) (take n s)
      whole w =
          let for = for-test reader (le_at 2 (take n s) 2) w.kind in
          let least = record-ge u (le_at 2 (take n s) 2) for in
          let long : length (take n s) ≤ n = omega (arith, length-take n s) in
          let short : length (take n s) ≤ length s = omega (arith, length-take n s) in
          let eight : 8 ≤ n = omega (arith, w.body) in
          let kind : le_at 2 (take n s) 2 ≡ le_at 2 s 2 = le_at-take 2 2 n s (omega arith) in
          let size : le_at 2 (take n s) 0 ≡ le_at 2 s 0 = le_at-take 2 0 n s (omega arith) in
          read_whole reader u s
          (record {
            unit = w.unit;
            kind = rw kind at w.kind;
            size = sym size ∙ w.size ∙ ap (body_length u) kind;
            body = omega (arith, w.body, ap (record_length u) kind);
          })
          ∙ ap (λ (k : ℕ). fields_of u k s) (sym kind)
          ∙ sym (fields-take (le_at 2 (take n s) 2) for (omega (arith, w.body)))

  -- a field that ends in the first n bytes
  pub bytes-prefix : (c : Cursor) → c.end ≤ n → bytes_at c (take n s) ≡ bytes_at c s
  unfolding part
  bytes-prefix c h = ap (take (c.end - c.start)) (drop-take c.start n s) ∙ take-take (c.end - c.start) (n - c.start) (drop c.start s) (omega arith)
