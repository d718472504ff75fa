-- Laws of the bytes missing where a record is cut short (document 02, Job 2). Assumes nothing.
use Rattle.std.specs.Prelude.{Result, Err}
use mathlib.Core.Path.{◌≡◌, refl, sym, ap, ◌∙◌}
use mathlib.Core.Bool.{true, false≢true}
use mathlib.Core.Logic.{⊎_elim}
use mathlib.Core.List.{List, ◌++◌}
use Prim.Native.Nat.{ℕ, ◌+◌, ◌-◌, ◌≤◌, ◌<◌}
use native.Mathlib.Omega.{arith}
use lib.ListN.{length, length-append}
use lib.Seq.{take-append_seam}
use Rattle.lists.specs.LittleEndian.{le_at}
use Rattle.lists.proofs.LittleEndianLaws.{le_at-take}
use Rattle.records.specs.declared.Reader.{Reader}
use Rattle.records.specs.declared.Record.{Record}
use Rattle.records.specs.declared.Unread.{Unread}
use Rattle.records.specs.declared.Unread.TheVariants.{Short}
use Rattle.records.specs.Kind.{unit_ok, body_length, header_length, record_length, is_for}
use Rattle.records.specs.Read.{fields_of, read_record, used_of}
use Rattle.records.specs.Missing.{MissingRight}
use Rattle.records.proofs.KindLaws.{for-test}
use Rattle.records.proofs.ReadLaws.{Whole, BodyCut, read_whole, read-no-header, read-no-body, fields-cases, is_found, ShortFacts, read-facts}

module _ (reader : Reader) (u : ℕ) where
  module _ (s : List ℕ) (n : ℕ) (e : read_record reader u s ≡ Err (Short n)) where
    short-facts : ShortFacts reader u s n
    short-facts = rw e at (read-facts reader u s)

    missing-range : unit_ok u ≡ true
    missing-range = short-facts.0

    missing-passed : header_length ≤ length s → (is_for reader (le_at 2 s 2) ≡ true) × (le_at 2 s 0 ≡ body_length u (le_at 2 s 2))
    missing-passed h = ⊎_elim (λ a. absurd (omega arith)) (λ c. (c.0.kind, c.0.size)) short-facts.1

    missing-header : length s < header_length → length s + n ≡ header_length
    missing-header h = ⊎_elim (λ a. omega arith) (λ c. absurd (omega (arith, c.0.header))) short-facts.1

    missing-body : header_length ≤ length s → length s + n ≡ header_length + le_at 2 s 0
    unfolding record_length
    missing-body h = ⊎_elim (λ a. absurd (omega arith)) (λ c. omega (arith, c.0.size, c.0.body)) short-facts.1

    pub missing-some : 0 < n
    missing-some = ⊎_elim (λ a. omega arith) (λ c. omega (arith, c.0.body)) short-facts.1

  -- of bytes that have the header, the fields are the same with more behind them
  header-same : (s t : List ℕ) (i : ℕ) → i + 2 ≤ length s → le_at 2 (s ++ t) i ≡ le_at 2 s i
  header-same s t i h = sym (le_at-take 2 i (length s) (s ++ t) h) ∙ ap (λ (l : List ℕ). le_at 2 l i) (take-append_seam s t)

  module _ (s t : List ℕ) (c : BodyCut reader u s) where
    kind-same : le_at 2 (s ++ t) 2 ≡ le_at 2 s 2
    kind-same = header-same s t 2 c.header

    kind-passes : is_for reader (le_at 2 (s ++ t) 2) ≡ true
    kind-passes = rw kind-same c.kind

    size-passes : le_at 2 (s ++ t) 0 ≡ body_length u (le_at 2 (s ++ t) 2)
    size-passes = rw (header-same s t 0 (omega (arith, c.header)), kind-same) c.size

    -- with all that is missing, or more, it is a whole record, as long as was told
    body-completes : record_length u (le_at 2 s 2) ≤ length (s ++ t) → (is_found (read_record reader u (s ++ t)) ≡ true) × (used_of (read_record reader u (s ++ t)) ≡ record_length u (le_at 2 s 2))
    body-completes h =
        let w : Whole reader u (s ++ t) = record { unit = c.unit; kind = kind-passes; size = size-passes; body = rw kind-same h } in
        let e = read_whole reader u (s ++ t) w ∙ ap (λ (k : ℕ). fields_of u k (s ++ t)) kind-same in
        rw e
        (fields-cases (λ (r : Result Record Unread). (is_found r ≡ true) × (used_of r ≡ record_length u (le_at 2 s 2))) u (le_at 2 s 2) (s ++ t) (for-test reader (le_at 2 s 2) c.kind)
        (λ wide k. (refl, ap (record_length u) (sym k))) (λ k. (refl, ap (record_length u) (sym k))) (λ k. (refl, ap (record_length u) (sym k))) (λ wide k. (refl, ap (record_length u) (sym k))) (λ k. (refl, ap (record_length u) (sym k))))

    -- with fewer it is short of the rest
    body-short : length (s ++ t) < record_length u (le_at 2 s 2) → read_record reader u (s ++ t) ≡ Err (Short (record_length u (le_at 2 s 2) - length (s ++ t)))
    body-short h =
        read-no-body reader u (s ++ t)
        (record { unit = c.unit; header = omega (arith, c.header, length-append s t); kind = kind-passes; size = size-passes; body = rw kind-same h })
        ∙ ap (λ (k : ℕ). Err (Short (record_length u k - length (s ++ t)))) kind-same

  module _ (s t : List ℕ) (n : ℕ) (e : read_record reader u s ≡ Err (Short n)) where
    -- "how many more bytes would complete it": once the header has come, a whole record of exactly these bytes
    pub missing-completes : header_length ≤ length s → n ≤ length t → (is_found (read_record reader u (s ++ t)) ≡ true) × (used_of (read_record reader u (s ++ t)) ≡ length s + n)
    missing-completes h long =
        let len = length-append s t in
        ⊎_elim (λ a. absurd (omega arith))
        (λ c. let w = body-completes s t c.0 (omega arith) in (w.0, omega (arith, w.1, c.0.body)))
        (short-facts s n e).1

    pub missing-enough : (m : ℕ) → n ≤ length t → read_record reader u (s ++ t) ≡ Err (Short m) → (length s < header_length) × (header_length ≤ length (s ++ t))
    missing-enough m long again =
        let len = length-append s t in
        ⊎_elim (λ a. (a.0, omega arith))
        (λ c. absurd (false≢true (ap is_found (sym again) ∙ (missing-completes c.0.header long).0)))
        (short-facts s n e).1

    pub missing-exact : length t < n → read_record reader u (s ++ t) ≡ Err (Short (n - length t))
    missing-exact few =
        let len = length-append s t in
        ⊎_elim
        (λ a. read-no-header reader u (s ++ t) (short-facts s n e).0 (omega arith) ∙ ap (λ (n : ℕ). Err (Short n)) (omega arith))
        (λ c. body-short s t c.0 (omega (arith, c.0.body)) ∙ ap (λ (n : ℕ). Err (Short n)) (omega (arith, c.0.body)))
        (short-facts s n e).1

-- of the record test, and of each reader
pub record-missing : (reader : Reader) (u : ℕ) → MissingRight reader u (λ s n. read_record reader u s ≡ Err (Short n))
record-missing reader u =
    record {
      range = missing-range reader u;
      header = missing-header reader u;
      passed = missing-passed reader u;
      body = missing-body reader u;
      some = missing-some reader u;
      enough = λ s t n m e. missing-enough reader u s t n e m;
      exact = missing-exact reader u;
    }

-- ---- of a reader that answers the same
module _ (reader : Reader) (u : ℕ) where
  -- where something holds besides that does not depend on the bytes
  pub missing-where : (P : Type 0) (cut : List ℕ → ℕ → Type 0) → MissingRight reader u cut → MissingRight reader u (λ s n. P × cut s n)
  missing-where P cut f =
      record {
        range = λ s n c. f.range s n c.1;
        header = λ s n c. f.header s n c.1;
        passed = λ s n c. f.passed s n c.1;
        body = λ s n c. f.body s n c.1;
        some = λ s n c. f.some s n c.1;
        enough = λ s t n m c long d. f.enough s t n m c.1 long d.1;
        exact = λ s t n c few. (c.0, f.exact s t n c.1 few);
      }

  -- in other terms
  pub missing-as : (cut other : List ℕ → ℕ → Type 0) → ((s : List ℕ) (n : ℕ) → other s n → cut s n) → ((s : List ℕ) (n : ℕ) → cut s n → other s n)
      → MissingRight reader u cut → MissingRight reader u other
  missing-as cut other to from f =
      record {
        range = λ s n c. f.range s n (to s n c);
        header = λ s n c. f.header s n (to s n c);
        passed = λ s n c. f.passed s n (to s n c);
        body = λ s n c. f.body s n (to s n c);
        some = λ s n c. f.some s n (to s n c);
        enough = λ s t n m c long d. f.enough s t n m (to s n c) long (to (s ++ t) m d);
        exact = λ s t n c few. from (s ++ t) (n - length t) (f.exact s t n (to s n c) few);
      }
