-- How much is missing (document 02, Job 2): what is claimed of the number that a reader tells of bytes cut short. What
-- it answers is a parameter, since the record test, the calls above it and their words for C claim the same. Assumes
-- nothing.
use Rattle.std.specs.Prelude.{ℕ, ◌+◌, ◌-◌, ◌≤◌, ◌<◌, ◌≡◌, true, cond, List, ◌++◌, leb, length}
use Rattle.lists.specs.LittleEndian.{le_at}
use Rattle.records.specs.declared.Reader.{Reader}
use Rattle.records.specs.Kind.{unit_ok, header_length, body_length, is_for}

-- of a record of so many bytes of which the first n are there: the rest of its header, then of the whole
abbrev pub missing_from : (whole n : ℕ) → ℕ
missing_from whole n = cond (leb header_length n) (whole - n) (header_length - n)

-- cut s n: a reader, with this U, answers of the bytes s that they are cut short and that n are missing
pub record MissingRight (reader : Reader) (u : ℕ) (cut : List ℕ → ℕ → Type 0) : Type 0 where
  -- 1 comes before it
  pub range : (s : List ℕ) (n : ℕ) → cut s n → unit_ok u ≡ true
  -- "4 less the bytes present for the header"
  pub header : (s : List ℕ) (n : ℕ) → cut s n → length s < header_length → length s + n ≡ header_length
  -- ".. once kind and length have passed": 6 and 7 come before it
  pub passed : (s : List ℕ) (n : ℕ) → cut s n → header_length ≤ length s → (is_for reader (le_at 2 s 2) ≡ true) × (le_at 2 s 0 ≡ body_length u (le_at 2 s 2))
  -- "then the rest of the body", which is as long as the header says
  pub body : (s : List ℕ) (n : ℕ) → cut s n → header_length ≤ length s → length s + n ≡ header_length + le_at 2 s 0
  -- at least one byte is missing
  pub some : (s : List ℕ) (n : ℕ) → cut s n → 0 < n
  -- "Given that many further bytes, ..": with these or more behind them they are cut short again only by having passed
  -- from the header to the body
  pub enough : (s t : List ℕ) (n m : ℕ) → cut s n → n ≤ length t → cut (s ++ t) m → (length s < header_length) × (header_length ≤ length (s ++ t))
  -- with fewer behind them exactly the rest is missing: nothing less would do
  pub exact : (s t : List ℕ) (n : ℕ) → cut s n → length t < n → cut (s ++ t) (n - length t)
