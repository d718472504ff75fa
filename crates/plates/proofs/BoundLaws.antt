-- Laws of whole lines of bytes: more records than there can be are never read, and what is written in hexadecimal is
-- read back. Assumes nothing.
use Rattle.std.specs.Prelude.{Result}
use Prim.Native.Nat.{ℕ, zero, suc, ◌+◌, ◌*◌, ◌/◌, ◌%◌, ◌≤◌, ◌<◌}
use mathlib.Core.Path.{◌≡◌, refl, sym, ap, ◌∙◌}
use mathlib.Core.Logic.{◌⊎◌, inl, inr}
use mathlib.Core.Bool.{Bool, true, false, cond}
use mathlib.Core.List.{List, [], ◌∷◌, ◌++◌}
use native.Mathlib.Omega.{arith}
use lib.Dec.{eqb}
use lib.ListN.{length, drop, get_or, length-drop}
use borrow.Author.Tests.{lt-ltb, le-ltb, ne_eqb, eqb-false}
use Rattle.lists.proofs.TestLaws.{lt-or-ge}
use Rattle.text.specs.Line.{is_empty, space}
use Rattle.records.specs.declared.Reader.{Reader}
use Rattle.records.specs.declared.Reader.TheVariants.{Test}
use Rattle.records.specs.declared.Record.{Record}
use Rattle.records.specs.declared.Unread.{Unread}
use Rattle.records.specs.Cases.{on_found}
use Rattle.records.specs.Read.{read_record, kind_of, used_of}
use Rattle.records.proofs.KindLaws.{for-test, record-ge}
use Rattle.records.proofs.ReadLaws.{is_found, on-found, found-cases, found-facts, read-facts}
use Rattle.plates.specs.Hex.{whole, with_byte, no_digit, digit_of, hex_from, hex_digit, written}
use Rattle.plates.specs.Words.{record_line, end_line, short_line, refused_line}
use Rattle.plates.specs.Plate.{plates_from}
use Rattle.plates.proofs.HexLaws.{digit-decimal, digit-lower}

-- ---- a record has at least 8 bytes
pub used-least : (reader : Reader) (u : ℕ) (s : List ℕ) → is_found (read_record reader u s) ≡ true → 8 ≤ used_of (read_record reader u s)
used-least reader u s h =
    let r = read_record reader u s in
    let f = found-facts reader u s r h (read-facts reader u s) in
    let l = record-ge u (kind_of r) (for-test reader (kind_of r) f.for-reader) in
    let e = f.used in
    omega (arith, e, l)

-- ---- so that any bound above the count of the bytes reads the same
module _ (m n u at : ℕ) (s : List ℕ) where
  -- what is read behind the first record
  abbrev Next : Type 0
  Next = (at' : ℕ) (s' : List ℕ) → length s' < m → length s' < n → plates_from m u at' s' ≡ plates_from n u at' s'

  abbrev behind : ℕ → Result Record Unread → List ℕ
  behind most r = record_line at r ++ plates_from most u (at + used_of r) (drop (used_of r) s)

  abbrev from : ℕ → Result Record Unread → List ℕ
  from most r = on_found r (behind most r) (λ n. short_line at s n) (λ n. refused_line at s n)

  from_found : (most : ℕ) (r : Result Record Unread) → is_found r ≡ true → from most r ≡ behind most r
  from_found most r f = on-found (behind most r) (λ n. short_line at s n) (λ n. refused_line at s n) r f

  next-same : 0 < length s → length s < suc m → length s < suc n → Next → (r : Result Record Unread) → (is_found r ≡ true → 8 ≤ used_of r) → from m r ≡ from n r
  next-same z h k next =
      found-cases (λ r. (is_found r ≡ true → 8 ≤ used_of r) → from m r ≡ from n r)
      (λ r f least. from_found m r f ∙ ap (λ (l : List ℕ). record_line at r ++ l) (same (used_of r) (least f)) ∙ sym (from_found n r f))
      (λ n least. refl)
      (λ n least. refl)
    where
      same : (used : ℕ) → 8 ≤ used → plates_from m u (at + used) (drop used s) ≡ plates_from n u (at + used) (drop used s)
      same used l = let e = length-drop used s in next (at + used) (drop used s) (omega (arith, e)) (omega (arith, e))

  step_same : length s < suc m → length s < suc n → Next → plates_from (suc m) u at s ≡ plates_from (suc n) u at s
  unfolding plates_from
  step_same h k next = go (is_empty s) refl
    where
      go : (t : Bool) → is_empty s ≡ t → cond t (end_line at) (from m (read_record Test u s)) ≡ cond t (end_line at) (from n (read_record Test u s))
      go true e = refl
      go false e = let z = eqb-false (length s) 0 e in next-same (omega arith) h k next (read_record Test u s) (used-least Test u s)

bound-any : (m n u at : ℕ) (s : List ℕ) → length s < m → length s < n → plates_from m u at s ≡ plates_from n u at s
bound-any zero n u at s h k = absurd (omega arith)
bound-any (suc m) zero u at s h k = absurd (omega arith)
bound-any (suc m) (suc n) u at s h k = step_same m n u at s h k (λ at' s' h' k'. bound-any m n u at' s' h' k')

pub plates-bound : (most u at : ℕ) (s : List ℕ) → length s < most → plates_from most u at s ≡ plates_from (length s + 1) u at s
plates-bound most u at s h = bound-any most (length s + 1) u at s h (omega arith)

-- ---- two digits written for each byte are read back
digit-written : (d : ℕ) → d < 16 → (digit_of (hex_digit d) ≡ d) × (eqb (hex_digit d) space ≡ false)
digit-written d h = by (lt-or-ge d 10)
  where
    by : ((d < 10) ⊎ (10 ≤ d)) → (digit_of (hex_digit d) ≡ d) × (eqb (hex_digit d) space ≡ false)
    by (inl k) = rw (lt-ltb d 10 k) (digit-decimal (48 + d) (omega arith) (omega arith) ∙ omega arith, ne_eqb (48 + d) space (λ e. omega arith))
    by (inr k) = rw (le-ltb d 10 k) (digit-lower (87 + d) (omega arith) (omega arith) ∙ omega arith, ne_eqb (87 + d) space (λ e. omega arith))

two_digits : (h l place : ℕ) (s : List ℕ) → h < 16 → l < 16
    → hex_from no_digit place (hex_digit h ∷ hex_digit l ∷ s) ≡ with_byte (16 * h + l) (hex_from no_digit (place + 1 + 1) s)
unfolding hex_from
two_digits h l place s p q =
    let a = digit-written h p in
    let b = digit-written l q in
    rw (a.0, a.1, b.0, b.1, ne_eqb h no_digit (λ e. omega arith), ne_eqb l no_digit (λ e. omega arith))

pub hex-written : (place : ℕ) (bytes : List ℕ) → ((j : ℕ) → get_or bytes j 0 < 256) → hex_from no_digit place (written bytes) ≡ whole bytes
unfolding written hex_from
hex-written place [] low = refl
hex-written place (b ∷ bytes) low =
    let k : b < 256 = low 0 in
    let e : 16 * (b / 16) + b % 16 ≡ b = omega arith in
    two_digits (b / 16) (b % 16) place (written bytes) (omega arith) (omega arith)
    ∙ ap (with_byte (16 * (b / 16) + b % 16)) (hex-written (place + 1 + 1) bytes (λ j. low (suc j)))
    ∙ ap (λ (x : ℕ). whole (x ∷ bytes)) e
