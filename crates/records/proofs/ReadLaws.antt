-- Laws of reading: each answer in its order, and what holds of every answer. Assumes nothing.
use Rattle.std.specs.Prelude.{Result, Ok, Err}
use mathlib.Core.Path.{◌≡◌, refl, subst}
use mathlib.Core.Bool.{Bool, true, false, cond, false≢true}
use mathlib.Core.Logic.{◌⊎◌, inl, inr, ⊎_elim}
use mathlib.Core.List.{List, [], ◌∷◌}
use Prim.Native.Nat.{ℕ, ◌+◌, ◌-◌, ◌^◌, ◌≤◌, ◌<◌}
use native.Mathlib.Omega.{arith}
use lib.Dec.{leb, eqb}
use lib.ListN.{length, get_or}
use types.Run.{OneOf, miss}
use denote.Enum.Declared.{tag_of}
use borrow.Author.Tests.{leb-true, leb-false, eqb-true, le-leb, lt-leb, eq-eqb, ne_eqb}
use Rattle.lists.specs.LittleEndian.{le_at}
use Rattle.lists.proofs.LittleEndianLaws.{le_at-lt}
use Rattle.records.specs.declared.Cursor.{Cursor}
use Rattle.records.specs.declared.Reader.{Reader}
use Rattle.records.specs.declared.Reader.TheVariants.{Test}
use Rattle.records.specs.declared.Record.{Record}
use Rattle.records.specs.declared.Unread.{Unread}
use Rattle.records.specs.declared.Record.TheVariants.{Page, Block, State, Commit, Ack}
use Rattle.records.specs.declared.Unread.TheVariants.{Short, Refused}
use Rattle.records.specs.Number.{bad_kind, bad_length}
use Rattle.records.specs.Kind.{unit_ok, PAGE, BLOCK, STATE, ACK, WIDECOMMIT, page_kind, commit_kind, number_width, number_end, processor_bytes, body_length, header_length, record_length, is_for}
use Rattle.records.specs.Cases.{on_ack, by_kind, on_found}
use Rattle.records.specs.Read.{cursor, page_at, commit_at, fields_of, read_record, cut_short, number_of, other_refusal, kind_of, cursor_of, used_of, missing_of}
use Rattle.records.proofs.KindLaws.{for-test, kind-cases, kind-range, page-length, record-le}
use Rattle.records.specs.contracts.Record.{the_type}

-- ---- the order of reading: one law for each answer

-- a record whose bytes are all there
pub record Whole (reader : Reader) (u : ℕ) (s : List ℕ) : Type 0 where
  pub unit : unit_ok u ≡ true
  pub kind : is_for reader (le_at 2 s 2) ≡ true
  pub size : le_at 2 s 0 ≡ body_length u (le_at 2 s 2)
  pub body : record_length u (le_at 2 s 2) ≤ length s

-- a record whose body is not all there, once its kind and its length have passed
pub record BodyCut (reader : Reader) (u : ℕ) (s : List ℕ) : Type 0 where
  pub unit : unit_ok u ≡ true
  pub header : header_length ≤ length s
  pub kind : is_for reader (le_at 2 s 2) ≡ true
  pub size : le_at 2 s 0 ≡ body_length u (le_at 2 s 2)
  pub body : length s < record_length u (le_at 2 s 2)

module _ (reader : Reader) (u : ℕ) (s : List ℕ) where
  pub read-unit : unit_ok u ≡ false → read_record reader u s ≡ Err (Refused 1)
  unfolding read_record
  read-unit v = rw v

  pub read_whole : Whole reader u s → read_record reader u s ≡ fields_of u (le_at 2 s 2) s
  unfolding read_record record_length
  read_whole w =
      let h : header_length ≤ length s = omega (arith, w.body) in
      rw (w.unit, le-leb _ _ h, w.kind, eq-eqb _ _ w.size, le-leb _ _ w.body)

  pub read-no-body : BodyCut reader u s → read_record reader u s ≡ Err (Short (record_length u (le_at 2 s 2) - length s))
  unfolding read_record
  read-no-body c = rw (c.unit, le-leb _ _ c.header, c.kind, eq-eqb _ _ c.size, lt-leb _ _ c.body)

  module _ (v : unit_ok u ≡ true) where
    pub read-no-header : length s < header_length → read_record reader u s ≡ Err (Short (header_length - length s))
    unfolding read_record
    read-no-header h = rw (v, lt-leb _ _ h)

    module _ (h : header_length ≤ length s) where
      pub read-kind : is_for reader (le_at 2 s 2) ≡ false → read_record reader u s ≡ Err (Refused 6)
      unfolding read_record
      read-kind k = rw (v, le-leb _ _ h, k)

      module _ (k : is_for reader (le_at 2 s 2) ≡ true) where
        pub read_length : (le_at 2 s 0 ≡ body_length u (le_at 2 s 2) → ⊥) → read_record reader u s ≡ Err (Refused 7)
        unfolding read_record
        read_length l = rw (v, le-leb _ _ h, k, ne_eqb _ _ l)

-- ---- the ways through the definitions: a fact of what is read is shown at each answer
pub read-cases : (P : Result Record Unread → Type 0) (reader : Reader) (u : ℕ) (s : List ℕ)
    → (unit_ok u ≡ false → P (Err (Refused 1)))
    → (unit_ok u ≡ true → is_for reader (le_at 2 s 2) ≡ false → P (Err (Refused 6)))
    → (unit_ok u ≡ true → is_for reader (le_at 2 s 2) ≡ true → P (Err (Refused 7)))
    → (unit_ok u ≡ true → length s < header_length → P (Err (Short (header_length - length s))))
    → (BodyCut reader u s → P (Err (Short (record_length u (le_at 2 s 2) - length s))))
    → (Whole reader u s → P (fields_of u (le_at 2 s 2) s))
    → P (read_record reader u s)
unfolding read_record
read-cases P reader u s r1 r6 r7 sh sb f =
    let k = le_at 2 s 2 in
    go (unit_ok u) (leb header_length (length s)) (is_for reader k) (eqb (le_at 2 s 0) (body_length u k)) (leb (record_length u k) (length s))
    r1 r6 r7
    (λ v h. sh v (leb-false header_length (length s) h))
    (λ v h i l b.
    sb (record {
      unit = v;
      header = leb-true header_length (length s) h;
      kind = i;
      size = eqb-true (le_at 2 s 0) (body_length u k) l;
      body = leb-false (record_length u k) (length s) b;
    }))
    (λ v i l b. f (record { unit = v; kind = i; size = eqb-true (le_at 2 s 0) (body_length u k) l; body = leb-true (record_length u k) (length s) b }))
  where
    go : (v h i l b : Bool) → (v ≡ false → P (Err (Refused 1))) → (v ≡ true → i ≡ false → P (Err (Refused 6))) → (v ≡ true → i ≡ true → P (Err (Refused 7)))
        → (v ≡ true → h ≡ false → P (Err (Short (header_length - length s))))
        → (v ≡ true → h ≡ true → i ≡ true → l ≡ true → b ≡ false → P (Err (Short (record_length u (le_at 2 s 2) - length s))))
        → (v ≡ true → i ≡ true → l ≡ true → b ≡ true → P (fields_of u (le_at 2 s 2) s))
        → P (cond v (cond h (cond i (cond l (cond b (fields_of u (le_at 2 s 2) s) (Err (Short (record_length u (le_at 2 s 2) - length s)))) (Err (Refused 7))) (Err (Refused 6))) (Err (Short (header_length - length s)))) (Err (Refused 1)))
    go false h i l b r1 r6 r7 sh sb f = r1 refl
    go true false i l b r1 r6 r7 sh sb f = sh refl refl
    go true true false l b r1 r6 r7 sh sb f = r6 refl refl
    go true true true false b r1 r6 r7 sh sb f = r7 refl refl
    go true true true true false r1 r6 r7 sh sb f = sb refl refl refl refl refl
    go true true true true true r1 r6 r7 sh sb f = f refl refl refl refl

pub fields-cases : (P : Result Record Unread → Type 0) (u kind : ℕ) (s : List ℕ) → is_for Test kind ≡ true
    → ((wide : Bool) → kind ≡ page_kind wide → P (page_at u wide s))
    → (kind ≡ BLOCK → P (Ok (Block (le_at 4 s 4) (le_at 2 s 8) (cursor 10 (record_length u BLOCK)))))
    → (kind ≡ STATE → P (Ok (State (le_at 4 s 4) (cursor 8 (record_length u STATE)))))
    → ((wide : Bool) → kind ≡ commit_kind wide → P (commit_at u wide s))
    → (kind ≡ ACK → P (Ok (Ack (le_at 4 s 4) (cursor 8 (record_length u ACK)))))
    → P (fields_of u kind s)
unfolding fields_of
fields-cases P u kind s h page block state commit ack = kind-cases (λ (k : ℕ). kind ≡ k → P (fields_of u k s)) pages block state commits ack kind h refl
  where
    pages : (wide : Bool) → kind ≡ page_kind wide → P (fields_of u (page_kind wide) s)
    pages false = page false
    pages true = page true

    commits : (wide : Bool) → kind ≡ commit_kind wide → P (fields_of u (commit_kind wide) s)
    commits false = commit false
    commits true = commit true

-- ---- the cases of a record: found, cut short, refused

-- it is of some kind, neither cut short nor refused
abbrev pub is_found : Result Record Unread → Bool
is_found r = on_found r true (λ n. false) (λ n. false)

pub on-found {ℓ} : {A : Type ℓ} (found : A) (short refused : ℕ → A) (r : Result Record Unread) → is_found r ≡ true → on_found r found short refused ≡ found
on-found found short refused (Ok (Page w e p c)) h = refl
on-found found short refused (Ok (Block e n c)) h = refl
on-found found short refused (Ok (State e c)) h = refl
on-found found short refused (Ok (Commit w e p b c)) h = refl
on-found found short refused (Ok (Ack e c)) h = refl
on-found found short refused (Err (Short n)) h = absurd (false≢true h)
on-found found short refused (Err (Refused n)) h = absurd (false≢true h)

pub number-found : (r : Result Record Unread) → is_found r ≡ true → number_of r ≡ 0
number-found = on-found 0 (λ n. cut_short) (λ n. n)

pub other-found : (r : Result Record Unread) → is_found r ≡ true → other_refusal r ≡ bad_kind
other-found = on-found bad_kind (λ n. 0) (λ n. n)

pub missing-found : (r : Result Record Unread) → is_found r ≡ true → missing_of r ≡ 0
missing-found = on-found 0 (λ n. n) (λ n. 0)

-- a fact of every record is shown of those found, of cut short and of refusals
pub found-cases : (P : Result Record Unread → Type 0) → ((r : Result Record Unread) → is_found r ≡ true → P r) → ((n : ℕ) → P (Err (Short n))) → ((n : ℕ) → P (Err (Refused n))) → (r : Result Record Unread) → P r
found-cases P found short refused (Ok (Page w e p c)) = found (Ok (Page w e p c)) refl
found-cases P found short refused (Ok (Block e n c)) = found (Ok (Block e n c)) refl
found-cases P found short refused (Ok (State e c)) = found (Ok (State e c)) refl
found-cases P found short refused (Ok (Commit w e p b c)) = found (Ok (Commit w e p b c)) refl
found-cases P found short refused (Ok (Ack e c)) = found (Ok (Ack e c)) refl
found-cases P found short refused (Err (Short n)) = short n
found-cases P found short refused (Err (Refused n)) = refused n

-- a fact of what is defined by `on_ack` is shown of what an ACK gives, and of the rest
pub on-ack : {A : Type 0} (P : A → Type 0) (ack : ℕ → Cursor → A) (rest : A) (r : Result Record Unread) → ((e : ℕ) (c : Cursor) → r ≡ Ok (Ack e c) → P (ack e c)) → P rest → P (on_ack r ack rest)
on-ack P ack rest (Ok (Page w e p c)) f g = g
on-ack P ack rest (Ok (Block e n c)) f g = g
on-ack P ack rest (Ok (State e c)) f g = g
on-ack P ack rest (Ok (Commit w e p b c)) f g = g
on-ack P ack rest (Ok (Ack e c)) f g = f e c refl
on-ack P ack rest (Err (Short n)) f g = g
on-ack P ack rest (Err (Refused n)) f g = g

-- the last arm of a `match`: a record stands at one of the places in its enum that are left; what is cut short or
-- refused is left with them
abbrev pub LeftIn : List ℕ → Result Record Unread → Type 0
LeftIn places (Ok r) = OneOf places (tag_of the_type r)
LeftIn places (Err u) = Unit {0}

-- behind the arms for cut short and refused all are left, and behind the one for an ACK the other kinds
pub found-arm : (r : Record) → is_found (Ok r) ≡ true
found-arm (Page w e p c) = refl
found-arm (Block e n c) = refl
found-arm (State e c) = refl
found-arm (Commit w e p b c) = refl
found-arm (Ack e c) = refl

pub ack-arm : {A : Type 0} (ack : ℕ → Cursor → A) (rest : A) (r : Result Record Unread) → LeftIn (0 ∷ 1 ∷ 2 ∷ 3 ∷ []) r → on_ack r ack rest ≡ rest
ack-arm ack rest r k =
    on-ack (λ x. x ≡ rest) ack rest r
    (λ e c q. absurd (miss (0 ∷ 1 ∷ 2 ∷ 3 ∷ []) 4 tt (subst (LeftIn (0 ∷ 1 ∷ 2 ∷ 3 ∷ [])) q k)))
    refl

-- and behind those for PAGE, BLOCK, STATE and COMMIT
pub other_arm : {A : Type 0} (page block : ℕ → ℕ → Cursor → A) (state : ℕ → Cursor → A) (commit : ℕ → ℕ → ℕ → Cursor → A) (rest : A) (r : Result Record Unread)
    → LeftIn (4 ∷ []) r → by_kind r page block state commit rest ≡ rest
other_arm page block state commit rest (Ok (Page w e p c)) k = absurd (miss (4 ∷ []) 0 tt k)
other_arm page block state commit rest (Ok (Block e n c)) k = absurd (miss (4 ∷ []) 1 tt k)
other_arm page block state commit rest (Ok (State e c)) k = absurd (miss (4 ∷ []) 2 tt k)
other_arm page block state commit rest (Ok (Commit w e p b c)) k = absurd (miss (4 ∷ []) 3 tt k)
other_arm page block state commit rest (Ok (Ack e c)) k = refl
other_arm page block state commit rest (Err u) k = refl

-- ---- what holds of every answer

-- a record of a kind, whose field of bytes is size long
pub record RecordFacts (reader : Reader) (u : ℕ) (s : List ℕ) (kind size : ℕ) (at : Cursor) : Type 0 where
  pub unit : unit_ok u ≡ true
  pub for-reader : is_for reader kind ≡ true
  pub used : at.end ≡ record_length u kind
  pub inside : at.end ≤ length s
  pub ordered : at.start ≤ at.end
  pub span : at.end ≡ at.start + size

-- the length of its field of bytes
abbrev pub size_of : ℕ → Result Record Unread → ℕ
size_of u r = by_kind r (λ e p c. u) (λ e n c. u) (λ e c. processor_bytes) (λ e p b c. 0) 0

-- why it is refused: U, or the kind and the length
abbrev pub RefusedFacts : ℕ → ℕ → Type 0
RefusedFacts u n = ((n ≡ 1) × (unit_ok u ≡ false)) ⊎ ((unit_ok u ≡ true) × ((n ≡ 6) ⊎ (n ≡ 7)))

-- where it is cut short, and what is missing: of the header, or of the body
abbrev pub ShortFacts : Reader → ℕ → List ℕ → ℕ → Type 0
ShortFacts reader u s n =
    (unit_ok u ≡ true)
    × (((length s < header_length) × (n ≡ header_length - length s)) ⊎ (BodyCut reader u s × (n ≡ record_length u (le_at 2 s 2) - length s)))

abbrev pub ReadFacts : Reader → ℕ → List ℕ → Result Record Unread → Type 0
ReadFacts reader u s r = on_found r (RecordFacts reader u s (kind_of r) (size_of u r) (cursor_of r)) (ShortFacts reader u s) (RefusedFacts u)

pub found-facts : (reader : Reader) (u : ℕ) (s : List ℕ) (r : Result Record Unread) → is_found r ≡ true → ReadFacts reader u s r
    → RecordFacts reader u s (kind_of r) (size_of u r) (cursor_of r)
found-facts reader u s r h f = subst (λ (X : Type 0). X) (on-found (RecordFacts reader u s (kind_of r) (size_of u r) (cursor_of r)) (ShortFacts reader u s) (RefusedFacts u) r h) f

pub found-kind : (reader : Reader) (u : ℕ) (s : List ℕ) (r : Result Record Unread) → is_found r ≡ true → ReadFacts reader u s r → (PAGE ≤ kind_of r) × (kind_of r ≤ WIDECOMMIT)
found-kind reader u s r h f = kind-range (kind_of r) (for-test reader (kind_of r) (found-facts reader u s r h f).for-reader)

pub refused-number : (u n : ℕ) → RefusedFacts u n → (0 < n) × (n ≤ 7)
refused-number u n = ⊎_elim (λ a. (omega arith, omega arith)) (λ a. ⊎_elim (λ b. (omega arith, omega arith)) (λ b. (omega arith, omega arith)) a.1)

pub read-facts : (reader : Reader) (u : ℕ) (s : List ℕ) → ReadFacts reader u s (read_record reader u s)
unfolding record_length body_length
read-facts reader u s =
    read-cases (ReadFacts reader u s) reader u s
    (λ v. inl (refl, v))
    (λ v k. inr (v, inl refl))
    (λ v k. inr (v, inr refl))
    (λ v h. (v, inl (h, refl)))
    (λ c. (c.unit, inr (c, refl)))
    (λ w. fields-cases (ReadFacts reader u s) u (le_at 2 s 2) s (for-test reader (le_at 2 s 2) w.kind)
    (λ wide e. found w e (number_end wide) u (omega (arith, page-length u wide)))
    (λ e. found w e 10 u (omega arith))
    (λ e. found w e 8 processor_bytes refl)
    (λ wide e. found w e (record_length u (commit_kind wide)) 0 (omega arith))
    (λ e. found w e 8 0 refl))
  where
    found : Whole reader u s → {kind : ℕ} → le_at 2 s 2 ≡ kind → (start size : ℕ) → record_length u kind ≡ start + size
        → RecordFacts reader u s kind size (cursor start (record_length u kind))
    found w e start size h =
        record { unit = w.unit; for-reader = rw e at w.kind; used = refl; inside = rw e at w.body; ordered = omega arith; span = h }

-- the same in numbers, for every answer alike
pub record ReadRanges (reader : Reader) (s : List ℕ) (r : Result Record Unread) : Type 0 where
  pub number : number_of r ≤ cut_short
  pub kind : kind_of r ≤ WIDECOMMIT
  pub for-reader : number_of r ≡ 0 → is_for reader (kind_of r) ≡ true
  pub used : used_of r ≤ 4108
  pub within : used_of r ≤ length s
  pub missing : missing_of r ≤ 4104
  pub other : other_refusal r ≤ bad_length

pub read-ranges : (reader : Reader) (u : ℕ) (s : List ℕ) → ReadRanges reader s (read_record reader u s)
read-ranges reader u s = go (read_record reader u s) (read-facts reader u s)
  where
    used_le : {kind size : ℕ} {at : Cursor} → RecordFacts reader u s kind size at → at.end ≤ 4108
    used_le {kind} f = rw f.used (record-le u kind f.unit (for-test reader kind f.for-reader))

    found : (r : Result Record Unread) → is_found r ≡ true → ReadFacts reader u s r → ReadRanges reader s r
    found r h f =
        let g = found-facts reader u s r h f in
        let n = number-found r h in
        record { number = omega arith; kind = (found-kind reader u s r h f).1; for-reader = λ z. g.for-reader; used = used_le g; within = g.inside; missing = omega (arith, missing-found r h); other = omega (arith, other-found r h) }

    short : (n : ℕ) → ShortFacts reader u s n → n ≤ 4104
    short n f =
        ⊎_elim (λ h. omega arith)
        (λ c. omega (arith, c.0.header, record-le u (le_at 2 s 2) f.0 (for-test reader (le_at 2 s 2) c.0.kind))) f.1

    go : (r : Result Record Unread) → ReadFacts reader u s r → ReadRanges reader s r
    go = found-cases (λ r. ReadFacts reader u s r → ReadRanges reader s r) found
        (λ n f. record { number = omega arith; kind = omega arith; for-reader = λ z. absurd (omega arith); used = omega arith; within = omega arith; missing = short n f; other = omega arith })
        (λ n f. let h = refused-number u n f in record { number = omega arith; kind = omega arith; for-reader = λ z. absurd (omega arith); used = omega arith; within = omega arith; missing = omega arith; other = omega arith })

-- a record never uses more bytes than there are
pub read-within : (reader : Reader) (u : ℕ) (s : List ℕ) → used_of (read_record reader u s) ≤ length s
read-within reader u s = (read-ranges reader u s).within

-- of bytes, each number that is read fits its field
abbrev pub FieldsFit : Result Record Unread → Type 0
FieldsFit (Ok (Page w e p c)) = (e < 2 ^ 32) × (p < 256 ^ number_width w)
FieldsFit (Ok (Block e n c)) = (e < 2 ^ 32) × (n < 2 ^ 16)
FieldsFit (Ok (State e c)) = e < 2 ^ 32
FieldsFit (Ok (Commit w e p b c)) = (e < 2 ^ 32) × (p < 256 ^ number_width w) × (b < 256 ^ number_width w)
FieldsFit (Ok (Ack e c)) = e < 2 ^ 32
FieldsFit (Err (Short n)) = Unit {0}
FieldsFit (Err (Refused n)) = Unit {0}

pub read_fits : (reader : Reader) (u : ℕ) (s : List ℕ) → ((j : ℕ) → get_or s j 0 < 256) → FieldsFit (read_record reader u s)
read_fits reader u s h =
    let e = le_at-lt 4 4 s h in
    read-cases FieldsFit reader u s (λ v. tt) (λ v k. tt) (λ v k. tt) (λ v h. tt) (λ c. tt)
    (λ w. fields-cases FieldsFit u (le_at 2 s 2) s (for-test reader (le_at 2 s 2) w.kind)
    (λ wide k. (e, le_at-lt (number_width wide) 8 s h)) (λ k. (e, le_at-lt 2 8 s h)) (λ k. e)
    (λ wide k. (e, le_at-lt (number_width wide) 8 s h, le_at-lt (number_width wide) (number_end wide) s h)) (λ k. e))
