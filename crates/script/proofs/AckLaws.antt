-- Laws of the unread ACKs, which are kept as the first and the last of their epochs, and of an ACK read by the primary. Assumes nothing.
use Rattle.std.specs.Prelude.{Result}
use Prim.Native.Nat.{ℕ, zero, suc, ◌+◌, ◌-◌, ◌*◌, ◌≤◌, ◌<◌, min}
use mathlib.Core.Path.{◌≡◌, refl, sym, ap, ap₂, ◌∙◌}
use mathlib.Core.Logic.{◌⊎◌, inl, inr, ⊎_elim}
use mathlib.Core.Bool.{cond, true, false}
use mathlib.Core.List.{List, [], ◌++◌, append_assoc, append-nil}
use native.Mathlib.Nat.{add-zero}
use native.Mathlib.Omega.{arith}
use lib.Dec.{eqb}
use lib.ListN.{length, take, drop, length-append}
use lib.Seq.{take_at, drop_at}
use borrow.Author.Tests.{eqb-true, ne_eqb}
use Rattle.lists.proofs.TestLaws.{lt-or-ge}
use Rattle.records.specs.declared.Record.{Record}
use Rattle.records.specs.declared.Unread.{Unread}
use Rattle.records.specs.declared.Reader.TheVariants as reader
use Rattle.records.specs.Kind.{ACK, body_length, record_length}
use Rattle.records.specs.Read.{read_record, kind_of}
use Rattle.records.specs.Write.{ack_record}
use Rattle.records.proofs.FrameLaws.{length-epoch}
use Rattle.records.proofs.ReadLaws.{is_found, found-cases, ReadFacts, found-facts, read-facts}
use Rattle.rules.specs.declared.Primary.{Primary}
use Rattle.rules.specs.Reply.{answer_of, used_of}
use Rattle.rules.specs.Stream.{ack_reply}
use Rattle.rules.proofs.ReplyLaws.{answers}
use Rattle.rules.proofs.StreamLaws.{ack-cases}
use Rattle.text.specs.Line.{is_empty}
use Rattle.script.specs.Site.{acks_from, acks_between}

-- ---- the first of them
pub take-acks : (e n : ℕ) → take 8 (acks_from e (suc n)) ≡ ack_record e
unfolding acks_from
take-acks e n = take_at (ack_record e) (acks_from (suc e) n) 8 (length-epoch ACK e)

pub drop-acks : (e n : ℕ) → drop 8 (acks_from e (suc n)) ≡ acks_from (suc e) n
unfolding acks_from
drop-acks e n = drop_at (ack_record e) (acks_from (suc e) n) 8 (length-epoch ACK e)

-- and the last
acks-one : (e : ℕ) → acks_from e 1 ≡ ack_record e
unfolding acks_from
acks-one e = append-nil (ack_record e)

acks-more : (e n : ℕ) → acks_from e (n + 1) ≡ acks_from e n ++ ack_record (e + n)
unfolding acks_from
acks-more e zero = acks-one e ∙ ap ack_record (sym (add-zero e))
acks-more e (suc n) =
    let s : suc e + n ≡ e + suc n = omega arith in
    let t : suc n + 1 ≡ suc (n + 1) = omega arith in
    ap (acks_from e) t
    ∙ ap (λ (l : List ℕ). ack_record e ++ l) (acks-more (suc e) n)
    ∙ sym (append_assoc (ack_record e) (acks_from (suc e) n) (ack_record (suc e + n)))
    ∙ ap (λ (m : ℕ). acks_from e (suc n) ++ ack_record m) s

-- ---- from a first epoch to a last
acks-count : (first last n : ℕ) → last + 1 - first ≡ n → acks_between first last ≡ acks_from first n
unfolding acks_between
acks-count first last n e = ap (acks_from first) e

pub acks-none : (first last : ℕ) → last < first → acks_between first last ≡ []
unfolding acks_from
acks-none first last h = acks-count first last 0 (omega arith)

module _ (first last : ℕ) (h : first ≤ last) where
  pub take-between : take 8 (acks_between first last) ≡ ack_record first
  take-between = ap (take 8) (acks-count first last (suc (last - first)) (omega arith)) ∙ take-acks first (last - first)

  pub drop-between : drop 8 (acks_between first last) ≡ acks_between (first + 1) last
  drop-between =
      let s : suc first ≡ first + 1 = omega arith in
      ap (drop 8) (acks-count first last (suc (last - first)) (omega arith))
      ∙ drop-acks first (last - first)
      ∙ ap (λ (e : ℕ). acks_from e (last - first)) s
      ∙ sym (acks-count (first + 1) last (last - first) (omega arith))

  -- there is one
  pub acks-some : is_empty (acks_between first last) ≡ false
  unfolding acks_from
  acks-some =
      let e : length (acks_between first last) ≡ 8 + length (acks_from (suc first) (last - first))
      = ap length (acks-count first last (suc (last - first)) (omega arith))
      ∙ length-append (ack_record first) (acks_from (suc first) (last - first))
      ∙ ap (λ (n : ℕ). n + length (acks_from (suc first) (last - first))) (length-epoch ACK first) in
      ne_eqb (length (acks_between first last)) 0 (λ z. omega arith)

-- how many bytes they have
length-acks : (e n : ℕ) → length (acks_from e n) ≡ n * 8
unfolding acks_from
length-acks e zero = refl
length-acks e (suc n) =
    let l : length (ack_record e ++ acks_from (suc e) n) ≡ length (ack_record e) + length (acks_from (suc e) n) = length-append (ack_record e) (acks_from (suc e) n) in
    let k : length (ack_record e) ≡ 8 = length-epoch ACK e in
    let m : length (acks_from (suc e) n) ≡ n * 8 = length-acks (suc e) n in
    omega arith

pub length-between : (first last : ℕ) → length (acks_between first last) ≡ (last + 1 - first) * 8
length-between first last = ap length (acks-count first last (last + 1 - first) refl) ∙ length-acks first (last + 1 - first)

-- one more at the end: where none was unread, it is the first
pub acks-next : (first last : ℕ) → acks_between (min first (last + 1)) (last + 1) ≡ acks_between first last ++ ack_record (last + 1)
acks-next first last =
    ⊎_elim
    (λ (h : last < first).
    let m : min first (last + 1) ≡ last + 1 = omega arith in
    ap (λ (e : ℕ). acks_between e (last + 1)) m
    ∙ acks-count (last + 1) (last + 1) 1 (omega arith)
    ∙ acks-one (last + 1)
    ∙ ap (λ (l : List ℕ). l ++ ack_record (last + 1)) (sym (acks-none first last h)))
    (λ (h : first ≤ last).
    let m : min first (last + 1) ≡ first = omega arith in
    let s : first + (last + 1 - first) ≡ last + 1 = omega arith in
    ap (λ (e : ℕ). acks_between e (last + 1)) m
    ∙ acks-count first (last + 1) (last + 1 - first + 1) (omega arith)
    ∙ acks-more first (last + 1 - first)
    ∙ ap₂ (λ (l : List ℕ) (e : ℕ). l ++ ack_record e) (sym (acks-count first last (last + 1 - first) refl)) s)
    (lt-or-ge last first)

-- ---- an ACK at the primary: an accepted one uses its 8 bytes, else nothing is used
abbrev Used : Result Record Unread → Type 0
Used r = (used_of (answer_of r) ≡ 0) ⊎ (used_of (answer_of r) ≡ 8)

module _ (p : Primary) (bytes : List ℕ) where
  used-found : (r : Result Record Unread) → is_found r ≡ true → ReadFacts reader.Primary p.settings.u bytes r → Used r
  unfolding record_length body_length
  used-found r h f =
      let g = found-facts reader.Primary p.settings.u bytes r h f in
      inr ((answers r).used_is ∙ rw (eqb-true (kind_of r) ACK g.for-reader) at g.used)

  used-read : (r : Result Record Unread) → ReadFacts reader.Primary p.settings.u bytes r → Used r
  used-read = found-cases (λ r. ReadFacts reader.Primary p.settings.u bytes r → Used r) used-found (λ n f. inl refl) (λ n f. inl refl)

  pub ack-used : (used_of (ack_reply p bytes).answer ≡ 0) ⊎ (used_of (ack_reply p bytes).answer ≡ 8)
  unfolding ack_reply
  ack-used =
      ack-cases p bytes Used (λ n. inl refl)
      (λ ok on z. used-read (read_record reader.Primary p.settings.u bytes) (read-facts reader.Primary p.settings.u bytes))

-- what is unread then
pub acks-used : (first last used : ℕ) → first ≤ last → (used ≡ 0) ⊎ (used ≡ 8) → acks_between (cond (eqb used 0) first (first + 1)) last ≡ drop used (acks_between first last)
acks-used first last used h (inl e) = rw e
acks-used first last used h (inr e) = rw e (sym (drop-between first last h))
