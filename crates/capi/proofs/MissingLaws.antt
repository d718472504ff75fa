-- The bytes missing where an answer's word says that a record is cut short (document 02, Job 2): of the same words and
-- lent lengths, what is claimed of the record test. Of words that are no state the answer is 1. Assumes nothing.
use Rattle.std.specs.Prelude.{Result, Ok, Err}
use Rattle.rules.specs.declared.Accepted.{Accepted}
use Rattle.records.specs.declared.Unread.{Unread}
use Rattle.records.specs.declared.Unread.TheVariants.{Short, Refused}
use mathlib.Core.Path.{◌≡◌, sym, ap, ◌∙◌}
use mathlib.Core.List.{List}
use mathlib.Core.Bool.{Bool, true, cond, false≢true}
use mathlib.Core.Logic.{⊎_elim}
use Prim.Native.Nat.{ℕ}
use native.Mathlib.Omega.{arith}
use borrow.Author.Tests.{eqb-true, eq-eqb}
use Rattle.lists.proofs.TestLaws.{by-test}
use Rattle.records.specs.Number.{out_of_range}
use Rattle.records.specs.declared.Reader.{Reader}
use Rattle.records.specs.declared.Reader.TheVariants as reader
use Rattle.records.specs.Read.{cut_short}
use Rattle.records.specs.Missing.{MissingRight}
use Rattle.records.proofs.MissingLaws.{missing-where, missing-as}
use Rattle.rules.specs.declared.ReadLent.{ReadLent}
use Rattle.rules.specs.Reply.{number_of, missing_of}
use Rattle.rules.specs.Stream.{ack_reply}
use Rattle.rules.specs.Judge.{reader_of}
use Rattle.rules.specs.Read.{read_reply}
use Rattle.rules.proofs.MissingLaws.{read-missing, ack-missing}
use Rattle.capi.specs.Word.{answer_number, record_word, SaysMissing}
use Rattle.capi.specs.PrimaryWords.{primary_words_ok, primary_of}
use Rattle.capi.specs.StandbyCalls.{LentStandby, is_standby, standby_in}
use Rattle.capi.proofs.AnswerLaws.{AnsweredFits, record-parts, ack-fits, read_fits}

-- only cut short has its number
says-short : (a : Result Accepted Unread) → AnsweredFits a → (n : ℕ) → SaysMissing (record_word a) n → a ≡ Err (Short n)
says-short (Ok a) f n c =
    let p = record-parts (Ok a) f in
    absurd (omega (arith, p.number_is, eqb-true (answer_number (record_word (Ok a))) cut_short c.0))
says-short (Err (Short missing)) f n c = ap (λ (m : ℕ). Err (Short m)) (sym (record-parts (Err (Short missing)) f).missing_is ∙ c.1)
says-short (Err (Refused number)) f n c =
    let p = record-parts (Err (Refused number)) f in
    absurd (omega (arith, p.number_is, eqb-true (answer_number (record_word (Err (Refused number)))) cut_short c.0))

short-says : (a : Result Accepted Unread) → AnsweredFits a → (n : ℕ) → a ≡ Err (Short n) → SaysMissing (record_word a) n
short-says a f n e =
    let p = record-parts a f in
    (eq-eqb (answer_number (record_word a)) cut_short (p.number_is ∙ ap number_of e), p.missing_is ∙ ap missing_of e)

-- where a state is lent the word is the answer's, else 1
module _ (for : Reader) (u : ℕ) (ok : Bool) (answer : List ℕ → Result Accepted Unread) (fits : ok ≡ true → (bytes : List ℕ) → AnsweredFits (answer bytes)) where
  abbrev Says : List ℕ → ℕ → Type 0
  Says bytes n = SaysMissing (cond ok (record_word (answer bytes)) out_of_range) n

  says-missing : MissingRight for u (λ bytes n. answer bytes ≡ Err (Short n)) → MissingRight for u Says
  says-missing right =
      missing-as for u (λ bytes n. (ok ≡ true) × (answer bytes ≡ Err (Short n))) Says to from (missing-where for u (ok ≡ true) (λ bytes n. answer bytes ≡ Err (Short n)) right)
    where
      lent : (bytes : List ℕ) (n : ℕ) → Says bytes n → ok ≡ true
      lent bytes n c = ⊎_elim (λ e. e) (λ none. absurd (false≢true (rw none at c.0))) (by-test ok)

      to : (bytes : List ℕ) (n : ℕ) → Says bytes n → (ok ≡ true) × (answer bytes ≡ Err (Short n))
      to bytes n c = let e = lent bytes n c in (e, says-short (answer bytes) (fits e bytes) n (rw e at c))

      from : (bytes : List ℕ) (n : ℕ) → (ok ≡ true) × (answer bytes ≡ Err (Short n)) → Says bytes n
      from bytes n c = rw c.0 (short-says (answer bytes) (fits c.0 bytes) n c.1)

-- `primary_acknowledge` and `standby_read`, by what their contracts say of the answer
pub acknowledge-missing : (w : List ℕ)
    → MissingRight reader.Primary (primary_of w).settings.u (λ bytes n. SaysMissing (cond (primary_words_ok w) (record_word (ack_reply (primary_of w) bytes).answer) out_of_range) n)
acknowledge-missing w = says-missing reader.Primary (primary_of w).settings.u (primary_words_ok w) (λ bytes. (ack_reply (primary_of w) bytes).answer) (ack-fits w) (ack-missing (primary_of w))

pub read-word-missing : (w : LentStandby) (l : ReadLent)
    → MissingRight (reader_of (standby_in w)) (standby_in w).settings.u (λ bytes n. SaysMissing (cond (is_standby w) (record_word (read_reply (standby_in w) l bytes).answer) out_of_range) n)
read-word-missing w l = says-missing (reader_of (standby_in w)) (standby_in w).settings.u (is_standby w) (λ bytes. (read_reply (standby_in w) l bytes).answer) (λ e. read_fits (standby_in w) l) (read-missing (standby_in w) l)
