-- The bytes missing where a call that reads a record is cut short (document 02, Job 2): of the same state and the same
-- lent lengths, what is claimed of the record test. Assumes nothing.
use Rattle.rules.specs.declared.Accepted.{Accepted}
use Rattle.records.specs.declared.Unread.TheVariants.{Short}
use Rattle.std.specs.Prelude.{Result, Err}
use mathlib.Core.Path.{◌≡◌, refl, ap}
use mathlib.Core.Bool.{Bool, true, false, cond, ◌&&◌}
use mathlib.Core.List.{List}
use Prim.Native.Nat.{ℕ}
use native.Mathlib.Omega.{arith}
use Rattle.records.specs.Number.{out_of_range, wrong_mode}
use Rattle.records.specs.declared.Reader.{Reader}
use Rattle.records.specs.declared.Reader.TheVariants as reader
use Rattle.records.specs.declared.Record.{Record}
use Rattle.records.specs.declared.Unread.{Unread}
use Rattle.records.specs.declared.Unread.TheVariants as unread
use Rattle.records.specs.Read.{read_record}
use Rattle.records.specs.Missing.{MissingRight}
use Rattle.records.proofs.ReadLaws.{found-cases}
use Rattle.records.proofs.MissingLaws.{record-missing, missing-where, missing-as}
use Rattle.rules.specs.declared.Primary.{Primary}
use Rattle.rules.specs.declared.Standby.{Standby}
use Rattle.rules.specs.declared.ReadLent.{ReadLent}
use Rattle.rules.specs.Reply.{number_of, unless_refused, answer_of}
use Rattle.rules.specs.PrimaryState.{primary_ok, protected}
use Rattle.rules.specs.StandbyState.{standby_ok, is_receiving}
use Rattle.rules.specs.Stream.{ack_refusal, ack_judged, ack_reply}
use Rattle.rules.specs.Judge.{read_lent_ok, record_refusal, reader_of, judged}
use Rattle.rules.specs.Read.{read_reply}
use Rattle.rules.proofs.ReplyLaws.{answer-found, unless-cases}

-- only what is cut short is answered so
answer-short : (n : ℕ) (r : Result Record Unread) → answer_of r ≡ Err (Short n) → r ≡ Err (unread.Short n)
answer-short n =
    found-cases (λ r. answer_of r ≡ Err (Short n) → r ≡ Err (unread.Short n))
    (λ r h e. let a = answer-found r h in cc) (λ m e. cc) (λ m e. cc)

-- a call that reads a record behind a test of its state and one of its mode, with a refusal of its own
module _ (for : Reader) (u : ℕ) (in_range in_mode : Bool) (refuse : Result Record Unread → ℕ) (passes : (n : ℕ) → refuse (Err (unread.Short n)) ≡ 0) where
  abbrev answered : List ℕ → Result Accepted Unread
  answered bytes =
      let r = read_record for u bytes in
      answer_of (cond in_range (cond in_mode (unless_refused (refuse r) r) (Err (unread.Refused wrong_mode))) (Err (unread.Refused out_of_range)))

  abbrev Cut : List ℕ → ℕ → Type 0
  Cut bytes n = ((in_range ≡ true) × (in_mode ≡ true)) × (read_record for u bytes ≡ Err (unread.Short n))

  call-missing : MissingRight for u (λ bytes n. answered bytes ≡ Err (Short n))
  call-missing = missing-as for u Cut (λ bytes n. answered bytes ≡ Err (Short n)) to from
      (missing-where for u ((in_range ≡ true) × (in_mode ≡ true)) (λ bytes n. read_record for u bytes ≡ Err (unread.Short n)) (record-missing for u))
    where
      by : (a b : Bool) (k n : ℕ) (r : Result Record Unread)
          → answer_of (cond a (cond b (unless_refused k r) (Err (unread.Refused wrong_mode))) (Err (unread.Refused out_of_range))) ≡ Err (Short n)
          → ((a ≡ true) × (b ≡ true)) × (r ≡ Err (unread.Short n))
      by false b k n r e = absurd (omega (arith, ap number_of e))
      by true false k n r e = absurd (omega (arith, ap number_of e))
      by true true k n r e =
          ((refl, refl), unless-cases k r (λ (x : Result Record Unread). answer_of x ≡ Err (Short n) → r ≡ Err (unread.Short n)) (λ z. answer-short n r) (λ z q. cc) e)

      to : (bytes : List ℕ) (n : ℕ) → answered bytes ≡ Err (Short n) → Cut bytes n
      to bytes n = by in_range in_mode (refuse (read_record for u bytes)) n (read_record for u bytes)

      from : (bytes : List ℕ) (n : ℕ) → Cut bytes n → answered bytes ≡ Err (Short n)
      from bytes n c = rw (c.0.0, c.0.1, c.1, passes n)

-- the standby's read
pub read-missing : (s : Standby) (l : ReadLent) → MissingRight (reader_of s) s.settings.u (λ bytes n. (read_reply s l bytes).answer ≡ Err (Short n))
unfolding read_reply judged
read-missing s l = call-missing (reader_of s) s.settings.u (standby_ok s && read_lent_ok s l) (is_receiving s.mode) (record_refusal s l.reply) (λ n. refl)

-- the primary's ACK
pub ack-missing : (p : Primary) → MissingRight reader.Primary p.settings.u (λ bytes n. (ack_reply p bytes).answer ≡ Err (Short n))
unfolding ack_reply ack_judged
ack-missing p = call-missing reader.Primary p.settings.u (primary_ok p) (protected p) (ack_refusal p) (λ n. refl)
