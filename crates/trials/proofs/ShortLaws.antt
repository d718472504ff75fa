-- A read that is cut short leaves less than a record on the link. Assumes nothing.
use Rattle.std.specs.Prelude.{Result, Ok, Err}
use Prim.Native.Nat.{ℕ, ◌≤◌, ◌<◌}
use mathlib.Core.Path.{◌≡◌, sym, subst}
use mathlib.Core.Logic.{⊎_elim}
use mathlib.Core.Bool.{Bool, true, false, cond, ◌&&◌}
use mathlib.Core.List.{List, [], ◌∷◌}
use native.Mathlib.Omega.{arith}
use lib.ListN.{length}
use Rattle.lists.specs.LittleEndian.{le_at}
use Rattle.lists.specs.Refusal.{Test, refusal}
use Rattle.records.specs.declared.Record.{Record}
use Rattle.records.specs.declared.Unread.{Unread}
use Rattle.records.specs.declared.Record.TheVariants.{Page, Block, State, Commit, Ack}
use Rattle.records.specs.declared.Unread.TheVariants.{Short, Refused}
use Rattle.records.specs.declared.Reader.{Reader}
use Rattle.records.specs.declared.Reader.TheVariants.{Test as test}
use Rattle.records.specs.Kind.{is_for, body_length, record_length}
use Rattle.records.specs.Read.{read_record, cut_short}
use Rattle.records.specs.Number.{out_of_range, wrong_mode}
use Rattle.records.proofs.KindLaws.{for-test, kind-cases, width-range, page-length, commit-length}
use Rattle.records.proofs.ReadLaws.{found-cases, ReadFacts, ShortFacts, read-facts, refused-number, number-found}
use Rattle.rules.specs.declared.Standby.{Standby}
use Rattle.rules.specs.declared.ReadLent.{ReadLent}
use Rattle.rules.specs.StandbyState.{standby_ok, is_receiving}
use Rattle.rules.specs.Reply.{number_of, answer_of, unless_refused}
use Rattle.rules.specs.Judge.{read_lent_ok, page_tests, page_refusal, block_tests, block_refusal, state_tests, state_refusal, commit_tests, commit_refusal, free_for, record_refusal, reader_of, judged}
use Rattle.rules.specs.Read.{read_reply}
use Rattle.rules.proofs.ReplyLaws.{unless-cases, answers}

-- ---- no number is cut short's
abbrev Low : List Test → Type 0
Low [] = Unit {0}
Low (t ∷ ts) = (t.number < cut_short) × Low ts

refusal-low : (ts : List Test) → Low ts → refusal ts < cut_short
refusal-low [] l = omega arith
refusal-low (t ∷ ts) l = by t.holds (refusal-low ts l.1)
  where
    by : (b : Bool) → refusal ts < cut_short → cond b (refusal ts) t.number < cut_short
    by true h = h
    by false h = l.0

module _ (s : Standby) (reply : ℕ) (bytes : List ℕ) where
  refused-low : (r : Result Record Unread) → ReadFacts (reader_of s) s.settings.u bytes r → record_refusal s reply r < cut_short
  unfolding page_refusal block_refusal state_refusal commit_refusal
  refused-low (Ok (Page w e p c)) f = refusal-low (page_tests s e p) (omega arith, (omega arith, (omega arith, tt)))
  refused-low (Ok (Block e n c)) f = refusal-low (block_tests s (free_for s) e n) (omega arith, (omega arith, (omega arith, (omega arith, (omega arith, tt)))))
  refused-low (Ok (State e c)) f = refusal-low (state_tests s e) (omega arith, (omega arith, tt))
  refused-low (Ok (Commit w e p b c)) f = refusal-low (commit_tests s reply e p b) (omega arith, (omega arith, (omega arith, (omega arith, tt))))
  refused-low (Ok (Ack e c)) f = omega arith
  refused-low (Err (Short n)) f = omega arith
  refused-low (Err (Refused n)) f = let h = refused-number s.settings.u n f in omega arith

-- ---- with U 64 no record has more than 76 bytes
record-short : (kind : ℕ) → is_for test kind ≡ true → record_length 64 kind ≤ 76
unfolding record_length body_length
record-short =
    kind-cases (λ (k : ℕ). record_length 64 k ≤ 76)
    (λ w. let n = width-range w in omega (arith, page-length 64 w)) (omega arith) (omega arith) (λ w. let n = width-range w in omega (arith, commit-length 64 w)) (omega arith)

module _ (reader : Reader) (bytes : List ℕ) where
  abbrev Left : Result Record Unread → Type 0
  Left r = number_of (answer_of r) ≡ cut_short → length bytes ≤ 75

  left-refused : (n : ℕ) → n < cut_short → Left (Err (Refused n))
  left-refused n h e = absurd (omega arith)

  left-short : (n : ℕ) → ShortFacts reader 64 bytes n → length bytes ≤ 75
  left-short n f =
      ⊎_elim (λ h. omega (arith, h.0)) (λ c. omega (arith, c.0.body, record-short (le_at 2 bytes 2) (for-test reader (le_at 2 bytes 2) c.0.kind))) f.1

  left-read : Left (read_record reader 64 bytes)
  left-read =
      found-cases (λ r. ReadFacts reader 64 bytes r → Left r)
      (λ r h f e. let n = number-found r h in let k = (answers r).number_is in absurd (omega arith))
      (λ n f e. left-short n f)
      (λ n f e. let h = refused-number 64 n f in absurd (omega arith))
      (read_record reader 64 bytes) (read-facts reader 64 bytes)

pub read_short : (s : Standby) (l : ReadLent) (bytes : List ℕ) → s.settings.u ≡ 64 → number_of (read_reply s l bytes).answer ≡ cut_short → length bytes ≤ 75
unfolding read_reply judged
read_short s l bytes unit = go (standby_ok s && read_lent_ok s l) (is_receiving s.mode)
  where
    read : Result Record Unread
    read = read_record (reader_of s) s.settings.u bytes

    go : (a b : Bool) → Left (reader_of s) bytes (cond a (cond b (unless_refused (record_refusal s l.reply read) read) (Err (Refused wrong_mode))) (Err (Refused out_of_range)))
    go false b = left-refused (reader_of s) bytes out_of_range (omega arith)
    go true false = left-refused (reader_of s) bytes wrong_mode (omega arith)
    go true true =
        unless-cases (record_refusal s l.reply read) read (Left (reader_of s) bytes)
        (λ z. subst (λ (u : ℕ). Left (reader_of s) bytes (read_record (reader_of s) u bytes)) (sym unit) (left-read (reader_of s) bytes))
        (λ z. left-refused (reader_of s) bytes (record_refusal s l.reply read) (refused-low s l.reply bytes read (read-facts (reader_of s) s.settings.u bytes)))
