-- Laws of the record test's word and of the disk choice's. Assumes nothing.
use Rattle.std.specs.Prelude.{Result, Ok, Err}
use mathlib.Core.Path.{◌≡◌, refl, sym, ap, subst, ◌∙◌}
use mathlib.Core.List.{List}
use mathlib.Core.Bool.{Bool, true, false, cond, ◌&&◌, false≢true}
use lib.Dec.{eqb}
use lib.ListN.{length}
use Prim.Native.Nat.{ℕ, ◌+◌, ◌*◌, ◌%◌, ◌<◌}
use native.Mathlib.Omega.{arith}
use borrow.Author.Tests.{eq-eqb, ne_eqb}
use Rattle.records.specs.declared.Reader.TheVariants.{Test}
use Rattle.records.specs.declared.Record.{Record}
use Rattle.records.specs.declared.Unread.{Unread}
use Rattle.records.specs.declared.Unread.TheVariants.{Short, Refused}
use Rattle.records.specs.Cases.{on_found}
use Rattle.records.specs.Read.{read_record, number_of, kind_of, used_of, missing_of}
use Rattle.records.specs.Missing.{MissingRight}
use Rattle.records.proofs.ReadLaws.{is_found, on-found, number-found, missing-found, found-cases, ReadFacts, ReadRanges, found-kind, refused-number, read-facts, read-ranges}
use Rattle.records.proofs.MissingLaws.{record-missing, missing-as}
use Rattle.records.specs.declared.Area.{Area}
use Rattle.records.specs.declared.Area.TheVariants.{Zero, Activation, Neither}
use Rattle.records.specs.Area.{area_of, area_length}
use Rattle.records.specs.declared.refusal.Refusal.{Refusal}
use Rattle.records.specs.declared.refusal.Refusal.TheVariants.{OutOfRange, BadArea}
use Rattle.records.specs.Number.{refusal_number}
use Rattle.rules.specs.declared.Disk.{Disk}
use Rattle.rules.specs.declared.Disk.TheVariants.{PrimaryDisk, StandbyDisk}
use Rattle.rules.specs.Choose.{area_choice, choice_of}
use Rattle.link.specs.Word.{word_of, test_word, test_number, test_kind, test_cut_short, test_used, test_missing, SaysMissing, choice_word}

-- what is not cut short has its number, kind and bytes used
pub word-told : (r : Result Record Unread) → ((n : ℕ) → r ≡ Err (Short n) → ⊥) → test_word r ≡ word_of r
word-told =
    found-cases (λ r. ((n : ℕ) → r ≡ Err (Short n) → ⊥) → test_word r ≡ word_of r)
    (λ r h f. on-found (word_of r) (λ n. 65536 * n) (λ n. word_of r) r h) (λ n f. absurd (f n refl)) (λ n f. refl)

-- a word's parts, as the caller takes them out, of every answer; where nothing is refused the number is 0
pub record Parts (r : Result Record Unread) (word : ℕ) : Type 0 where
  pub number : test_number word ≡ on_found r 0 (λ n. 0) (λ n. n)
  pub kind : test_kind word ≡ kind_of r
  pub used : test_used word ≡ used_of r
  pub missing : test_missing word ≡ missing_of r
  pub short : test_cut_short word ≡ on_found r false (λ n. true) (λ n. false)

module _ (u : ℕ) (s : List ℕ) where
  -- of a whole record and of a refusal, whose low 16 bits are not 0
  told-parts : (r : Result Record Unread) → ReadRanges Test s r → number_of r < 256 → missing_of r ≡ 0 → (number_of r + 256 * kind_of r ≡ 0 → ⊥)
      → (test_number (word_of r) ≡ number_of r) × (test_kind (word_of r) ≡ kind_of r) × (test_used (word_of r) ≡ used_of r) × (test_missing (word_of r) ≡ missing_of r) × (test_cut_short (word_of r) ≡ false)
  told-parts r g n m ne =
      let k = g.kind in
      let no : test_cut_short (word_of r) ≡ false = ne_eqb (word_of r % 65536) 0 (λ z. ne (omega arith)) in
      (omega arith, omega arith, rw no (omega arith), rw no (sym m), no)

  found-parts : (r : Result Record Unread) → is_found r ≡ true → ReadFacts Test u s r → ReadRanges Test s r → Parts r (test_word r)
  found-parts r h f g =
      let n = number-found r h in
      let k = found-kind Test u s r h f in
      let t = told-parts r g (omega arith) (missing-found r h) (λ z. omega arith) in
      subst (Parts r) (sym (on-found (word_of r) (λ n. 65536 * n) (λ n. word_of r) r h))
      (record {
        number = t.0 ∙ n ∙ sym (on-found 0 (λ n. 0) (λ n. n) r h);
        kind = t.1;
        used = t.2;
        missing = t.3;
        short = t.4 ∙ sym (on-found false (λ n. true) (λ n. false) r h);
      })

  short-parts : (n : ℕ) → Parts (Err (Short n)) (test_word (Err (Short n)))
  short-parts n =
      let yes : test_cut_short (65536 * n) ≡ true = eq-eqb (65536 * n % 65536) 0 (omega arith) in
      record { number = omega arith; kind = omega arith; used = rw yes; missing = rw yes (omega arith); short = yes }

  pub word-parts : Parts (read_record Test u s) (test_word (read_record Test u s))
  word-parts = go (read_record Test u s) (read-facts Test u s) (read-ranges Test u s)
    where
      go : (r : Result Record Unread) → ReadFacts Test u s r → ReadRanges Test s r → Parts r (test_word r)
      go = found-cases (λ r. ReadFacts Test u s r → ReadRanges Test s r → Parts r (test_word r)) found-parts (λ n f g. short-parts n)
          (λ n f g.
          let b = refused-number u n f in
          let t = told-parts (Err (Refused n)) g (omega arith) refl (λ z. omega arith) in
          record { number = t.0; kind = t.1; used = t.2; missing = t.3; short = t.4 })

  -- cut short is 65,536 times the bytes missing
  pub word-missing : (n : ℕ) → read_record Test u s ≡ Err (Short n) → test_word (read_record Test u s) ≡ 65536 * n
  word-missing n e = ap test_word e

  -- and nothing else has 0 in the low 16 bits
  pub word-only-short : test_cut_short (test_word (read_record Test u s)) ≡ true → read_record Test u s ≡ Err (Short (test_missing (test_word (read_record Test u s))))
  word-only-short z = go (read_record Test u s) (test_word (read_record Test u s)) word-parts z
    where
      go : (r : Result Record Unread) (word : ℕ) → Parts r word → test_cut_short word ≡ true → r ≡ Err (Short (test_missing word))
      go = found-cases (λ r. (word : ℕ) → Parts r word → test_cut_short word ≡ true → r ≡ Err (Short (test_missing word)))
          (λ r h word p z. absurd (false≢true (sym (p.short ∙ on-found false (λ n. true) (λ n. false) r h) ∙ z)))
          (λ n word p z. ap (λ (n : ℕ). Err (Short n)) (sym p.missing))
          (λ n word p z. absurd (false≢true (sym p.short ∙ z)))

-- what is claimed of the bytes missing, of the word that the daemon gets
pub test-missing : (u : ℕ) → MissingRight Test u (λ s n. SaysMissing (test_word (read_record Test u s)) n)
test-missing u =
    missing-as Test u (λ s n. read_record Test u s ≡ Err (Short n)) (λ s n. SaysMissing (test_word (read_record Test u s)) n)
    (λ s n c. word-only-short u s c.0 ∙ ap (λ (n : ℕ). Err (Short n)) c.1)
    (λ s n e. let p = word-parts u s in (p.short ∙ ap (λ (r : Result Record Unread). on_found r false (λ m. true) (λ m. false)) e, p.missing ∙ ap missing_of e))
    (record-missing Test u)

-- the choice is refused with this number
pub record RefusedWith (c : Result Disk Refusal) (number : ℕ) : Type 0 where
  pub refusal : Refusal
  pub refused : c ≡ Err refusal
  pub number_is : refusal_number refusal ≡ number

-- the disk choice's word, and what the caller learns from it
pub record ChoiceTold (c : Result Disk Refusal) (word : ℕ) : Type 0 where
  pub primary : word ≡ 256 → c ≡ Ok PrimaryDisk
  pub standby : word ≡ 512 → c ≡ Ok StandbyDisk
  pub refused : word < 256 → RefusedWith c word
  pub out_of_range : word ≡ 1 → c ≡ Err OutOfRange
  pub bad_area : word ≡ 12 → c ≡ Err BadArea

-- a refusal is 1 or 12, so that no two answers have the same word
pub choice-told : (p s : ℕ) (a : List ℕ) → ChoiceTold (choice_of p s a) (choice_word (choice_of p s a))
unfolding choice_of
choice-told p s a = go (eqb p s && eqb (length a) area_length) (area_of a)
  where
    go : (b : Bool) (r : Area) → let c = cond b (area_choice r) (Err OutOfRange) in ChoiceTold c (choice_word c)
    go true Zero = record { primary = λ e. refl; standby = λ e. absurd (omega arith); refused = λ e. absurd (omega arith); out_of_range = λ e. absurd (omega arith); bad_area = λ e. absurd (omega arith) }
    go true (Activation epoch) =
        record { primary = λ e. absurd (omega arith); standby = λ e. refl; refused = λ e. absurd (omega arith); out_of_range = λ e. absurd (omega arith); bad_area = λ e. absurd (omega arith) }
    go true Neither =
        record {
          primary = λ e. absurd (omega arith);
          standby = λ e. absurd (omega arith);
          refused = λ e. record { refusal = BadArea; refused = refl; number_is = omega arith };
          out_of_range = λ e. absurd (omega arith);
          bad_area = λ e. refl;
        }
    go false r =
        record {
          primary = λ e. absurd (omega arith);
          standby = λ e. absurd (omega arith);
          refused = λ e. record { refusal = OutOfRange; refused = refl; number_is = omega arith };
          out_of_range = λ e. refl;
          bad_area = λ e. absurd (omega arith);
        }
