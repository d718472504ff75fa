-- What a call leaves, from what its code made: words that are no state, and words that are one. Assumes nothing.
use mathlib.Core.Path.{◌≡◌, sym, ◌∙◌}
use mathlib.Core.List.{List}
use mathlib.Core.Bool.{Bool, true, false}
use Prim.Native.Nat.{ℕ}
use Rattle.lists.proofs.TestLaws.{cond-true, cond-false, not-both}
use Rattle.records.specs.Number.{out_of_range}
use Rattle.rules.specs.declared.Primary.{Primary}
use Rattle.rules.specs.declared.Standby.{Standby}
use Rattle.capi.specs.Word.{Leaves}
use Rattle.capi.specs.PrimaryWords.{primary_words, primary_words_ok, primary_of}
use Rattle.capi.specs.StandbyWords.{standby_words}
use Rattle.capi.specs.PrimaryCalls.{PrimaryDone}
use Rattle.capi.specs.StandbyCalls.{LentStandby, is_standby, standby_in, StandbyDone}

module _ {ok : Bool} (none : ok ≡ false) where
  pub leaves-old : (new old : List ℕ) → Leaves ok new old old
  leaves-old new old = sym (cond-false _ _ _ none)

  pub primary-old : {w : List ℕ} {next : Primary} {word : ℕ} → PrimaryDone ok w next word out_of_range w
  primary-old = record { told = sym (cond-false _ _ _ none); words = leaves-old _ _; again = λ e. absurd (not-both ok e none); same = λ e. absurd (not-both ok e none) }

  pub standby-old : {w : LentStandby} {next : Standby} {word : ℕ} → StandbyDone ok w next word out_of_range w
  standby-old =
      record {
        told = sym (cond-false _ _ _ none);
        words = leaves-old _ _;
        staged = leaves-old _ _;
        kept = leaves-old _ _;
        again = λ e. absurd (not-both ok e none);
        same = λ e. absurd (not-both ok e none);
      }

module _ {ok : Bool} (some : ok ≡ true) where
  pub leaves-new : {new after : List ℕ} (old : List ℕ) → after ≡ new → Leaves ok new old after
  leaves-new old e = e ∙ sym (cond-true _ _ _ some)

  pub primary-new : {w w' : List ℕ} {next : Primary} {word answer : ℕ} → answer ≡ word → (w' ≡ primary_words next) × ((primary_words_ok w' ≡ true) × (primary_of w' ≡ next))
      → PrimaryDone ok w next word answer w'
  primary-new e stored = record { told = e ∙ sym (cond-true _ _ _ some); words = leaves-new _ stored.0; again = λ t. stored.1.0; same = λ t. stored.1.1 }

  pub standby-new : {w w' : LentStandby} {next : Standby} {word answer : ℕ} → answer ≡ word
      → (w'.words ≡ standby_words next) × ((w'.pending ≡ next.pending) × ((w'.processor ≡ next.processor) × ((is_standby w' ≡ true) × (standby_in w' ≡ next))))
      → StandbyDone ok w next word answer w'
  standby-new e stored =
      record {
        told = e ∙ sym (cond-true _ _ _ some);
        words = leaves-new _ stored.0;
        staged = leaves-new _ stored.1.0;
        kept = leaves-new _ stored.1.1.0;
        again = λ t. stored.1.1.1.0;
        same = λ t. stored.1.1.1.1;
      }
