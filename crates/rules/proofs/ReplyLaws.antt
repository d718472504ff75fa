-- Laws of the replies, one for all calls: an accepted call gives the new state and the value, a refused one the old state and 0;
-- the same of a call that reads a record. Assumes nothing.
use Rattle.std.specs.Prelude.{Result, Ok, Err, IsErrAnd}
use Rattle.std.proofs.lemmas.Result.{err_from_is_err_and}
use mathlib.Core.Path.{◌≡◌, refl, sym, ap, subst, ◌∙◌}
use mathlib.Core.Bool.{true, false≢true}
use mathlib.Core.Logic.{⊎_elim}
use Prim.Native.Nat.{ℕ}
use borrow.Author.Tests.{eq-eqb, ne_eqb}
use Rattle.lists.specs.Refusal.{pick}
use Rattle.lists.proofs.TestLaws.{eq-or-ne}
use Rattle.records.specs.declared.Record.{Record}
use Rattle.records.specs.declared.Unread.{Unread}
use Rattle.records.specs.declared.Unread.TheVariants.{Short, Refused}
use Rattle.records.specs.declared.refusal.Refusal.{Refusal}
use Rattle.records.specs.Number.{refusal_number, number_in}
use Rattle.records.proofs.RefusalLaws.{number-passed, number-failed, failed-some}
use Rattle.records.specs.Read.{other_refusal, value_of as value, used_of as used}
use Rattle.records.proofs.ReadLaws.{is_found, number-found, missing-found, found-cases}
use Rattle.rules.specs.declared.Accepted.{Accepted}
use Rattle.rules.specs.Reply.{reply_of, number_of, value_of, used_of, missing_of, unless_refused, answer_of, Answered, accepted}

-- a fact of what a call leaves is shown of the new where it is accepted, and of the old where it is refused
pub pick-cases : {A : Type 0} (P : A → Type 0) (number : ℕ) (new old : A) → (number ≡ 0 → P new) → ((number ≡ 0 → ⊥) → P old) → P (pick number new old)
pick-cases P number new old f g = ⊎_elim (λ e. rw (eq-eqb number 0 e) (f e)) (λ e. rw (ne_eqb number 0 e) (g e)) (eq-or-ne number 0)

-- ---- the reply of a call
module _ {S : Type 0} (number : ℕ) (old new : S) (value : ℕ) where
  pub reply-accepted : number ≡ 0 → reply_of number old new value ≡ record { state = new; number = 0; value = value }
  reply-accepted e = rw e

  pub reply-refused : (number ≡ 0 → ⊥) → reply_of number old new value ≡ record { state = old; number = number; value = 0 }
  reply-refused e = rw (ne_eqb number 0 e)

  -- as the code makes them: n is the number of what the tests gave
  pub reply-accepts : (n : ℕ) → n ≡ number → n ≡ 0 → record { state = new; number = 0; value = value } ≡ reply_of number old new value
  reply-accepts n e z = sym (reply-accepted (sym e ∙ z))

  pub reply-refuses : (n : ℕ) → n ≡ number → (n ≡ 0 → ⊥) → record { state = old; number = n; value = 0 } ≡ reply_of number old new value
  reply-refuses n e z = rw e (sym (reply-refused (λ w. z (e ∙ w))))

  -- the same by what the tests gave
  module _ {A : Type 0} (tests : Result A Refusal) (is : number_in tests ≡ number) where
    pub check-accepts : {a : A} → tests ≡ Ok a → record { state = new; number = 0; value = value } ≡ reply_of number old new value
    check-accepts e = sym (reply-accepted (number-passed tests number is e))

    pub check-refuses : {refusal : Refusal} → tests ≡ Err refusal → record { state = old; number = refusal_number refusal; value = 0 } ≡ reply_of number old new value
    check-refuses e = reply-refuses _ (sym (number-failed tests number is e)) (λ z. failed-some tests number is e (number-failed tests number is e ∙ z))

-- ---- a record with its own refusal
module _ (number : ℕ) (r : Result Record Unread) where
  pub unless-accepted : number ≡ 0 → unless_refused number r ≡ r
  unless-accepted e = rw e

  pub unless-refused : (number ≡ 0 → ⊥) → unless_refused number r ≡ Err (Refused number)
  unless-refused e = rw (ne_eqb number 0 e)

  -- a fact of it is shown at both
  pub unless-cases : (P : Result Record Unread → Type 0) → (number ≡ 0 → P r) → ((number ≡ 0 → ⊥) → P (Err (Refused number))) → P (unless_refused number r)
  unless-cases P f g = pick-cases P number r (Err (Refused number)) f g

-- what no record stands in is handed on
pub unless-unread : (u : Unread) → unless_refused (other_refusal (Err u)) (Err u) ≡ Err u
unless-unread (Short n) = refl
unless-unread (Refused n) = ⊎_elim (λ e. rw (eq-eqb n 0 e)) (λ e. rw (ne_eqb n 0 e)) (eq-or-ne n 0)

-- ---- judging a record: each way in which the code hands on what it judges, a `?` for what is not read or is refused
pub judged-unread : {r judged : Result Record Unread} {u : Unread} (number : ℕ) (result : Result Record Unread) → judged ≡ unless_refused number r → r ≡ Err u → number ≡ other_refusal (Err u)
    → IsErrAnd result (λ x. x ≡ u) → result ≡ judged
judged-unread {u = u} number result is e n h =
    let g = err_from_is_err_and result h in
    g.1 ∙ ap (λ (x : Unread). Err x) g.2 ∙ sym (is ∙ rw (e, n) (unless-unread u))

pub judged-refused : {A : Type 0} {judged : Result Record Unread} {refusal : Refusal} (number : ℕ) (r result : Result Record Unread) (tests : Result A Refusal) → judged ≡ unless_refused number r → number_in tests ≡ number → tests ≡ Err refusal
    → IsErrAnd result (λ x. x ≡ Refused (refusal_number refusal)) → result ≡ judged
judged-refused number r result tests is n e h =
    let g = err_from_is_err_and result h in
    g.1 ∙ ap (λ (x : Unread). Err x) (g.2 ∙ ap (λ (m : ℕ). Refused m) (sym (number-failed tests number n e)))
    ∙ sym (is ∙ unless-refused number r (failed-some tests number n e))

pub judged-accepted : {A : Type 0} {judged : Result Record Unread} {a : A} (number : ℕ) (r : Result Record Unread) (tests : Result A Refusal) → judged ≡ unless_refused number r → number_in tests ≡ number → tests ≡ Ok a → r ≡ judged
judged-accepted number r tests is n e = sym (is ∙ unless-accepted number r (number-passed tests number n e))

-- ---- the answer of a call that reads a record
pub answer-found : (r : Result Record Unread) → is_found r ≡ true → answer_of r ≡ accepted (value r) (used r)
answer-found (Ok r) h = refl
answer-found (Err (Short n)) h = absurd (false≢true h)
answer-found (Err (Refused n)) h = absurd (false≢true h)

pub answers : (r : Result Record Unread) → Answered r (answer_of r)
answers =
    found-cases (λ r. Answered r (answer_of r))
    (λ r h.
    let e = answer-found r h in
    record { number_is = ap number_of e ∙ sym (number-found r h); value_is = ap value_of e; used_is = ap used_of e; missing_is = ap missing_of e ∙ sym (missing-found r h) })
    (λ n. record { number_is = refl; value_is = refl; used_is = refl; missing_is = refl })
    (λ n. record { number_is = refl; value_is = refl; used_is = refl; missing_is = refl })

-- as the code makes it: r is what was judged
pub answered : (r judged : Result Record Unread) (a : Result Accepted Unread) → r ≡ judged → a ≡ answer_of r → Answered judged a
answered r judged a j e = subst (Answered judged) (sym (e ∙ ap answer_of j)) (answers judged)

-- "Every refusal's value is 0", and "A record cut short or refused uses 0"
pub answer-refused : (r : Result Record Unread) → (number_of (answer_of r) ≡ 0 → ⊥) → (value_of (answer_of r) ≡ 0) × (used_of (answer_of r) ≡ 0)
answer-refused =
    found-cases (λ r. (number_of (answer_of r) ≡ 0 → ⊥) → (value_of (answer_of r) ≡ 0) × (used_of (answer_of r) ≡ 0))
    (λ r h f. absurd (f (ap number_of (answer-found r h)))) (λ n f. (refl, refl)) (λ n f. (refl, refl))
