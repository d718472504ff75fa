-- Laws of the kinds and their lengths: the range of U, which kinds go to which reader, and the two widths of PAGE and
-- COMMIT. Assumes nothing.
use mathlib.Core.Path.{◌≡◌, refl, sym, subst}
use mathlib.Core.Bool.{Bool, true, false, ◌||◌, not}
use mathlib.Core.Logic.{◌⊎◌, inl, inr, ⊎_elim}
use Prim.Native.Nat.{ℕ, zero, suc, ◌+◌, ◌%◌, ◌^◌, ◌≤◌, ◌<◌}
use native.Mathlib.Omega.{arith}
use lib.Dec.{eqb}
use borrow.Author.Tests.{ltb-false, lt-ltb, le-ltb, eqb-true}
use Rattle.lists.specs.Refusal.{within}
use Rattle.lists.proofs.TestLaws.{both, eq-or-ne, within-facts}
use Rattle.records.specs.declared.Reader.{Reader}
use Rattle.records.specs.declared.Reader.TheVariants.{Test, Standby, Primary}
use Rattle.records.specs.Kind.{unit_ok, PAGE, BLOCK, STATE, COMMIT, ACK, WIDEPAGE, WIDECOMMIT, is_wide, page_kind, commit_kind, number_width, number_end, is_commit, body_length, record_length, is_for, counts_end}

-- ---- the range of U, and the kinds
pub unit-le : (u : ℕ) → unit_ok u ≡ true → (64 ≤ u) × (u ≤ 4096)
unfolding unit_ok
unit-le u h = within-facts 64 4096 u (both (within 64 4096 u) (eqb (u % 64) 0) h).0

-- one of two tests holds
either : (a b : Bool) → (a || b) ≡ true → (a ≡ true) ⊎ (b ≡ true)
either true b h = inl refl
either false b h = inr h

-- the kinds of a standby, of its own width: a fact of each is shown at each
pub standby-cases : (wide : Bool) (P : ℕ → Type 0) → P (page_kind wide) → P BLOCK → P STATE → P (commit_kind wide) → (kind : ℕ) → is_for (Standby wide) kind ≡ true → P kind
standby-cases wide P page block state commit kind h =
    ⊎_elim
    (λ x. ⊎_elim
    (λ y. ⊎_elim
    (λ (e : eqb kind (page_kind wide) ≡ true). at e page)
    (λ (e : eqb kind BLOCK ≡ true). at e block)
    (either (eqb kind (page_kind wide)) (eqb kind BLOCK) y))
    (λ (e : eqb kind STATE ≡ true). at e state)
    (either (eqb kind (page_kind wide) || eqb kind BLOCK) (eqb kind STATE) x))
    (λ (e : eqb kind (commit_kind wide) ≡ true). at e commit)
    (either (eqb kind (page_kind wide) || eqb kind BLOCK || eqb kind STATE) (eqb kind (commit_kind wide)) h)
  where
    at : {k : ℕ} → eqb kind k ≡ true → P k → P kind
    at {k} e x = subst P (sym (eqb-true kind k e)) x

pub for-page : (wide : Bool) → is_for (Standby wide) (page_kind wide) ≡ true
for-page false = refl
for-page true = refl

pub for-commit : (wide : Bool) → is_for (Standby wide) (commit_kind wide) ≡ true
for-commit false = refl
for-commit true = refl

pub for-block : (wide : Bool) → is_for (Standby wide) BLOCK ≡ true
for-block false = refl
for-block true = refl

pub for-state : (wide : Bool) → is_for (Standby wide) STATE ≡ true
for-state false = refl
for-state true = refl

test-page : (wide : Bool) → is_for Test (page_kind wide) ≡ true
test-page false = refl
test-page true = refl

test-commit : (wide : Bool) → is_for Test (commit_kind wide) ≡ true
test-commit false = refl
test-commit true = refl

-- a kind for a reader is for the record test
pub for-test : (reader : Reader) (kind : ℕ) → is_for reader kind ≡ true → is_for Test kind ≡ true
for-test Test kind h = h
for-test (Standby wide) kind h = standby-cases wide (λ (k : ℕ). is_for Test k ≡ true) (test-page wide) refl refl (test-commit wide) kind h
for-test Primary kind h = rw (eqb-true kind ACK h)

-- it is one of five, two of them of either width: a fact of it is shown at each
pub kind-cases : (P : ℕ → Type 0) → ((wide : Bool) → P (page_kind wide)) → P BLOCK → P STATE → ((wide : Bool) → P (commit_kind wide)) → P ACK → (kind : ℕ) → is_for Test kind ≡ true → P kind
kind-cases P page block state commit ack kind h =
    ⊎_elim (λ n. let f = within-facts PAGE ACK kind n in narrow kind f.0 f.1)
    (λ n. let f = within-facts WIDEPAGE WIDECOMMIT kind n in ⊎_elim (λ (e : kind ≡ WIDEPAGE). subst P (sym e) (page true)) (λ (e : kind ≡ WIDECOMMIT). subst P (sym e) (commit true)) (last f.0 f.1))
    (either (within PAGE ACK kind) (within WIDEPAGE WIDECOMMIT kind) h)
  where
    narrow : (k : ℕ) → PAGE ≤ k → k ≤ ACK → P k
    narrow zero a b = absurd (omega arith)
    narrow (suc zero) a b = page false
    narrow (suc (suc zero)) a b = block
    narrow (suc (suc (suc zero))) a b = state
    narrow (suc (suc (suc (suc zero)))) a b = commit false
    narrow (suc (suc (suc (suc (suc zero))))) a b = ack
    narrow (suc (suc (suc (suc (suc (suc k)))))) a b = absurd (omega arith)

    last : WIDEPAGE ≤ kind → kind ≤ WIDECOMMIT → (kind ≡ WIDEPAGE) ⊎ (kind ≡ WIDECOMMIT)
    last a b = ⊎_elim (λ (e : kind ≡ WIDEPAGE). inl e) (λ n. inr (omega arith)) (eq-or-ne kind WIDEPAGE)

-- a kind that the record test passes, in numbers
pub kind-range : (kind : ℕ) → is_for Test kind ≡ true → (PAGE ≤ kind) × (kind ≤ WIDECOMMIT)
kind-range = kind-cases (λ (k : ℕ). (PAGE ≤ k) × (k ≤ WIDECOMMIT)) page (omega arith, omega arith) (omega arith, omega arith) commit (omega arith, omega arith)
  where
    page : (wide : Bool) → (PAGE ≤ page_kind wide) × (page_kind wide ≤ WIDECOMMIT)
    page false = (omega arith, omega arith)
    page true = (omega arith, omega arith)

    commit : (wide : Bool) → (PAGE ≤ commit_kind wide) × (commit_kind wide ≤ WIDECOMMIT)
    commit false = (omega arith, omega arith)
    commit true = (omega arith, omega arith)

-- a kind that is a PAGE, or a COMMIT, of neither width
pub page-or : {kind : ℕ} → (kind ≡ PAGE → ⊥) → (kind ≡ WIDEPAGE → ⊥) → (wide : Bool) → kind ≡ page_kind wide → ⊥
page-or f g false = f
page-or f g true = g

pub commit-or : {kind : ℕ} → (kind ≡ COMMIT → ⊥) → (kind ≡ WIDECOMMIT → ⊥) → (wide : Bool) → kind ≡ commit_kind wide → ⊥
commit-or f g false = f
commit-or f g true = g

-- the kind that is none of the others
pub other-ack : (kind : ℕ) → is_for Test kind ≡ true → ((wide : Bool) → kind ≡ page_kind wide → ⊥) → (kind ≡ BLOCK → ⊥) → (kind ≡ STATE → ⊥) → ((wide : Bool) → kind ≡ commit_kind wide → ⊥) → kind ≡ ACK
other-ack =
    kind-cases (λ (k : ℕ). ((wide : Bool) → k ≡ page_kind wide → ⊥) → (k ≡ BLOCK → ⊥) → (k ≡ STATE → ⊥) → ((wide : Bool) → k ≡ commit_kind wide → ⊥) → k ≡ ACK)
    (λ wide p b s c. absurd (p wide refl)) (λ p b s c. absurd (b refl)) (λ p b s c. absurd (s refl)) (λ wide p b s c. absurd (c wide refl)) (λ p b s c. refl)

-- ---- what a kind is, of either width
pub page-no-commit : (wide : Bool) → is_commit (page_kind wide) ≡ false
page-no-commit false = refl
page-no-commit true = refl

pub commit-is-commit : (wide : Bool) → is_commit (commit_kind wide) ≡ true
commit-is-commit false = refl
commit-is-commit true = refl

pub page-no-block : (wide : Bool) → eqb (page_kind wide) BLOCK ≡ false
page-no-block false = refl
page-no-block true = refl

pub commit-no-block : (wide : Bool) → eqb (commit_kind wide) BLOCK ≡ false
commit-no-block false = refl
commit-no-block true = refl

-- the other width's kinds are not for a standby
pub other-page : (wide : Bool) → is_for (Standby wide) (page_kind (not wide)) ≡ false
other-page false = refl
other-page true = refl

pub other-commit : (wide : Bool) → is_for (Standby wide) (commit_kind (not wide)) ≡ false
other-commit false = refl
other-commit true = refl

-- an ACK is not for a standby
pub ack-not-for : (wide : Bool) → is_for (Standby wide) ACK ≡ false
ack-not-for false = refl
ack-not-for true = refl

-- ---- the two widths

pub width-range : (wide : Bool) → (2 ≤ number_width wide) × (number_width wide ≤ 4)
width-range false = (omega arith, omega arith)
width-range true = (omega arith, omega arith)

-- the bytes of a PAGE and of a COMMIT
pub page-length : (u : ℕ) (wide : Bool) → record_length u (page_kind wide) ≡ u + number_end wide
unfolding record_length body_length
page-length u false = omega arith
page-length u true = omega arith

pub commit-length : (u : ℕ) (wide : Bool) → record_length u (commit_kind wide) ≡ counts_end wide
unfolding record_length body_length
commit-length u false = refl
commit-length u true = refl

-- up to 4,096 memory pages are narrow, more are wide
pub narrow-of : (m : ℕ) → m ≤ 4096 → is_wide m ≡ false
narrow-of m h = le-ltb 4096 m h

pub wide_of : (m : ℕ) → 4096 < m → is_wide m ≡ true
wide_of m h = lt-ltb 4096 m h

-- what is at most M fits the field that M calls for
pub number_fits : (m n : ℕ) → m ≤ 65536 → n ≤ m → n < 256 ^ number_width (is_wide m)
number_fits m n h k = go (is_wide m) refl
  where
    go : (wide : Bool) → is_wide m ≡ wide → n < 256 ^ number_width wide
    go false e = let q = ltb-false 4096 m e in omega arith
    go true e = omega arith

-- a number below 2 ^ 16 fits a field of either width
pub two_fits : (wide : Bool) (n : ℕ) → n < 2 ^ 16 → n < 256 ^ number_width wide
two_fits false n h = h
two_fits true n h = omega arith

-- each kind has an epoch, and none is longer than a wide PAGE of the largest U
pub record-ge : (u kind : ℕ) → is_for Test kind ≡ true → 8 ≤ record_length u kind
unfolding record_length body_length
record-ge u =
    kind-cases (λ (k : ℕ). 8 ≤ record_length u k)
    (λ w. omega (arith, page-length u w)) (omega arith) (omega arith) (λ w. omega (arith, commit-length u w)) (omega arith)

pub record-le : (u kind : ℕ) → unit_ok u ≡ true → is_for Test kind ≡ true → record_length u kind ≤ 4108
unfolding record_length body_length
record-le u kind v =
    let h = unit-le u v in
    kind-cases (λ (k : ℕ). record_length u k ≤ 4108)
    (λ w. let n = width-range w in omega (arith, page-length u w)) (omega arith) (omega arith) (λ w. let n = width-range w in omega (arith, commit-length u w)) (omega arith) kind
