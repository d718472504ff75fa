-- Laws of the sums: what acceptance says, that the state stays, and that both ends give the sum of the image, the same
-- on equal images. Assumes nothing.
use mathlib.Core.Path.{◌≡◌, refl, sym, ap, ◌∙◌}
use mathlib.Core.Bool.{true, false, ◌&&◌}
use mathlib.Core.List.{List}
use Prim.Native.Nat.{ℕ}
use lib.Dec.{eqb}
use lib.ListN.{length}
use borrow.Author.Tests.{eqb-true}
use Rattle.lists.proofs.TestLaws.{both, accepted, and-false, pick-accepted}
use Rattle.records.specs.Number.{out_of_range}
use Rattle.sums.specs.Sum.{image_sum, names_each}
use Rattle.sums.proofs.SumLaws.{sum-rising}
use Rattle.sums.proofs.OrderLaws.{sum-order}
use Rattle.rules.specs.declared.Primary.{Primary}
use Rattle.rules.specs.declared.Standby.{Standby}
use Rattle.rules.specs.PrimaryState.{primary_ok, memory_length}
use Rattle.rules.specs.StandbyState.{standby_ok, memory_length as standby_memory_length}
use Rattle.rules.specs.Sums.{primary_sum_tests, primary_sum_refusal, primary_sum_reply, standby_sum_tests, standby_sum_refusal, standby_sum_reply}
use Rattle.rules.proofs.ReplyLaws.{pick-cases}

-- ---- at the primary
pub record PrimarySumAccepted (p : Primary) (memory : ℕ) : Type 0 where
  pub in_range : primary_ok p ≡ true
  pub memory_lent : memory ≡ memory_length p

pub primary-sum-accepted : (p : Primary) (memory : ℕ) → primary_sum_refusal p memory ≡ 0 → PrimarySumAccepted p memory
unfolding primary_sum_refusal
primary-sum-accepted p memory e =
    let t = both (primary_ok p) (eqb memory (memory_length p)) (accepted (primary_sum_tests p memory) refl e).0 in
    record { in_range = t.0; memory_lent = eqb-true memory (memory_length p) t.1 }

-- the value is the image's sum
pub primary-sum-value : (p : Primary) (memory : List ℕ) → primary_sum_refusal p (length memory) ≡ 0 → (primary_sum_reply p memory).value ≡ image_sum memory
unfolding primary_sum_reply
primary-sum-value p memory e =
    pick-accepted (primary_sum_refusal p (length memory)) _ 0 e
    ∙ sum-rising p.settings.u memory p.settings.m (primary-sum-accepted p (length memory) e).memory_lent

-- accepted or refused, the state stays
pub primary-sum-state : (p : Primary) (memory : List ℕ) → (primary_sum_reply p memory).state ≡ p
unfolding primary_sum_reply
primary-sum-state p memory = pick-cases (λ (q : Primary). q ≡ p) (primary_sum_refusal p (length memory)) p p (λ _. refl) (λ _. refl)

-- ---- at the standby
pub record StandbySumAccepted (s : Standby) (memory : ℕ) (order : List ℕ) : Type 0 where
  pub in_range : standby_ok s ≡ true
  pub memory_lent : memory ≡ standby_memory_length s
  pub names : names_each s.settings.m order ≡ true

pub standby-sum-accepted : (s : Standby) (memory : ℕ) (order : List ℕ) → standby_sum_refusal s memory order ≡ 0 → StandbySumAccepted s memory order
unfolding standby_sum_refusal
standby-sum-accepted s memory order e =
    let o = both (standby_ok s && eqb memory (standby_memory_length s)) (names_each s.settings.m order) (accepted (standby_sum_tests s memory order) refl e).0 in
    let t = both (standby_ok s) (eqb memory (standby_memory_length s)) o.0 in
    record { in_range = t.0; memory_lent = eqb-true memory (standby_memory_length s) t.1; names = o.1 }

-- "an order not naming each page once gives 1", whatever else holds
pub standby-sum-order : (s : Standby) (memory : ℕ) (order : List ℕ) → names_each s.settings.m order ≡ false → standby_sum_refusal s memory order ≡ out_of_range
unfolding standby_sum_refusal
standby-sum-order s memory order e = rw (e, and-false)

pub standby-sum-state : (s : Standby) (memory order : List ℕ) → (standby_sum_reply s memory order).state ≡ s
unfolding standby_sum_reply
standby-sum-state s memory order = pick-cases (λ (q : Standby). q ≡ s) (standby_sum_refusal s (length memory) order) s s (λ _. refl) (λ _. refl)

-- in whichever order
pub standby-sum-value : (s : Standby) (memory order : List ℕ) → standby_sum_refusal s (length memory) order ≡ 0 → (standby_sum_reply s memory order).value ≡ image_sum memory
unfolding standby_sum_reply
standby-sum-value s memory order e =
    let f = standby-sum-accepted s (length memory) order e in
    pick-accepted (standby_sum_refusal s (length memory) order) _ 0 e
    ∙ sum-order s.settings.u s.settings.m memory order f.memory_lent f.names

-- ---- "On equal images both give the same sum"
pub sums-agree : (p : Primary) (s : Standby) (memory standby_memory order : List ℕ) → memory ≡ standby_memory
    → primary_sum_refusal p (length memory) ≡ 0 → standby_sum_refusal s (length standby_memory) order ≡ 0
    → (primary_sum_reply p memory).value ≡ (standby_sum_reply s standby_memory order).value
sums-agree p s memory standby_memory order same e f =
    primary-sum-value p memory e ∙ ap image_sum same ∙ sym (standby-sum-value s standby_memory order f)
