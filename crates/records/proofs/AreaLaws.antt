-- Laws of the record area: what it reads as, and what all zero means. Assumes nothing.
use mathlib.Core.Path.{◌≡◌, refl, sym, ap, ◌∙◌}
use mathlib.Core.Bool.{Bool, true, false, ◌&&◌}
use Rattle.std.specs.List.{list_all}
use mathlib.Core.List.{List, [], ◌∷◌}
use Prim.Native.Nat.{ℕ, zero, suc, ◌^◌, ◌<◌}
use native.Mathlib.Omega.{arith}
use lib.Dec.{eqb}
use lib.ListN.{length, get_or, replicate}
use borrow.Author.Tests.{eqb-true, eq-eqb, ne_eqb}
use Rattle.lists.specs.LittleEndian.{le_at, le_bytes}
use Rattle.lists.proofs.TestLaws.{both, refuted, and-false}
use Rattle.lists.proofs.LittleEndianLaws.{le_at-le_bytes}
use Rattle.records.specs.declared.Area.TheVariants.{Zero, Activation, Neither}
use Rattle.records.specs.Kind.{ACTIVATION}
use Rattle.records.specs.Write.{frame, epoch_record, activation_record}
use Rattle.records.specs.Area.{area_length, all_zero, area_of, area_number, area_value}
use Rattle.records.proofs.FrameLaws.{length-epoch}

-- ---- all zero
pub all-zero-at : (s : List ℕ) → all_zero s ≡ true → (i : ℕ) → get_or s i 0 ≡ 0
unfolding all_zero
all-zero-at [] e i = refl
all-zero-at (b ∷ s) e zero = eqb-true b 0 (both (eqb b 0) (all_zero s) e).0
all-zero-at (b ∷ s) e (suc i) = all-zero-at s (both (eqb b 0) (all_zero s) e).1 i

-- by std's word for a test of each element
pub all_zero-list : (s : List ℕ) → all_zero s ≡ list_all (λ (b : ℕ). eqb b 0) s
unfolding all_zero
all_zero-list [] = refl
all_zero-list (b ∷ s) = ap (λ (rest : Bool). eqb b 0 && rest) (all_zero-list s)

pub all-zero-replicate : (n : ℕ) → all_zero (replicate n 0) ≡ true
unfolding all_zero
all-zero-replicate zero = refl
all-zero-replicate (suc n) = all-zero-replicate n

-- ---- one law for each answer
module _ (s : List ℕ) where
  pub area-other-length : (length s ≡ area_length → ⊥) → area_of s ≡ Neither
  unfolding area_of
  area-other-length h = rw (ne_eqb _ _ h)

  module _ (h : length s ≡ area_length) where
    pub area-of-zero : all_zero s ≡ true → area_of s ≡ Zero
    unfolding area_of
    area-of-zero z = rw (eq-eqb _ _ h, z)

    module _ (z : all_zero s ≡ false) where
      pub area-of-record : le_at 2 s 0 ≡ 4 → le_at 2 s 2 ≡ ACTIVATION → area_of s ≡ Activation (le_at 4 s 4)
      unfolding area_of
      area-of-record l k = rw (eq-eqb _ _ h, z, eq-eqb _ _ l, eq-eqb _ _ k)

      pub area-other-body : (le_at 2 s 0 ≡ 4 → ⊥) → area_of s ≡ Neither
      unfolding area_of
      area-other-body l = rw (eq-eqb _ _ h, z, ne_eqb _ _ l)

      pub area-other-kind : (le_at 2 s 2 ≡ ACTIVATION → ⊥) → area_of s ≡ Neither
      unfolding area_of
      area-other-kind k = rw (eq-eqb _ _ h, z, ne_eqb _ _ k, and-false)

-- ---- what is written is read back
pub area-zero : area_of (replicate area_length 0) ≡ Zero
area-zero = area-of-zero (replicate area_length 0) refl (all-zero-replicate area_length)

pub area-activation : (e : ℕ) → e < 2 ^ 32 → area_of (activation_record e) ≡ Activation e
unfolding epoch_record frame le_bytes le_at
area-activation e h =
    let s = activation_record e in
    let z : all_zero s ≡ false = sym (refuted (all_zero s) (λ t. let b : ◌≡◌ {A = ℕ} 4 0 = all-zero-at s t 0 in omega arith)) in
    let v : le_at 4 s 4 ≡ e = le_at-le_bytes 4 e [] h in
    area-of-record s (length-epoch ACTIVATION e) z refl refl ∙ ap Activation v

-- with the paper's number, and the epoch as its value
pub area-told : (e : ℕ) → e < 2 ^ 32 → (area_number (area_of (activation_record e)) ≡ 0) × (area_value (area_of (activation_record e)) ≡ e)
area-told e h = (ap area_number (area-activation e h), ap area_value (area-activation e h))
