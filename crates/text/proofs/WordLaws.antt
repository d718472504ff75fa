-- Laws of what is kept of a line's words: their count, and each as a number. Assumes nothing.
use mathlib.Core.Path.{◌≡◌}
use mathlib.Core.Bool.{true}
use mathlib.Core.List.{List}
use Prim.Native.Nat.{ℕ, ◌<◌, min}
use native.Mathlib.Omega.{arith}
use lib.Dec.{eqb}
use borrow.Author.Tests.{eqb-true, eq-eqb}
use Rattle.lists.proofs.TestLaws.{agree}
use Rattle.text.specs.Line.{word}
use Rattle.text.specs.Decimal.{is_number, value_of}
use Rattle.text.specs.Kept.{too_large, number_is}
use Rattle.text.proofs.NumberLaws.{kept-number}
use Rattle.text.proofs.KeptLaws.{kept_of}

-- a count that is kept up to a limit equals what is below the limit where the count does
pub kept-count : (limit k n : ℕ) → n < limit → eqb (min limit k) n ≡ eqb k n
kept-count limit k n h =
    agree (eqb (min limit k) n) (eqb k n)
    (λ e. let p = eqb-true (min limit k) n e in eq-eqb k n (omega arith))
    (λ e. let p = eqb-true k n e in eq-eqb (min limit k) n (omega arith))

-- the three words that are kept as numbers
module _ (ws : List (List ℕ)) (most : ℕ) (h : most < too_large) where
  pub lead-test : number_is most (kept_of ws).lead ≡ is_number most (word ws 0)
  unfolding kept_of
  lead-test = (kept-number (word ws 0)).is-number most h

  pub first-test : number_is most (kept_of ws).first ≡ is_number most (word ws 1)
  unfolding kept_of
  first-test = (kept-number (word ws 1)).is-number most h

  pub second-test : number_is most (kept_of ws).second ≡ is_number most (word ws 2)
  unfolding kept_of
  second-test = (kept-number (word ws 2)).is-number most h

  pub lead-value : is_number most (word ws 0) ≡ true → (kept_of ws).lead.value ≡ value_of (word ws 0)
  unfolding kept_of
  lead-value e = (kept-number (word ws 0)).number-value most h e

  pub first-value : is_number most (word ws 1) ≡ true → (kept_of ws).first.value ≡ value_of (word ws 1)
  unfolding kept_of
  first-value e = (kept-number (word ws 1)).number-value most h e

  pub second-value : is_number most (word ws 2) ≡ true → (kept_of ws).second.value ≡ value_of (word ws 2)
  unfolding kept_of
  second-value e = (kept-number (word ws 2)).number-value most h e
