-- Digits behind zeros in an array of 20 bytes: they give their place and the array back. Assumes nothing.
use Rattle.std.specs.Prelude.{◌≡◌, ℕ, ◌-◌, ◌≤◌, List, ◌++◌, length, take, drop, replicate}
use Rattle.std.proofs.Common.{sym, ap, ◌∙◌}
use Rattle.std.proofs.Math.Arith.{sub-sub_self}
use Rattle.std.proofs.Math.Nat.{le_trans, le-suc}
use Rattle.std.proofs.lemmas.List.{length-drop, take-append-drop}

-- one digit or more, and zeros in front of them
abbrev pub BehindZeros : ℕ → List ℕ → Type 0
BehindZeros start bytes = (start ≤ 19) × (length bytes ≡ 20) × (take start bytes ≡ replicate start 0)

abbrev pub start_of : List ℕ → ℕ
start_of digits = 20 - length digits

abbrev pub array_of : List ℕ → List ℕ
array_of digits = replicate (start_of digits) 0 ++ digits

module _ (start : ℕ) (bytes : List ℕ) (h : BehindZeros start bytes) where
  pub start-back : start_of (drop start bytes) ≡ start
  start-back = ap (λ n. 20 - n) (length-drop start bytes ∙ ap (λ n. n - start) h.1) ∙ sub-sub_self (le_trans h.0 (le-suc 19))

  pub array-back : array_of (drop start bytes) ≡ bytes
  array-back =
      ap (λ n. replicate n 0 ++ drop start bytes) start-back
      ∙ ap (λ front. front ++ drop start bytes) (sym h.2)
      ∙ take-append-drop start bytes
