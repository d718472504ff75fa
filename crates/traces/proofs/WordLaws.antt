-- Laws of the words: what lies past the numbers that were looked for. Assumes nothing.
use Prim.Native.Nat.{ℕ, ◌+◌, ◌≤◌, ◌<◌}
use mathlib.Core.Path.{◌≡◌}
use mathlib.Core.Logic.{⊎_elim}
use native.Mathlib.Omega.{arith}
use Rattle.lists.proofs.TestLaws.{lt-or-ge}

-- a number is larger than those that it is not
past : (n k : ℕ) → k ≤ n → (n ≡ k → ⊥) → k + 1 ≤ n
past n k h ne = ⊎_elim (λ (l : k < n). omega arith) (λ (g : n ≤ k). absurd (ne (omega arith))) (lt-or-ge k n)

pub past-low : (n : ℕ) → (n ≡ 0 → ⊥) → (n ≡ 1 → ⊥) → (n ≡ 2 → ⊥) → (n ≡ 3 → ⊥) → (n ≡ 4 → ⊥) → (n ≡ 5 → ⊥) → (n ≡ 6 → ⊥) → (n ≡ 7 → ⊥) → (n ≡ 8 → ⊥) → 8 < n
past-low n n0 n1 n2 n3 n4 n5 n6 n7 n8 =
    let h0 : 1 ≤ n = past n 0 (omega arith) n0 in
    let h1 : 2 ≤ n = past n 1 h0 n1 in
    let h2 : 3 ≤ n = past n 2 h1 n2 in
    let h3 : 4 ≤ n = past n 3 h2 n3 in
    let h4 : 5 ≤ n = past n 4 h3 n4 in
    let h5 : 6 ≤ n = past n 5 h4 n5 in
    let h6 : 7 ≤ n = past n 6 h5 n6 in
    let h7 : 8 ≤ n = past n 7 h6 n7 in
    let h8 : 9 ≤ n = past n 8 h7 n8 in
    omega arith

pub past-middle : (n : ℕ) → 8 < n → (n ≡ 9 → ⊥) → (n ≡ 10 → ⊥) → (n ≡ 11 → ⊥) → (n ≡ 12 → ⊥) → (n ≡ 13 → ⊥) → (n ≡ 14 → ⊥) → (n ≡ 15 → ⊥) → (n ≡ 16 → ⊥) → 16 < n
past-middle n h n9 n10 n11 n12 n13 n14 n15 n16 =
    let h9 : 10 ≤ n = past n 9 (omega arith) n9 in
    let h10 : 11 ≤ n = past n 10 h9 n10 in
    let h11 : 12 ≤ n = past n 11 h10 n11 in
    let h12 : 13 ≤ n = past n 12 h11 n12 in
    let h13 : 14 ≤ n = past n 13 h12 n13 in
    let h14 : 15 ≤ n = past n 14 h13 n14 in
    let h15 : 16 ≤ n = past n 15 h14 n15 in
    let h16 : 17 ≤ n = past n 16 h15 n16 in
    omega arith
