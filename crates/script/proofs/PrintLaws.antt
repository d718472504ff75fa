-- Laws of printing. Assumes nothing.
use Prim.Native.Nat.{ℕ, ◌+◌, ◌≤◌}
use mathlib.Core.Path.{◌≡◌}
use mathlib.Core.List.{List, [], ◌∷◌, ◌++◌}
use native.Mathlib.Omega.{arith}
use lib.ListN.{length}
use Rattle.lists.specs.Part.{PutDone}
use Rattle.lists.proofs.PartLaws.{put-done-more, put-done-length}
use Rattle.text.specs.Decimal.{decimal}
use Rattle.text.specs.Line.{space, newline}
use Rattle.rules.specs.Step.{outcome}
use Rattle.script.specs.Output.{printed}

-- the six parts of a line of output, one behind the other
pub printed-put : (letter number value at a b c d e r : ℕ) (s₀ s₁ s₂ s₃ s₄ s₅ s₆ : List ℕ) → at + 44 ≤ length s₀ → c ≤ b + 20 → e ≤ d + 20
    → PutDone (letter ∷ []) s₀ at s₁ a → PutDone (space ∷ []) s₁ a s₂ b → PutDone (decimal number) s₂ b s₃ c → PutDone (space ∷ []) s₃ c s₄ d
    → PutDone (decimal value) s₄ d s₅ e → PutDone (newline ∷ []) s₅ e s₆ r → PutDone (printed letter (outcome number value)) s₀ at s₆ r × (r ≤ at + 44)
unfolding printed
printed-put letter number value at a b c d e r s₀ s₁ s₂ s₃ s₄ s₅ s₆ h n v p₁ p₂ p₃ p₄ p₅ p₆ =
    let a₁ : a ≡ at + 1 = p₁.position in
    let h₁ : at + 1 ≤ length s₀ = omega arith in
    let l₁ : length s₁ ≡ length s₀ = put-done-length _ _ _ _ _ h₁ p₁ in
    let b₁ : b ≡ a + 1 = p₂.position in
    let h₂ : a + 1 ≤ length s₁ = omega arith in
    let l₂ : length s₂ ≡ length s₁ = put-done-length _ _ _ _ _ h₂ p₂ in
    let c₁ : c ≡ b + length (decimal number) = p₃.position in
    let h₃ : b + length (decimal number) ≤ length s₂ = omega arith in
    let l₃ : length s₃ ≡ length s₂ = put-done-length _ _ _ _ _ h₃ p₃ in
    let d₁ : d ≡ c + 1 = p₄.position in
    let h₄ : c + 1 ≤ length s₃ = omega arith in
    let l₄ : length s₄ ≡ length s₃ = put-done-length _ _ _ _ _ h₄ p₄ in
    let e₁ : e ≡ d + length (decimal value) = p₅.position in
    let h₅ : d + length (decimal value) ≤ length s₄ = omega arith in
    let q₅ : PutDone (decimal value ++ (newline ∷ [])) s₄ d s₆ r = put-done-more _ _ _ _ _ _ _ _ h₅ p₅ p₆ in
    let q₄ : PutDone (space ∷ (decimal value ++ (newline ∷ []))) s₃ c s₆ r = put-done-more (space ∷ []) _ _ _ _ _ _ _ h₄ p₄ q₅ in
    let q₃ : PutDone (decimal number ++ (space ∷ (decimal value ++ (newline ∷ [])))) s₂ b s₆ r = put-done-more _ _ _ _ _ _ _ _ h₃ p₃ q₄ in
    let q₂ : PutDone (space ∷ (decimal number ++ (space ∷ (decimal value ++ (newline ∷ []))))) s₁ a s₆ r = put-done-more (space ∷ []) _ _ _ _ _ _ _ h₂ p₂ q₃ in
    let r₁ : r ≡ e + 1 = p₆.position in
    (put-done-more (letter ∷ []) _ _ _ _ _ _ _ h₁ p₁ q₂, omega arith)
