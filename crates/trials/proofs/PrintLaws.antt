-- Laws of printing: a tick's line and the last one. Assumes nothing.
use Prim.Native.Nat.{ℕ, ◌+◌, ◌≤◌}
use mathlib.Core.Path.{◌≡◌}
use mathlib.Core.List.{List, [], ◌∷◌, ◌++◌}
use native.Mathlib.Omega.{arith}
use lib.ListN.{length}
use Rattle.lists.specs.Part.{PutDone}
use Rattle.lists.proofs.PartLaws.{put-done-more, put-done-length}
use Rattle.text.specs.Decimal.{decimal}
use Rattle.text.specs.Line.{space, newline}
use Rattle.script.specs.declared.Site.{Site}
use Rattle.script.specs.Site.{world_of}
use Rattle.trials.specs.Output.{tick_line, last_line}

-- a number, then one byte
number-byte : (n b at a r : ℕ) (s₀ s₁ s₂ : List ℕ) → at + 21 ≤ length s₀ → a ≤ at + 20 → PutDone (decimal n) s₀ at s₁ a → PutDone (b ∷ []) s₁ a s₂ r
    → PutDone (decimal n ++ (b ∷ [])) s₀ at s₂ r × (r ≤ at + 21) × (length s₂ ≡ length s₀)
number-byte n b at a r s₀ s₁ s₂ h k p q =
    let a₁ : a ≡ at + length (decimal n) = p.position in
    let h₁ : at + length (decimal n) ≤ length s₀ = omega arith in
    let l₁ : length s₁ ≡ length s₀ = put-done-length _ _ _ _ _ h₁ p in
    let r₁ : r ≡ a + 1 = q.position in
    let h₂ : a + 1 ≤ length s₁ = omega arith in
    let l₂ : length s₂ ≡ length s₁ = put-done-length _ _ _ _ _ h₂ q in
    (put-done-more _ _ _ _ _ _ _ _ h₁ p q, omega arith, omega arith)

pub last-put : (most at a r : ℕ) (s₀ s₁ s₂ : List ℕ) → at + 21 ≤ length s₀ → a ≤ at + 20 → PutDone (decimal most) s₀ at s₁ a → PutDone (newline ∷ []) s₁ a s₂ r
    → PutDone (last_line most) s₀ at s₂ r × (r ≤ at + 21)
unfolding last_line
last-put most at a r s₀ s₁ s₂ h k p q = let d = number-byte most newline at a r s₀ s₁ s₂ h k p q in (d.0, d.1)

-- the three numbers of a tick's line, one behind the other
pub tick-put : (site : Site) (at a b c d e r : ℕ) (s₀ s₁ s₂ s₃ s₄ s₅ s₆ : List ℕ) → at + 63 ≤ length s₀ → a ≤ at + 20 → c ≤ b + 20 → e ≤ d + 20
    → PutDone (decimal site.primary.state.epoch) s₀ at s₁ a → PutDone (space ∷ []) s₁ a s₂ b
    → PutDone (decimal site.primary.state.queue.count) s₂ b s₃ c → PutDone (space ∷ []) s₃ c s₄ d
    → PutDone (decimal site.primary.state.waiting) s₄ d s₅ e → PutDone (newline ∷ []) s₅ e s₆ r
    → PutDone (tick_line (world_of site)) s₀ at s₆ r × (r ≤ at + 63)
unfolding tick_line world_of
tick-put site at a b c d e r s₀ s₁ s₂ s₃ s₄ s₅ s₆ h k₁ k₂ k₃ p₁ p₂ p₃ p₄ p₅ p₆ =
    let epoch = decimal site.primary.state.epoch in
    let count = decimal site.primary.state.queue.count in
    let waiting = decimal site.primary.state.waiting in
    let a₁ : a ≡ at + length epoch = p₁.position in
    let h₁ : at + length epoch ≤ length s₀ = omega arith in
    let l₁ : length s₁ ≡ length s₀ = put-done-length _ _ _ _ _ h₁ p₁ in
    let b₁ : b ≡ a + 1 = p₂.position in
    let h₂ : a + 1 ≤ length s₁ = omega arith in
    let l₂ : length s₂ ≡ length s₁ = put-done-length _ _ _ _ _ h₂ p₂ in
    let c₁ : c ≡ b + length count = p₃.position in
    let h₃ : b + length count ≤ length s₂ = omega arith in
    let l₃ : length s₃ ≡ length s₂ = put-done-length _ _ _ _ _ h₃ p₃ in
    let d₁ : d ≡ c + 1 = p₄.position in
    let h₄ : c + 1 ≤ length s₃ = omega arith in
    let l₄ : length s₄ ≡ length s₃ = put-done-length _ _ _ _ _ h₄ p₄ in
    let q₅ = number-byte site.primary.state.waiting newline d e r s₄ s₅ s₆ (omega arith) k₃ p₅ p₆ in
    let q₄ : PutDone (space ∷ (waiting ++ (newline ∷ []))) s₃ c s₆ r = put-done-more (space ∷ []) _ _ _ _ _ _ _ h₄ p₄ q₅.0 in
    let q₃ : PutDone (count ++ (space ∷ (waiting ++ (newline ∷ [])))) s₂ b s₆ r = put-done-more _ _ _ _ _ _ _ _ h₃ p₃ q₄ in
    let q₂ : PutDone (space ∷ (count ++ (space ∷ (waiting ++ (newline ∷ []))))) s₁ a s₆ r = put-done-more (space ∷ []) _ _ _ _ _ _ _ h₂ p₂ q₃ in
    (put-done-more _ _ _ _ _ _ _ _ h₁ p₁ q₂, omega (arith, q₅.1))
