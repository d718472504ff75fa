-- The packets held and the most ticks that a packet waited, against the ticks of all packets and takes. Assumes nothing.
use Prim.Native.Nat.{ℕ, ◌-◌, ◌<◌, max}
use mathlib.Core.Path.{◌≡◌, refl, sym, ap, subst, ◌∙◌}
use mathlib.Core.List.{List, [], ◌∷◌, ◌++◌}
use native.Mathlib.Omega.{arith}
use lib.ListN.{length, drop, get_or}
use Rattle.trials.specs.Trial.{longest_to}
use Rattle.trials.specs.Waits.{waits, greatest}

-- the ticks of all packets, of all takes, of the packets still held, and the most ticks of those taken
pub data Kept : List ℕ → List ℕ → List ℕ → ℕ → Type 0 where
  none : (held : List ℕ) → Kept held [] held 0
  more : (i j : ℕ) (sent taken held : List ℕ) (most : ℕ) → Kept sent taken held most → Kept (i ∷ sent) (j ∷ taken) held (max (j - i) most)

-- one more is sent
pub kept-sent : (i : ℕ) (sent taken held : List ℕ) (most : ℕ) → Kept sent taken held most → Kept (sent ++ (i ∷ [])) taken (held ++ (i ∷ [])) most
kept-sent i sent taken held most (none all) = none (all ++ (i ∷ []))
kept-sent i sent taken held most (more i' j sent' taken' held' most' k) = more i' j (sent' ++ (i ∷ [])) taken' (held' ++ (i ∷ [])) most' (kept-sent i sent' taken' held' most' k)

-- the oldest is taken
kept-oldest : (i j : ℕ) (rest sent taken held : List ℕ) (most : ℕ) → held ≡ i ∷ rest → Kept sent taken held most → Kept sent (taken ++ (j ∷ [])) rest (max most (j - i))
kept-oldest i j rest sent taken held most e (none all) =
    let m : max (j - i) 0 ≡ max 0 (j - i) = omega arith in
    subst (λ (l : List ℕ). Kept l (j ∷ []) rest (max 0 (j - i))) (sym e) (subst (Kept (i ∷ rest) (j ∷ []) rest) m (more i j rest [] rest 0 (none rest)))
kept-oldest i j rest sent taken held most e (more i' j' sent' taken' held' most' k) =
    let m : max (j' - i') (max most' (j - i)) ≡ max (max (j' - i') most') (j - i) = omega arith in
    subst (Kept (i' ∷ sent') (j' ∷ (taken' ++ (j ∷ []))) rest) m (more i' j' sent' (taken' ++ (j ∷ [])) rest (max most' (j - i)) (kept-oldest i j rest sent' taken' held' most' e k))

pub kept-taken : (j : ℕ) (sent taken held : List ℕ) (most : ℕ) → 0 < length held → Kept sent taken held most
    → Kept sent (taken ++ (j ∷ [])) (drop 1 held) (max most (j - get_or held 0 0))
kept-taken j sent taken [] most h k = absurd (omega arith)
kept-taken j sent taken (i ∷ rest) most h k = kept-oldest i j rest sent taken (i ∷ rest) most refl k

-- ---- the most ticks of all
module _ (end : ℕ) where
  longest-of : (held : List ℕ) (most : ℕ) → longest_to end most held ≡ max most (greatest (waits end held []))
  unfolding longest_to greatest waits
  longest-of [] most = omega arith
  longest-of (i ∷ held) most =
      let g = greatest (waits end held []) in
      let m : max (max most (end - i)) g ≡ max most (max (end - i) g) = omega arith in
      longest-of held (max most (end - i)) ∙ m

  pub kept-longest : (sent taken held : List ℕ) (most : ℕ) → Kept sent taken held most → longest_to end most held ≡ greatest (waits end sent taken)
  unfolding greatest waits
  kept-longest sent taken held most (none all) =
      let g = greatest (waits end all []) in
      let m : max 0 g ≡ g = omega arith in
      longest-of all 0 ∙ m
  kept-longest sent taken held most (more i j sent' taken' held' most' k) =
      let g = greatest (waits end held' []) in
      let m : max (max (j - i) most') g ≡ max (j - i) (max most' g) = omega arith in
      longest-of held' (max (j - i) most') ∙ m ∙ ap (λ (n : ℕ). max (j - i) n) (sym (longest-of held' most') ∙ kept-longest sent' taken' held' most' k)
