-- Refusals: tests with their numbers, in the order in which they are made, and what a refused call leaves. Assumes nothing.
use Rattle.std.specs.Prelude.{ℕ, Bool, cond, ◌&&◌, List, [], ◌∷◌, leb, eqb}

-- what has to hold, and the number that it is refused with
pub record Test : Type 0 where
  pub number : ℕ
  pub holds : Bool

abbrev pub test : ℕ → Bool → Test
test number holds = record { number = number; holds = holds }

-- the number of the first test that fails, 0 where all hold
abbrev pub refusal : List Test → ℕ
refusal [] = 0
refusal (t ∷ ts) = cond t.holds (refusal ts) t.number

-- the new value where a call is accepted, else the old: for state, value and buffer alike
abbrev pub pick {ℓ} : {A : Type ℓ} → ℕ → A → A → A
pick number new old = cond (eqb number 0) new old

-- x lies between low and high, both included
abbrev pub within : ℕ → ℕ → ℕ → Bool
within low high x = leb low x && leb x high
