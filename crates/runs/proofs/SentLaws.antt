-- Packets by port: one packet more, a first part, and one port named once. Assumes nothing.
use Prim.Native.Nat.{ℕ, ◌≤◌}
use mathlib.Core.Path.{◌≡◌, sym, ap, ◌∙◌}
use mathlib.Core.Bool.{Bool}
use mathlib.Core.Logic.{⊎_elim}
use mathlib.Core.List.{List, [], ◌∷◌, ◌++◌, map, map-append}
use native.Mathlib.Omega.{arith}
use lib.Dec.{eqb}
use borrow.Author.Tests.{eq-eqb, ne_eqb}
use Rattle.lists.specs.Select.{selected, times_in}
use Rattle.lists.proofs.TestLaws.{eq-or-ne}
use Rattle.lists.proofs.SelectLaws.{selected-append, selected-more, selected-same, times_none, times_more, times-same}
use Rattle.runs.specs.Plain.{Sent, of_port}
use Rattle.runs.proofs.FirstLaws.{FirstOf}

abbrev is_of : ℕ → Sent → Bool
is_of port s = eqb s.port port

abbrev bytes_of : Sent → List ℕ
bytes_of s = s.bytes

module _ (port : ℕ) where
  of-port-append : (xs ys : List Sent) → of_port port (xs ++ ys) ≡ of_port port xs ++ of_port port ys
  of-port-append xs ys = ap (map bytes_of) (selected-append (is_of port) xs ys) ∙ map-append bytes_of (selected (is_of port) xs) (selected (is_of port) ys)

  -- one packet more, of the port and of another
  pub of-port-more : (xs : List Sent) (s : Sent) → s.port ≡ port → of_port port (xs ++ (s ∷ [])) ≡ of_port port xs ++ (s.bytes ∷ [])
  of-port-more xs s e = ap (map bytes_of) (selected-more (is_of port) xs s (eq-eqb _ _ e)) ∙ map-append bytes_of (selected (is_of port) xs) (s ∷ [])

  pub of-port-same : (xs : List Sent) (s : Sent) → (s.port ≡ port → ⊥) → of_port port (xs ++ (s ∷ [])) ≡ of_port port xs
  of-port-same xs s ne = ap (map bytes_of) (selected-same (is_of port) xs s (ne_eqb _ _ ne))

  -- of a first part, a first part
  pub first-of-port : (xs ys : List Sent) → FirstOf xs ys → FirstOf (of_port port xs) (of_port port ys)
  first-of-port xs ys f = (of_port port f.0, sym (of-port-append xs f.0) ∙ ap (of_port port) f.1)

-- one port named once
pub one-named : (q : ℕ) (n : ℕ → ℕ) → 1 ≤ n q → (port : ℕ) → times_in port (q ∷ []) ≤ n port
one-named q n h port =
    let none = times_none port in
    ⊎_elim
    (λ (is : q ≡ port). omega (arith, times_more port q [] is, none, rw is at h))
    (λ (ne : q ≡ port → ⊥). omega (arith, times-same port q [] ne, none))
    (eq-or-ne q port)
