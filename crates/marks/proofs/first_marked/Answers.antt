-- `marks::first_marked` meets its contract: the first page of the walk.
use Prim.Native.Nat.{ℕ}
use mathlib.Core.Path.{◌≡◌, ◌∙◌}
use mathlib.Core.List.{List, [], ◌∷◌}
use Rattle.std.specs.Prelude.{Option, Some, None}
use Rattle.std.specs.Option.{MatchOption, unwrap_or}
use Rattle.marks.specs.Next.{marked_pages, first_marked}
use Rattle.marks.proofs.WalkLaws.{first-none, first-some}
use Rattle.marks.proofs.first_marked.Goals as goal

first : (ws : List ℕ) (m : ℕ) (r : Option ℕ) (left : List ℕ) → MatchOption r ((marked_pages ws m ≡ []) × (left ≡ [])) (λ x. marked_pages ws m ≡ x ∷ left) → unwrap_or r m ≡ first_marked ws m
first ws m None left h = first-none ws m h.0
first ws m (Some x) left h = first-some ws m x left h

pub returns : goal.returns
returns c = c.unwrap_or.ensures ∙ first c.args.ws.now c.args.m c.next.result _ (rw c.marked.ensures at c.next.ensures.steps)
