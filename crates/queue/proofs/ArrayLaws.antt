-- The array of packets without one of them: those behind it copied one place to the front, and the freed entry made
-- empty. Assumes nothing.
use Rattle.std.proofs.Common.{◌≡◌, ℕ, ◌+◌, ◌-◌, ◌<◌, ◌≤◌, List, length, ap, ◌∙◌, arith}
use Rattle.std.specs.List.{copy_within}
use lib.ListN.{set}
use Rattle.lists.specs.Part.{removed, freed}
use Rattle.lists.proofs.PartLaws.{removed-paste, length_removed}
use Rattle.lists.proofs.ArrayLaws.{set-put}

pub closed : {A : Type 0} (l : List A) (at total : ℕ) (z : A) → at < total → total ≤ length l → set (copy_within l (at + 1) total at) (total - 1) z ≡ freed z at 1 total l
unfolding freed
closed l at total z h k =
    let w : length (removed at 1 total l) ≡ length l = length_removed at 1 total l (omega arith) k in
    ap (λ s. set s (total - 1) z) (removed-paste at 1 total l (omega arith) k) ∙ set-put (removed at 1 total l) (total - 1) z (omega arith)
