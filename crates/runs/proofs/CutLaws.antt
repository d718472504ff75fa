-- All calls count where no end is cut. Assumes nothing.
use mathlib.Core.Path.{◌≡◌, refl, ap, ap₂, ◌∙◌}
use mathlib.Core.Bool.{Bool, true, false, cond}
use mathlib.Core.List.{List, [], ◌∷◌, ◌++◌}
use Rattle.rules.specs.World.{Call}
use Rattle.runs.specs.Cut.{uncut, Cut, is_primarys, counted_calls}

abbrev pub no_cut : Cut
no_cut = record { primary = uncut; standby = uncut }

cond_same : {A : Type 0} (b : Bool) (x : A) → cond b x x ≡ x
cond_same true x = refl
cond_same false x = refl

after-uncut : (b : Bool) → ◌≡◌ {A = Cut} (record { primary = cond b uncut uncut; standby = cond b uncut uncut }) no_cut
after-uncut true = refl
after-uncut false = refl

pub counted-uncut : (cs : List Call) → counted_calls no_cut cs ≡ cs
counted-uncut [] = refl
counted-uncut (c ∷ cs) =
    ap₂ ◌++◌ (cond_same (is_primarys c) (c ∷ [])) (ap (λ (k : Cut). counted_calls k cs) (after-uncut (is_primarys c)) ∙ counted-uncut cs)
