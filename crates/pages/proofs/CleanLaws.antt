-- Laws of the memory between two checkpoints: a guest's write, and the marks cleared. Assumes nothing.
use mathlib.Core.Path.{◌≡◌, refl, sym, ap, ◌∙◌}
use mathlib.Core.Logic.{⊎_elim}
use mathlib.Core.List.{List}
use Prim.Native.Nat.{ℕ, ◌+◌, ◌*◌, ◌/◌, ◌≤◌, ◌<◌}
use native.Mathlib.Omega.{arith}
use lib.ListN.{length}
use Rattle.lists.specs.Part.{put}
use Rattle.lists.proofs.TestLaws.{not-both, eq-or-ne}
use Rattle.lists.proofs.PageLaws.{page-end, page-put-other}
use Rattle.marks.specs.Mark.{marked, with_mark, cleared}
use Rattle.marks.proofs.MarkLaws.{marked-same, marked_other}
use Rattle.pages.specs.Clean.{Clean}

-- a guest's write inside page p, which becomes dirty
pub clean-write : (old memory dirty : List ℕ) (u m p o : ℕ) (bytes : List ℕ) → length memory ≡ m * u → p < m → p / 64 < length dirty → o + length bytes ≤ u
    → Clean old memory dirty u m → Clean old (put memory (p * u + o) bytes) (with_mark dirty p) u m
clean-write old memory dirty u m p o bytes size l word inside c =
    record {
      same = λ q k f.
          ⊎_elim
          (λ e. absurd (not-both (marked (with_mark dirty p) q) (ap (marked (with_mark dirty p)) e ∙ marked-same dirty p word) f))
          (λ n. page-put-other memory u p q o bytes n inside (omega (arith, page-end p m u l)) ∙ c.same q k (sym (marked_other dirty p q n) ∙ f))
          (eq-or-ne q p);
    }

-- a checkpoint clears the marks: memory is its own last checkpoint
pub clean-clear : (memory dirty : List ℕ) (u m : ℕ) → Clean memory memory (cleared dirty m) u m
clean-clear memory dirty u m = record { same = λ p l f. refl }
