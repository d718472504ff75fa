-- The staged pages as what they will do to memory: one page more, and none. Assumes nothing.
use Prim.Native.Nat.{ℕ, ◌+◌, ◌*◌, ◌/◌, ◌≤◌, ◌<◌}
use mathlib.Core.Path.{◌≡◌, sym, ◌∙◌}
use mathlib.Core.Logic.{⊎_elim}
use mathlib.Core.Bool.{true, false}
use mathlib.Core.List.{List}
use native.Mathlib.Omega.{arith}
use lib.ListN.{length}
use Rattle.lists.specs.Page.{page, with_page}
use Rattle.lists.proofs.TestLaws.{by-test, eq-or-ne}
use Rattle.lists.proofs.PageLaws.{page-end, pages-ext, length-with-page, page-with-same, page-with-other}
use Rattle.marks.specs.Mark.{marked, with_mark, cleared}
use Rattle.marks.proofs.MarkLaws.{marked-same, marked_other, marked-cleared}
use Rattle.pages.specs.Dirty.{installed}
use Rattle.pages.proofs.InstallLaws.{length-installed, page-installed-marked, page-installed-unmarked}

module _ (memory staged marks : List ℕ) (u m : ℕ) (size : length memory ≡ m * u) (staged_size : length staged ≡ m * u) where
  -- none is marked: memory as it is
  pub installed-none : installed memory staged (cleared marks m) u m ≡ memory
  installed-none =
      pages-ext u m (installed memory staged (cleared marks m) u m) memory (length-installed memory staged (cleared marks m) u m size staged_size) size
      (λ p l. page-installed-unmarked memory staged (cleared marks m) u m size staged_size p l (marked-cleared marks m p l))

  -- one page staged and marked: the same page written there
  module _ (p : ℕ) (bs : List ℕ) (below : p < m) (word : p / 64 < length marks) (whole : length bs ≡ u) where
    abbrev staged' : List ℕ
    staged' = with_page u staged p bs

    abbrev marks' : List ℕ
    marks' = with_mark marks p

    abbrev before : List ℕ
    before = installed memory staged marks u m

    inside : p * u + u ≤ length staged
    inside = omega (arith, page-end p m u below)

    staged_size' : length (with_page u staged p bs) ≡ m * u
    staged_size' = length-with-page u p staged bs whole inside ∙ staged_size

    within : p * u + u ≤ length (installed memory staged marks u m)
    within = omega (arith, page-end p m u below, length-installed memory staged marks u m size staged_size)

    at : (q : ℕ) → q < m → page u (installed memory (with_page u staged p bs) (with_mark marks p) u m) q ≡ page u (with_page u (installed memory staged marks u m) p bs) q
    at q l =
        ⊎_elim
        (λ (e : q ≡ p).
        rw e
        (page-installed-marked memory staged' marks' u m size staged_size' p below (marked-same marks p word)
        ∙ page-with-same u p staged bs whole inside
        ∙ sym (page-with-same u p before bs whole within)))
        (λ (ne : q ≡ p → ⊥).
        ⊎_elim
        (λ (f : marked marks q ≡ true).
        page-installed-marked memory staged' marks' u m size staged_size' q l (marked_other marks p q ne ∙ f)
        ∙ page-with-other u p staged bs whole inside q ne
        ∙ sym (page-installed-marked memory staged marks u m size staged_size q l f)
        ∙ sym (page-with-other u p before bs whole within q ne))
        (λ (f : marked marks q ≡ false).
        page-installed-unmarked memory staged' marks' u m size staged_size' q l (marked_other marks p q ne ∙ f)
        ∙ sym (page-installed-unmarked memory staged marks u m size staged_size q l f)
        ∙ sym (page-with-other u p before bs whole within q ne))
        (by-test (marked marks q)))
        (eq-or-ne q p)

    pub installed-more : installed memory (with_page u staged p bs) (with_mark marks p) u m ≡ with_page u (installed memory staged marks u m) p bs
    installed-more =
        pages-ext u m (installed memory staged' marks' u m) (with_page u before p bs) (length-installed memory staged' marks' u m size staged_size')
        (length-with-page u p before bs whole within ∙ length-installed memory staged marks u m size staged_size) at
