-- Laws of the installed pages: the memory page by page, and the loop that copies the staged pages. Assumes nothing.
use mathlib.Core.Path.{◌≡◌, refl, sym, ◌∙◌}
use mathlib.Core.Logic.{⊎_elim}
use mathlib.Core.Bool.{true, false}
use mathlib.Core.List.{List}
use Prim.Native.Nat.{ℕ, zero, suc, ◌+◌, ◌*◌, ◌≤◌, ◌<◌}
use native.Mathlib.Omega.{arith}
use lib.ListN.{length}
use Rattle.lists.specs.Page.{page, with_page}
use Rattle.lists.proofs.TestLaws.{by-test, eq-or-ne}
use Rattle.lists.proofs.PageLaws.{page-end, length-gather, page-gather, length-page, pages-ext, length-with-page, page-with-same, page-with-other}
use Rattle.marks.specs.Mark.{marked}
use Rattle.marks.specs.Next.{marked_pages}
use Rattle.std.specs.List.{fold}
use Rattle.std.proofs.lemmas.List.Sums.{fold-append}
use Rattle.pages.specs.Dirty.{installed_page, installed}

module _ (memory staged marks : List ℕ) (u p : ℕ) where
  pub installed-marked : marked marks p ≡ true → installed_page memory staged marks u p ≡ page u staged p
  unfolding installed_page
  installed-marked e = rw e

  pub installed-unmarked : marked marks p ≡ false → installed_page memory staged marks u p ≡ page u memory p
  unfolding installed_page
  installed-unmarked e = rw e

module _ (memory staged marks : List ℕ) (u m : ℕ) (size : length memory ≡ m * u) (staged_size : length staged ≡ m * u) where
  length-installed-page : (p : ℕ) → p < m → length (installed_page memory staged marks u p) ≡ u
  length-installed-page p l =
      let fits = page-end p m u l in
      ⊎_elim
      (λ e. rw (installed-marked memory staged marks u p e) (length-page u p staged (omega arith)))
      (λ e. rw (installed-unmarked memory staged marks u p e) (length-page u p memory (omega arith)))
      (by-test (marked marks p))

  pub length-installed : length (installed memory staged marks u m) ≡ m * u
  unfolding installed
  length-installed = length-gather (installed_page memory staged marks u) u m length-installed-page

  -- page by page: the staged page where it is marked, else memory's own
  pub page-installed : (p : ℕ) → p < m → page u (installed memory staged marks u m) p ≡ installed_page memory staged marks u p
  unfolding installed
  page-installed p l = page-gather (installed_page memory staged marks u) u m p length-installed-page l

  pub page-installed-marked : (p : ℕ) → p < m → marked marks p ≡ true → page u (installed memory staged marks u m) p ≡ page u staged p
  page-installed-marked p l e = page-installed p l ∙ installed-marked memory staged marks u p e

  pub page-installed-unmarked : (p : ℕ) → p < m → marked marks p ≡ false → page u (installed memory staged marks u m) p ≡ page u memory p
  page-installed-unmarked p l e = page-installed p l ∙ installed-unmarked memory staged marks u p e

  -- any memory of these pages is the installed one
  pub installed-is : (new : List ℕ) → length new ≡ m * u → ((p : ℕ) → p < m → page u new p ≡ installed_page memory staged marks u p)
      → new ≡ installed memory staged marks u m
  installed-is new e h = pages-ext u m new (installed memory staged marks u m) e length-installed (λ p l. h p l ∙ sym (page-installed p l))

-- ---- the loop that copies them, over the marked pages
abbrev pub copied : List ℕ → ℕ → List ℕ → List ℕ → List ℕ
copied staged u memory pages = fold (λ (l : List ℕ) (p : ℕ). with_page u l p (page u staged p)) memory pages

-- the marked pages below p are copied
record Installing (memory staged marks : List ℕ) (u m : ℕ) (after : List ℕ) (p : ℕ) : Type 0 where
  pub size : length after ≡ length memory
  pub below : (q : ℕ) → q < p → page u after q ≡ installed_page memory staged marks u q
  pub ahead : (q : ℕ) → p ≤ q → q < m → page u after q ≡ page u memory q

module _ (memory staged marks : List ℕ) (u m : ℕ) (size : length memory ≡ m * u) (staged_size : length staged ≡ m * u) where
  -- one page more, which is marked or not
  with-marked : (after : List ℕ) (p : ℕ) → p < m → marked marks p ≡ true → Installing memory staged marks u m after p
      → Installing memory staged marks u m (with_page u after p (page u staged p)) (suc p)
  with-marked after p l t w =
      let fits : p * u + u ≤ length after = omega (arith, page-end p m u l, w.size) in
      let whole : length (page u staged p) ≡ u = length-page u p staged (omega (arith, page-end p m u l)) in
      let other : (q : ℕ) → (q ≡ p → ⊥) → page u (with_page u after p (page u staged p)) q ≡ page u after q = page-with-other u p after (page u staged p) whole fits in
      record {
        size = length-with-page u p after (page u staged p) whole fits ∙ w.size;
        below =
            λ q b. ⊎_elim
            (λ e. rw e (page-with-same u p after (page u staged p) whole fits ∙ sym (installed-marked memory staged marks u p t)))
            (λ d. other q d ∙ w.below q (omega arith))
            (eq-or-ne q p);
        ahead = λ q a b. other q (λ e. omega arith) ∙ w.ahead q (omega arith) b;
      }

  with-unmarked : (after : List ℕ) (p : ℕ) → p < m → marked marks p ≡ false → Installing memory staged marks u m after p → Installing memory staged marks u m after (suc p)
  with-unmarked after p l f w =
      record {
        size = w.size;
        below =
            λ q b. ⊎_elim
            (λ e. rw e (w.ahead p (omega arith) l ∙ sym (installed-unmarked memory staged marks u p f)))
            (λ d. w.below q (omega arith))
            (eq-or-ne q p);
        ahead = λ q a b. w.ahead q (omega arith) b;
      }

  copied-below : (p : ℕ) → p ≤ m → Installing memory staged marks u m (copied staged u memory (marked_pages marks p)) p
  unfolding marked_pages
  copied-below zero l = record { size = refl; below = λ q b. absurd (omega arith); ahead = λ q a b. refl }
  copied-below (suc p) l =
      let w = copied-below p (omega arith) in
      ⊎_elim
      (λ t. rw t (rw fold-append (with-marked (copied staged u memory (marked_pages marks p)) p l t w)))
      (λ f. rw f (with-unmarked (copied staged u memory (marked_pages marks p)) p l f w))
      (by-test (marked marks p))

  pub copied-all : copied staged u memory (marked_pages marks m) ≡ installed memory staged marks u m
  copied-all =
      let w = copied-below m (omega arith) in
      installed-is memory staged marks u m size staged_size (copied staged u memory (marked_pages marks m)) (w.size ∙ size) w.below
