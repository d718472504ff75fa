-- Records with the same content do the same to a checkpoint's images. Assumes nothing.
use Prim.Native.Nat.{ℕ, ◌+◌, ◌*◌, ◌≤◌, ◌<◌}
use mathlib.Core.Path.{◌≡◌, refl, sym, ap, ◌∙◌}
use mathlib.Core.Logic.{⊎_elim}
use mathlib.Core.Bool.{Bool, cond}
use mathlib.Core.List.{List, [], ◌∷◌}
use native.Mathlib.Omega.{arith}
use lib.Dec.{eqb}
use lib.ListN.{length}
use borrow.Author.Tests.{eq-eqb, ne_eqb}
use Rattle.lists.specs.Page.{page as page_at, with_page}
use Rattle.lists.proofs.TestLaws.{eq-or-ne}
use Rattle.lists.proofs.PageLaws.{page-end, pages-ext, whole-with-page, page-with-same, page-with-other}
use Rattle.records.specs.Message.{Message, page, block, state, commit, ack}
use Rattle.settings.specs.declared.StandbySettings.{StandbySettings}
use Rattle.runs.specs.Plain.{Checkpoint}
use Rattle.runs.proofs.Effects.{effect, effects, All}
use Rattle.checkpoints.specs.Content.{is_page, is_block, is_state, last_of, SameContent}
use Rattle.checkpoints.proofs.ContentLaws.{content-page, content-block}
use Rattle.checkpoints.proofs.Standing.{Inside}

-- one page written: each page of the image
page-after : (u m p q : ℕ) (l bs : List ℕ) → p < m → length bs ≡ u → length l ≡ m * u → page_at u (with_page u l p bs) q ≡ cond (eqb p q) bs (page_at u l q)
page-after u m p q l bs below whole size =
    let fits : p * u + u ≤ length l = omega (arith, page-end p m u below, size) in
    ⊎_elim
    (λ (e : q ≡ p). ap (page_at u (with_page u l p bs)) e ∙ page-with-same u p l bs whole fits ∙ sym (ap (λ (t : Bool). cond t bs (page_at u l q)) (eq-eqb p q (sym e))))
    (λ (ne : q ≡ p → ⊥). page-with-other u p l bs whole fits q ne ∙ sym (ap (λ (t : Bool). cond t bs (page_at u l q)) (ne_eqb p q (λ e. ne (sym e)))))
    (eq-or-ne q p)

module _ (x : StandbySettings) where
  -- the lengths of memory and of the disk stay
  memory-size : (c : Checkpoint) (ms : List Message) → length c.memory ≡ x.m * x.u → All (Inside x) ms → length (effects x.u c ms).memory ≡ x.m * x.u
  memory-size c [] size f = size
  memory-size c (page e p bs ∷ ms) size f = memory-size (effect x.u c (page e p bs)) ms (whole-with-page x.u x.m c.memory size p bs f.0.0 f.0.1) f.1
  memory-size c (block e n bs ∷ ms) size f = memory-size (effect x.u c (block e n bs)) ms size f.1
  memory-size c (state e bs ∷ ms) size f = memory-size (effect x.u c (state e bs)) ms size f.1
  memory-size c (commit e p b ∷ ms) size f = memory-size c ms size f.1
  memory-size c (ack e ∷ ms) size f = memory-size c ms size f.1

  disk-size : (c : Checkpoint) (ms : List Message) → length c.disk ≡ x.d * x.u → All (Inside x) ms → length (effects x.u c ms).disk ≡ x.d * x.u
  disk-size c [] size f = size
  disk-size c (page e p bs ∷ ms) size f = disk-size (effect x.u c (page e p bs)) ms size f.1
  disk-size c (block e n bs ∷ ms) size f = disk-size (effect x.u c (block e n bs)) ms (whole-with-page x.u x.d c.disk size n bs f.0.0 f.0.1) f.1
  disk-size c (state e bs ∷ ms) size f = disk-size (effect x.u c (state e bs)) ms size f.1
  disk-size c (commit e p b ∷ ms) size f = disk-size c ms size f.1
  disk-size c (ack e ∷ ms) size f = disk-size c ms size f.1

  -- a page is as the last PAGE of its number has it, and so is a block
  memory-page : (q : ℕ) (c : Checkpoint) (ms : List Message) → length c.memory ≡ x.m * x.u → All (Inside x) ms
      → page_at x.u (effects x.u c ms).memory q ≡ last_of (is_page q) (page_at x.u c.memory q) ms
  unfolding last_of
  memory-page q c [] size f = refl
  memory-page q c (page e p bs ∷ ms) size f =
      memory-page q (effect x.u c (page e p bs)) ms (whole-with-page x.u x.m c.memory size p bs f.0.0 f.0.1) f.1
      ∙ ap (λ (d : List ℕ). last_of (is_page q) d ms) (page-after x.u x.m p q c.memory bs f.0.0 f.0.1 size)
  memory-page q c (block e n bs ∷ ms) size f = memory-page q (effect x.u c (block e n bs)) ms size f.1
  memory-page q c (state e bs ∷ ms) size f = memory-page q (effect x.u c (state e bs)) ms size f.1
  memory-page q c (commit e p b ∷ ms) size f = memory-page q c ms size f.1
  memory-page q c (ack e ∷ ms) size f = memory-page q c ms size f.1

  disk-block : (q : ℕ) (c : Checkpoint) (ms : List Message) → length c.disk ≡ x.d * x.u → All (Inside x) ms
      → page_at x.u (effects x.u c ms).disk q ≡ last_of (is_block q) (page_at x.u c.disk q) ms
  unfolding last_of
  disk-block q c [] size f = refl
  disk-block q c (page e p bs ∷ ms) size f = disk-block q (effect x.u c (page e p bs)) ms size f.1
  disk-block q c (block e n bs ∷ ms) size f =
      disk-block q (effect x.u c (block e n bs)) ms (whole-with-page x.u x.d c.disk size n bs f.0.0 f.0.1) f.1
      ∙ ap (λ (d : List ℕ). last_of (is_block q) d ms) (page-after x.u x.d n q c.disk bs f.0.0 f.0.1 size)
  disk-block q c (state e bs ∷ ms) size f = disk-block q (effect x.u c (state e bs)) ms size f.1
  disk-block q c (commit e p b ∷ ms) size f = disk-block q c ms size f.1
  disk-block q c (ack e ∷ ms) size f = disk-block q c ms size f.1

  -- the processor state is the last STATE's
  processor-last : (c : Checkpoint) (ms : List Message) → (effects x.u c ms).processor ≡ last_of is_state c.processor ms
  unfolding last_of
  processor-last c [] = refl
  processor-last c (page e p bs ∷ ms) = processor-last (effect x.u c (page e p bs)) ms
  processor-last c (block e n bs ∷ ms) = processor-last (effect x.u c (block e n bs)) ms
  processor-last c (state e bs ∷ ms) = processor-last (effect x.u c (state e bs)) ms
  processor-last c (commit e p b ∷ ms) = processor-last c ms
  processor-last c (ack e ∷ ms) = processor-last c ms

  -- so the same content gives the same images
  module _ (c : Checkpoint) (xs ys : List Message) (same : SameContent xs ys) (fx : All (Inside x) xs) (fy : All (Inside x) ys) where
    pub same_memory : length c.memory ≡ x.m * x.u → (effects x.u c xs).memory ≡ (effects x.u c ys).memory
    same_memory size =
        pages-ext x.u x.m (effects x.u c xs).memory (effects x.u c ys).memory (memory-size c xs size fx) (memory-size c ys size fy)
        (λ q l. memory-page q c xs size fx ∙ (content-page xs ys same q).last (page_at x.u c.memory q) ∙ sym (memory-page q c ys size fy))

    pub same-disk : length c.disk ≡ x.d * x.u → (effects x.u c xs).disk ≡ (effects x.u c ys).disk
    same-disk size =
        pages-ext x.u x.d (effects x.u c xs).disk (effects x.u c ys).disk (disk-size c xs size fx) (disk-size c ys size fy)
        (λ q l. disk-block q c xs size fx ∙ (content-block xs ys same q).last (page_at x.u c.disk q) ∙ sym (disk-block q c ys size fy))

    pub same-processor : c.processor ≡ [] → (effects x.u c xs).processor ≡ (effects x.u c ys).processor
    same-processor none =
        processor-last c xs ∙ ap (λ (d : List ℕ). last_of is_state d xs) none ∙ same.processor ∙ ap (λ (d : List ℕ). last_of is_state d ys) (sym none) ∙ sym (processor-last c ys)
