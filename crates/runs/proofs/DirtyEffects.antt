-- "the dirty pages give the next checkpoint's memory": what the PAGEs of a checkpoint do to the last one. Assumes nothing.
use Prim.Native.Nat.{ℕ, zero, suc, ◌+◌, ◌*◌, ◌≤◌, ◌<◌}
use mathlib.Core.Path.{◌≡◌, refl, sym, ap, ◌∙◌}
use mathlib.Core.Logic.{⊎_elim}
use mathlib.Core.Bool.{true, false}
use mathlib.Core.List.{List, [], ◌∷◌}
use native.Mathlib.Nat.{le_refl}
use native.Mathlib.Numerals.{add-one}
use native.Mathlib.Omega.{arith}
use lib.ListN.{length}
use Rattle.lists.specs.Page.{page, with_page}
use Rattle.lists.proofs.TestLaws.{by-test, lt-or-ge}
use Rattle.lists.proofs.PageLaws.{page-end, length-page, pages-ext, length-with-page, page-with-same, page-with-other}
use Rattle.records.specs.Message.{Message}
use Rattle.records.specs.Message as message
use Rattle.marks.specs.Mark.{marked}
use Rattle.pages.specs.Clean.{Clean}
use Rattle.pages.specs.DirtyMessages.{dirty_messages}
use Rattle.pages.proofs.DirtyMessagesLaws.{messages-none, messages-marked, messages-unmarked}
use Rattle.runs.specs.Plain.{Checkpoint}
use Rattle.runs.proofs.Effects.{effects, effects-append, All, all_append, Before}

abbrev with_memory : Checkpoint → List ℕ → Checkpoint
with_memory c memory = record { memory = memory; disk = c.disk; processor = c.processor; packets = c.packets }

module _ (c : Checkpoint) (memory dirty : List ℕ) (u e m : ℕ) (old : length c.memory ≡ m * u) (size : length memory ≡ m * u) (clean : Clean c.memory memory dirty u m) where
  -- after the PAGEs below page k: those pages are memory's, the others still c's
  record Upto (k : ℕ) (l : List ℕ) : Type 0 where
    is : effects u c (dirty_messages memory dirty u e k) ≡ with_memory c l
    long : length l ≡ m * u
    done : (p : ℕ) → p < k → page u l p ≡ page u memory p
    left : (p : ℕ) → k ≤ p → p < m → page u l p ≡ page u c.memory p

  upto-none : Upto 0 c.memory
  upto-none = record { is = rw messages-none; long = old; done = λ p h. absurd (omega arith); left = λ p h l. refl }

  -- a page that is not dirty
  upto_skip : (k : ℕ) (l : List ℕ) → k < m → marked dirty k ≡ false → Upto k l → Upto (k + 1) l
  upto_skip k l h f x =
      record {
        is = ap (effects u c) (messages-unmarked memory dirty u e k f) ∙ x.is;
        long = x.long;
        done = λ p a. ⊎_elim (λ (z : p < k). x.done p z) (λ (z : k ≤ p). let q : p ≡ k = omega arith in rw q (x.left k (le_refl k) h ∙ sym (clean.same k h f))) (lt-or-ge p k);
        left = λ p a b. x.left p (omega arith) b;
      }

  -- a dirty one
  upto-page : (k : ℕ) (l : List ℕ) → k < m → marked dirty k ≡ true → Upto k l → Upto (k + 1) (with_page u l k (page u memory k))
  upto-page k l h f x =
      let inside : k * u + u ≤ length l = omega (arith, page-end k m u h, x.long) in
      let whole : length (page u memory k) ≡ u = length-page u k memory (omega (arith, page-end k m u h, size)) in
      record {
        is =
            ap (effects u c) (messages-marked memory dirty u e k f)
            ∙ effects-append u c (dirty_messages memory dirty u e k) (message.page e k (page u memory k) ∷ [])
            ∙ ap (λ (z : Checkpoint). effects u z (message.page e k (page u memory k) ∷ [])) x.is;
        long = length-with-page u k l (page u memory k) whole inside ∙ x.long;
        done = λ p a.
            ⊎_elim
            (λ (z : p < k). page-with-other u k l (page u memory k) whole inside p (λ q. omega arith) ∙ x.done p z)
            (λ (z : k ≤ p). let q : p ≡ k = omega arith in rw q (page-with-same u k l (page u memory k) whole inside))
            (lt-or-ge p k);
        left = λ p a b. page-with-other u k l (page u memory k) whole inside p (λ q. omega arith) ∙ x.left p (omega arith) b;
      }

  upto : (k : ℕ) → k ≤ m → (l : List ℕ) × Upto k l
  upto zero h = (c.memory, upto-none)
  upto (suc k) h =
      let r = upto k (omega arith) in
      rw (← add-one)
      (⊎_elim
      (λ (f : marked dirty k ≡ true). (with_page u r.0 k (page u memory k), upto-page k r.0 h f r.1))
      (λ (f : marked dirty k ≡ false). (r.0, upto_skip k r.0 h f r.1))
      (by-test (marked dirty k)))

  -- all of them
  pub effects-dirty : effects u c (dirty_messages memory dirty u e m) ≡ with_memory c memory
  effects-dirty =
      let r = upto m (le_refl m) in
      r.1.is ∙ ap (with_memory c) (pages-ext u m r.0 memory r.1.long size (λ p h. r.1.done p h))

-- ---- they are PAGEs, and readable
module _ (memory dirty : List ℕ) (u e : ℕ) where
  all-pages : (P : Message → Type 0) → ((p : ℕ) (bs : List ℕ) → P (message.page e p bs)) → (m : ℕ) → All P (dirty_messages memory dirty u e m)
  all-pages P f zero = rw messages-none tt
  all-pages P f (suc m) =
      rw (← add-one)
      (⊎_elim
      (λ (z : marked dirty m ≡ true). rw (messages-marked memory dirty u e m z) (all_append P (dirty_messages memory dirty u e m) _ (all-pages P f m) (f m (page u memory m), tt)))
      (λ (z : marked dirty m ≡ false). rw (messages-unmarked memory dirty u e m z) (all-pages P f m))
      (by-test (marked dirty m)))

  pub dirty-before : (m : ℕ) → All Before (dirty_messages memory dirty u e m)
  dirty-before m = all-pages Before (λ p bs. tt) m
