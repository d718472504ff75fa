-- Laws of the normal form: it is BLOCKs that rise, PAGEs that rise, STATE and COMMIT; it has the content of the records
-- that it is of, and the content determines it. Assumes nothing.
use mathlib.Core.Path.{◌≡◌, refl, sym, ap, ap₂, ◌∙◌, subst}
use mathlib.Core.Bool.{Bool, true, false, cond, ◌||◌}
use mathlib.Core.Logic.{⊎_elim}
use mathlib.Core.List.{List, [], ◌∷◌, ◌++◌, append-nil}
use Prim.Native.Nat.{ℕ, zero, suc, ◌+◌, ◌≤◌, ◌<◌}
use native.Mathlib.Omega.{arith}
use lib.Dec.{eqb}
use lib.ListN.{length}
use borrow.Author.Tests.{eq-eqb, ne_eqb}
use Rattle.lists.specs.Page.{gather}
use Rattle.lists.proofs.TestLaws.{by-test, refuted, lt-or-ge, cond-true, cond-false}
use Rattle.lists.proofs.PageLaws.{gather_ext}
use Rattle.records.specs.Message.{Message, page, block, state, commit, bytes_of}
use Rattle.staging.specs.SlotList.{Staged}
use Rattle.checkpoints.specs.Content.{is_page, is_block, is_state, named, last_of, SameContent}
use Rattle.checkpoints.specs.Normal.{once, normal_blocks, normal_pages, normal_of}
use Rattle.checkpoints.specs.Judge.{epoch_of}
use Rattle.checkpoints.proofs.KnownLaws.{epoch-cons}
use Rattle.checkpoints.proofs.ShapeLaws.{block_messages, page_messages, checkpoint_of, Rises, Below}
use Rattle.checkpoints.proofs.ContentLaws.{Same, same_refl, same-sym, same-trans, same_none, all_none, gather-same-none, gather-same, last-given, content-of, checkpoint-page, checkpoint-block, checkpoint-state}

-- ---- what the records say of number n, and of all numbers below d
abbrev pub staged_once : (ℕ → Message → Bool) → List Message → ℕ → List Staged
staged_once is ms n = cond (named (is n) ms) (record { number = n; bytes = last_of (is n) [] ms } ∷ []) []

-- all of them, in order of their numbers
abbrev pub normal_staged : (ℕ → Message → Bool) → (d : ℕ) → List Message → List Staged
normal_staged is d ms = gather (staged_once is ms) d

-- lists of BLOCKs and of PAGEs, one behind another and gathered
blocks-append : (e : ℕ) (xs ys : List Staged) → block_messages e (xs ++ ys) ≡ block_messages e xs ++ block_messages e ys
blocks-append e [] ys = refl
blocks-append e (b ∷ xs) ys = ap (λ (l : List Message). block e b.number b.bytes ∷ l) (blocks-append e xs ys)

pages-append : (e : ℕ) (xs ys : List Staged) → page_messages e (xs ++ ys) ≡ page_messages e xs ++ page_messages e ys
pages-append e [] ys = refl
pages-append e (p ∷ xs) ys = ap (λ (l : List Message). page e p.number p.bytes ∷ l) (pages-append e xs ys)

blocks-gather : (e : ℕ) (h : ℕ → List Staged) (d : ℕ) → block_messages e (gather h d) ≡ gather (λ n. block_messages e (h n)) d
unfolding gather
blocks-gather e h zero = refl
blocks-gather e h (suc d) = blocks-append e (gather h d) (h d) ∙ ap (λ (l : List Message). l ++ block_messages e (h d)) (blocks-gather e h d)

pages-gather : (e : ℕ) (h : ℕ → List Staged) (d : ℕ) → page_messages e (gather h d) ≡ gather (λ n. page_messages e (h n)) d
unfolding gather
pages-gather e h zero = refl
pages-gather e h (suc d) = pages-append e (gather h d) (h d) ∙ ap (λ (l : List Message). l ++ page_messages e (h d)) (pages-gather e h d)

-- as many BLOCKs as blocks
pub length-blocks : (e : ℕ) (bs : List Staged) → length (block_messages e bs) ≡ length bs
length-blocks e [] = refl
length-blocks e (b ∷ bs) = ap suc (length-blocks e bs)

-- as many PAGEs as pages
pub length-pages : (e : ℕ) (ps : List Staged) → length (page_messages e ps) ≡ length ps
length-pages e [] = refl
length-pages e (p ∷ ps) = ap suc (length-pages e ps)

-- ---- the normal form is a list of BLOCKs, one of PAGEs, STATE and COMMIT
module _ (e : ℕ) (ms : List Message) where
  -- its BLOCKs
  pub normal-blocks-are : (d : ℕ) → normal_blocks e d ms ≡ block_messages e (normal_staged is_block d ms)
  unfolding normal_blocks
  normal-blocks-are d =
      gather_ext (λ n. once (is_block n) (block e n) ms) (λ n. block_messages e (staged_once is_block ms n)) d (λ n l. go n (named (is_block n) ms))
      ∙ sym (blocks-gather e (staged_once is_block ms) d)
    where
      go : (n : ℕ) (b : Bool) → cond b (block e n (last_of (is_block n) [] ms) ∷ []) [] ≡ block_messages e (cond b (record { number = n; bytes = last_of (is_block n) [] ms } ∷ []) [])
      go n true = refl
      go n false = refl

  -- its PAGEs
  pub normal-pages-are : (m : ℕ) → normal_pages e m ms ≡ page_messages e (normal_staged is_page m ms)
  unfolding normal_pages
  normal-pages-are m =
      gather_ext (λ n. once (is_page n) (page e n) ms) (λ n. page_messages e (staged_once is_page ms n)) m (λ n l. go n (named (is_page n) ms))
      ∙ sym (pages-gather e (staged_once is_page ms) m)
    where
      go : (n : ℕ) (b : Bool) → cond b (page e n (last_of (is_page n) [] ms) ∷ []) [] ≡ page_messages e (cond b (record { number = n; bytes = last_of (is_page n) [] ms } ∷ []) [])
      go n true = refl
      go n false = refl

  -- all of it
  pub normal-is : (d m : ℕ) → normal_of e d m ms ≡ checkpoint_of e (normal_staged is_block d ms) (normal_staged is_page m ms) (last_of is_state [] ms)
  unfolding normal_of
  normal-is d m =
      let x = last_of is_state [] ms in
      let bs = normal_staged is_block d ms in
      let ps = normal_staged is_page m ms in
      ap₂ (λ (b p : List Message). b ++ (p ++ (state e x ∷ commit e (length p) (length b) ∷ []))) (normal-blocks-are d) (normal-pages-are m)
      ∙ ap₂ (λ (p b : ℕ). block_messages e bs ++ (page_messages e ps ++ (state e x ∷ commit e p b ∷ []))) (length-pages e ps) (length-blocks e bs)

-- ---- the numbers rise
rises-high : (from m n : ℕ) (xs : List Staged) → m ≤ n → Rises from m xs → Rises from n xs
rises-high from m n [] l up = tt
rises-high from m n (x ∷ xs) l up = (up.0, omega arith, rises-high (x.number + 1) m n xs l up.2)

-- the bound itself at the end
rises-more : (from m : ℕ) (xs : List Staged) (bytes : List ℕ) → from ≤ m → Rises from m xs → Rises from (suc m) (xs ++ (record { number = m; bytes = bytes } ∷ []))
rises-more from m [] bytes l up = (l, omega arith, tt)
rises-more from m (x ∷ xs) bytes l up = (up.0, omega arith, rises-more (x.number + 1) m xs bytes (omega arith) up.2)

-- so those of the normal form rise
pub normal-rises : (is : ℕ → Message → Bool) (d : ℕ) (ms : List Message) → Rises 0 d (normal_staged is d ms)
unfolding gather
normal-rises is zero ms = tt
normal-rises is (suc d) ms = go (named (is d) ms) (normal-rises is d ms)
  where
    go : (b : Bool) → Rises 0 d (normal_staged is d ms) → Rises 0 (suc d) (normal_staged is d ms ++ cond b (record { number = d; bytes = last_of (is d) [] ms } ∷ []) [])
    go true up = rises-more 0 d (normal_staged is d ms) (last_of (is d) [] ms) (omega arith) up
    go false up = rw append-nil (rises-high 0 d (suc d) (normal_staged is d ms) (omega arith) up)

-- numbers that rise are below the bound
pub rises-below : (from d : ℕ) (bs : List Staged) → Rises from d bs → Below d bs
rises-below from d [] up = tt
rises-below from d (b ∷ bs) up = (up.1, rises-below (b.number + 1) d bs up.2)

-- numbers that rise are no more than the bound leaves
pub rises-length : (from m : ℕ) (ps : List Staged) → from ≤ m → Rises from m ps → from + length ps ≤ m
rises-length from m [] l up = omega arith
rises-length from m (p ∷ ps) l up = omega (arith, rises-length (p.number + 1) m ps (omega arith) up.2)

-- ---- the content of the normal form
module _ (f : Message → Bool) (make : List ℕ → Message) (ms : List Message) where
  -- one record made of the last bytes says the same
  pub once-same : ((bs : List ℕ) → f (make bs) ≡ true) → ((bs : List ℕ) → bytes_of (make bs) ≡ bs) → Same f (once f make ms) ms
  unfolding named last_of
  once-same passes bytes =
      let last = last_of f [] ms in
      ⊎_elim
      (λ (t : named f ms ≡ true).
      subst (λ (l : List Message). Same f l ms) (sym (cond-true (named f ms) (make last ∷ []) [] t))
      (record {
        names = ap (λ (b : Bool). b || false) (passes last) ∙ sym t;
        last = λ z. cond-true (f (make last)) (bytes_of (make last)) z (passes last) ∙ bytes last ∙ sym (last-given f z ms ∙ cond-true (named f ms) last z t);
      }))
      (λ (t : named f ms ≡ false).
      subst (λ (l : List Message). Same f l ms) (sym (cond-false (named f ms) (make last ∷ []) [] t)) (same-sym f ms [] (same_none f ms t)))
      (by-test (named f ms))

  -- to a test that it does not pass it is as none
  pub once-other : (h : Message → Bool) → ((bs : List ℕ) → h (make bs) ≡ false) → Same h (once f make ms) []
  once-other h fails = go (named f ms)
    where
      go : (b : Bool) → Same h (cond b (make (last_of f [] ms) ∷ []) []) []
      go true = all_none h (make (last_of f [] ms) ∷ []) (fails (last_of f [] ms), tt)
      go false = same_refl h []

-- one kind of records, with a number: of each number below d, and of none that is not named
pub normal-one : (is : ℕ → Message → Bool) (make : ℕ → List ℕ → Message) → ((i n : ℕ) (bs : List ℕ) → is n (make i bs) ≡ eqb i n)
    → ((i : ℕ) (bs : List ℕ) → bytes_of (make i bs) ≡ bs)
    → (ms : List Message) (d n : ℕ) → (named (is n) ms ≡ true → n < d) → Same (is n) (gather (λ i. once (is i) (make i) ms) d) ms
normal-one is make numbers bytes ms d n low =
    let h : ℕ → List Message = λ i. once (is i) (make i) ms in
    let other : (i : ℕ) → (i ≡ n → ⊥) → Same (is n) (h i) [] = λ i ne. once-other (is i) (make i) ms (is n) (λ bs. numbers i n bs ∙ ne_eqb i n ne) in
    ⊎_elim
    (λ (l : n < d).
    same-trans (is n) (gather h d) (h n) ms (gather-same (is n) h n d l other)
    (once-same (is n) (make n) ms (λ bs. numbers n n bs ∙ eq-eqb n n refl) (bytes n)))
    (λ (l : d ≤ n).
    same-trans (is n) (gather h d) [] ms (gather-same-none (is n) h d (λ i k. other i (λ z. absurd (omega arith))))
    (same-sym (is n) ms [] (same_none (is n) ms (sym (refuted (named (is n) ms) (λ t. absurd (omega (arith, low t))))))))
    (lt-or-ge n d)

module _ (e : ℕ) (ms : List Message) where
  -- the BLOCKs of the normal form say of each block what the records say
  pub normal-block : (d n : ℕ) → (named (is_block n) ms ≡ true → n < d) → Same (is_block n) (normal_blocks e d ms) ms
  unfolding normal_blocks
  normal-block = normal-one is_block (block e) (λ i n bs. refl) (λ i bs. refl) ms

  -- its PAGEs say of each page what they say
  pub normal-page : (m p : ℕ) → (named (is_page p) ms ≡ true → p < m) → Same (is_page p) (normal_pages e m ms) ms
  unfolding normal_pages
  normal-page = normal-one is_page (page e) (λ i n bs. refl) (λ i bs. refl) ms

  -- the normal form of records that name no other blocks and pages has their content
  pub normal-content-of : (d m : ℕ) → ((n : ℕ) → named (is_block n) ms ≡ true → n < d) → ((p : ℕ) → named (is_page p) ms ≡ true → p < m)
      → named is_state ms ≡ true → SameContent (normal_of e d m ms) ms
  unfolding last_of
  normal-content-of d m low-d low-m seen =
      let bs = normal_staged is_block d ms in
      let ps = normal_staged is_page m ms in
      let x = last_of is_state [] ms in
      let nf = checkpoint_of e bs ps x in
      subst (λ (l : List Message). SameContent l ms) (sym (normal-is e ms d m))
      (content-of nf ms
      (λ p. same-trans (is_page p) nf (page_messages e ps) ms (checkpoint-page e bs ps x p)
      (subst (λ (l : List Message). Same (is_page p) l ms) (normal-pages-are e ms m) (normal-page m p (low-m p))))
      (λ n. same-trans (is_block n) nf (block_messages e bs) ms (checkpoint-block e bs ps x n)
      (subst (λ (l : List Message). Same (is_block n) l ms) (normal-blocks-are e ms d) (normal-block d n (low-d n))))
      (same-trans is_state nf (state e x ∷ []) ms (checkpoint-state e bs ps x) (subst (λ (l : List Message). Same is_state l ms) (cond-true (named is_state ms) (state e x ∷ []) [] seen) (once-same is_state (state e) ms (λ bs. refl) (λ bs. refl)))))

-- the content determines the normal form
pub normal-same : (e d m : ℕ) (xs ys : List Message) → SameContent xs ys → normal_of e d m xs ≡ normal_of e d m ys
unfolding normal_of normal_blocks normal_pages
normal-same e d m xs ys c =
    let made : (f : Message → Bool) (make : List ℕ → Message) → named f xs ≡ named f ys → last_of f [] xs ≡ last_of f [] ys → once f make xs ≡ once f make ys =
    λ f make n l. ap₂ (λ (b : Bool) (bs : List ℕ). cond b (make bs ∷ []) []) n l in
    let blocks = gather_ext (λ n. once (is_block n) (block e n) xs) (λ n. once (is_block n) (block e n) ys) d (λ n l. made (is_block n) (block e n) (c.blocks n) (c.block_bytes n)) in
    let pages = gather_ext (λ p. once (is_page p) (page e p) xs) (λ p. once (is_page p) (page e p) ys) m (λ p l. made (is_page p) (page e p) (c.pages p) (c.page_bytes p)) in
    rw (blocks, pages, c.processor)

-- its epoch
pub epoch-checkpoint : (e : ℕ) (bs ps : List Staged) (x : List ℕ) → epoch_of (checkpoint_of e bs ps x) ≡ e
epoch-checkpoint e [] [] x = epoch-cons (state e x) (commit e 0 0 ∷ [])
epoch-checkpoint e [] (p ∷ ps) x = epoch-cons (page e p.number p.bytes) (page_messages e ps ++ (state e x ∷ commit e (suc (length ps)) 0 ∷ []))
epoch-checkpoint e (b ∷ bs) ps x =
    epoch-cons (block e b.number b.bytes) (block_messages e bs ++ (page_messages e ps ++ (state e x ∷ commit e (length ps) (suc (length bs)) ∷ [])))

-- the normal form has the epoch that it is given
pub normal-epoch : (e d m : ℕ) (ms : List Message) → epoch_of (normal_of e d m ms) ≡ e
normal-epoch e d m ms = ap epoch_of (normal-is e ms d m) ∙ epoch-checkpoint e (normal_staged is_block d ms) (normal_staged is_page m ms) (last_of is_state [] ms)
