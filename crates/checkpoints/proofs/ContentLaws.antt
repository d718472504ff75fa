-- Laws of what records name and of the last bytes named: one list behind another, lists of BLOCKs and of PAGEs, and
-- what is gathered. Assumes nothing.
use mathlib.Core.Path.{◌≡◌, refl, sym, ap, ap₂, ◌∙◌}
use mathlib.Core.Bool.{Bool, true, false, cond, ◌||◌, false≢true}
use mathlib.Core.Logic.{⊎_elim}
use mathlib.Core.List.{List, [], ◌∷◌, ◌++◌, append-nil}
use Prim.Native.Nat.{ℕ, zero, suc, ◌+◌, ◌≤◌, ◌<◌}
use native.Mathlib.Omega.{arith}
use lib.Dec.{eqb}
use lib.ListN.{length}
use borrow.Author.Tests.{eqb-true}
use lib.Arith.{lt_of_le-ne}
use Rattle.lists.specs.Page.{gather}
use Rattle.lists.proofs.TestLaws.{by-test, unless, eq-or-ne, cond-false}
use Rattle.records.specs.Message.{Message, page, block, state, commit, bytes_of}
use Rattle.staging.specs.SlotList.{Staged}
use Rattle.runs.proofs.Effects.{All}
use Rattle.checkpoints.specs.Content.{is_page, is_block, is_state, named, last_of, SameContent}
use Rattle.checkpoints.proofs.ShapeLaws.{block_messages, page_messages, checkpoint_of, Rises, Below}

-- ---- one list behind another
pub named-append : (f : Message → Bool) (xs ys : List Message) → named f (xs ++ ys) ≡ (named f xs || named f ys)
unfolding named
named-append f [] ys = refl
named-append f (x ∷ xs) ys = ap (λ (b : Bool). f x || b) (named-append f xs ys) ∙ or_assoc (f x) (named f xs) (named f ys)
  where
    or_assoc : (a b c : Bool) → (a || (b || c)) ≡ ((a || b) || c)
    or_assoc true b c = refl
    or_assoc false b c = refl

-- the last of both is the last of the second, or else of the first
pub last-append : (f : Message → Bool) (z : List ℕ) (xs ys : List Message) → last_of f z (xs ++ ys) ≡ last_of f (last_of f z xs) ys
unfolding last_of
last-append f z [] ys = refl
last-append f z (x ∷ xs) ys = last-append f (cond (f x) (bytes_of x) z) xs ys

-- where one is named, what was given for none does not matter
pub last-given : (f : Message → Bool) (z : List ℕ) (xs : List Message) → last_of f z xs ≡ cond (named f xs) (last_of f [] xs) z
unfolding named last_of
last-given f z [] = refl
last-given f z (x ∷ xs) =
    last-given f (cond (f x) (bytes_of x) z) xs
    ∙ choice (f x) (named f xs) (last_of f [] xs) (bytes_of x) z
    ∙ sym (ap (λ (l : List ℕ). cond (f x || named f xs) l z) (last-given f (cond (f x) (bytes_of x) []) xs))
  where
    choice : (a b : Bool) (l y z : List ℕ) → cond b l (cond a y z) ≡ cond (a || b) (cond b l (cond a y [])) z
    choice true true l y z = refl
    choice true false l y z = refl
    choice false true l y z = refl
    choice false false l y z = refl

-- ---- lists with the same of what passes a test: whether one does, and the last bytes
pub record Same (f : Message → Bool) (xs ys : List Message) : Type 0 where
  pub names : named f xs ≡ named f ys
  pub last : (z : List ℕ) → last_of f z xs ≡ last_of f z ys

module _ (f : Message → Bool) where
  -- each list with itself
  pub same_refl : (xs : List Message) → Same f xs xs
  same_refl xs = record { names = refl; last = λ z. refl }

  -- either way round
  pub same-sym : (xs ys : List Message) → Same f xs ys → Same f ys xs
  same-sym xs ys s = record { names = sym s.names; last = λ z. sym (s.last z) }

  -- one after the other
  pub same-trans : (xs ys zs : List Message) → Same f xs ys → Same f ys zs → Same f xs zs
  same-trans xs ys zs s t = record { names = s.names ∙ t.names; last = λ z. s.last z ∙ t.last z }

  -- the last bytes, where none were given, are enough
  pub same_of : (xs ys : List Message) → named f xs ≡ named f ys → last_of f [] xs ≡ last_of f [] ys → Same f xs ys
  same_of xs ys n l =
      record { names = n; last = λ z. last-given f z xs ∙ ap₂ (λ (b : Bool) (bs : List ℕ). cond b bs z) n l ∙ sym (last-given f z ys) }

  -- where none is named it is as the empty list
  pub same_none : (xs : List Message) → named f xs ≡ false → Same f xs []
  unfolding named last_of
  same_none xs n = record { names = n; last = λ z. last-given f z xs ∙ cond-false (named f xs) (last_of f [] xs) z n }

  -- one list behind another
  pub same-append : (us vs xs ys : List Message) → Same f us vs → Same f xs ys → Same f (us ++ xs) (vs ++ ys)
  same-append us vs xs ys s t =
      record {
        names = named-append f us xs ∙ ap₂ ◌||◌ s.names t.names ∙ sym (named-append f vs ys);
        last = λ z. last-append f z us xs ∙ t.last (last_of f z us) ∙ ap (λ (l : List ℕ). last_of f l ys) (s.last z) ∙ sym (last-append f z vs ys);
      }

  -- the parts in which none passes may be left out
  pub same-behind : (xs ys : List Message) → Same f xs [] → Same f (xs ++ ys) ys
  same-behind xs ys s = same-append xs [] ys ys s (same_refl ys)

  -- at the end too
  pub same-before : (xs ys : List Message) → Same f ys [] → Same f (xs ++ ys) xs
  same-before xs ys s = rw append-nil at (same-append xs xs ys [] (same_refl xs) s)

  -- one record in front that does not pass
  pub same-cons : (x : Message) (xs : List Message) → f x ≡ false → Same f (x ∷ xs) xs
  unfolding named last_of
  same-cons x xs e = record { names = ap (λ (b : Bool). b || named f xs) e; last = λ z. ap (λ (b : Bool). last_of f (cond b (bytes_of x) z) xs) e }

  -- where each record fails the test none is named
  pub named_none : (xs : List Message) → All (λ x. f x ≡ false) xs → named f xs ≡ false
  unfolding named
  named_none [] a = refl
  named_none (x ∷ xs) a = ap₂ ◌||◌ a.0 (named_none xs a.1)

  -- and they are as the empty list
  pub all_none : (xs : List Message) → All (λ x. f x ≡ false) xs → Same f xs []
  all_none xs a = same_none xs (named_none xs a)

  -- ---- what is gathered
  module _ (h : ℕ → List Message) where
    -- none passes where none of the parts has one
    pub gather-same-none : (d : ℕ) → ((i : ℕ) → i < d → Same f (h i) []) → Same f (gather h d) []
    unfolding gather
    gather-same-none zero none = same_refl []
    gather-same-none (suc d) none = same-append (gather h d) [] (h d) [] (gather-same-none d (λ i l. none i (omega arith))) (none d (omega arith))

    -- where one part alone has some, it is that part's
    pub gather-same : (n d : ℕ) → n < d → ((i : ℕ) → (i ≡ n → ⊥) → Same f (h i) []) → Same f (gather h d) (h n)
    unfolding gather
    gather-same n zero l none = absurd (omega arith)
    gather-same n (suc d) l none =
        ⊎_elim
        (λ (e : d ≡ n). rw (sym e) (same-behind (gather h d) (h d) (gather-same-none d (λ i k. none i (λ c. absurd (omega arith))))))
        (λ (ne : d ≡ n → ⊥). same-trans (gather h d ++ h d) (gather h d) (h n) (same-before (gather h d) (h d) (none d ne)) (gather-same n d (omega (arith, lt_of_ne d n l ne)) none))
        (eq-or-ne d n)
      where
        lt_of_ne : (d n : ℕ) → n < suc d → (d ≡ n → ⊥) → n < d
        lt_of_ne d n l ne = lt_of_le-ne (omega arith) (λ e. ne (sym e))

-- ---- the content, of each page and block and of the processor
pub content-of : (xs ys : List Message) → ((p : ℕ) → Same (is_page p) xs ys) → ((n : ℕ) → Same (is_block n) xs ys) → Same is_state xs ys → SameContent xs ys
content-of xs ys p n s =
    record {
      pages = λ i. (p i).names;
      page_bytes = λ i. (p i).last [];
      blocks = λ i. (n i).names;
      block_bytes = λ i. (n i).last [];
      processor = s.last [];
    }

-- the same of each page
pub content-page : (xs ys : List Message) → SameContent xs ys → (p : ℕ) → Same (is_page p) xs ys
content-page xs ys c p = same_of (is_page p) xs ys (c.pages p) (c.page_bytes p)

-- the same of each block
pub content-block : (xs ys : List Message) → SameContent xs ys → (n : ℕ) → Same (is_block n) xs ys
content-block xs ys c n = same_of (is_block n) xs ys (c.blocks n) (c.block_bytes n)

-- each list with itself
pub content-refl : (xs : List Message) → SameContent xs xs
content-refl xs = record { pages = λ p. refl; page_bytes = λ p. refl; blocks = λ n. refl; block_bytes = λ n. refl; processor = refl }

-- either way round
pub content-sym : (xs ys : List Message) → SameContent xs ys → SameContent ys xs
content-sym xs ys c =
    record {
      pages = λ p. sym (c.pages p);
      page_bytes = λ p. sym (c.page_bytes p);
      blocks = λ n. sym (c.blocks n);
      block_bytes = λ n. sym (c.block_bytes n);
      processor = sym c.processor;
    }

-- one after the other
pub content-trans : (xs ys zs : List Message) → SameContent xs ys → SameContent ys zs → SameContent xs zs
content-trans xs ys zs c d =
    record {
      pages = λ p. c.pages p ∙ d.pages p;
      page_bytes = λ p. c.page_bytes p ∙ d.page_bytes p;
      blocks = λ n. c.blocks n ∙ d.blocks n;
      block_bytes = λ n. c.block_bytes n ∙ d.block_bytes n;
      processor = c.processor ∙ d.processor;
    }

-- ---- BLOCKs name no page and no processor state, PAGEs no block and none
blocks-all : (f : Message → Bool) → ((e n : ℕ) (bs : List ℕ) → f (block e n bs) ≡ false) → (e : ℕ) (bs : List Staged) → All (λ x. f x ≡ false) (block_messages e bs)
blocks-all f h e [] = tt
blocks-all f h e (b ∷ bs) = (h e b.number b.bytes, blocks-all f h e bs)

-- a test that no PAGE passes
pages-all : (f : Message → Bool) → ((e p : ℕ) (bs : List ℕ) → f (page e p bs) ≡ false) → (e : ℕ) (ps : List Staged) → All (λ x. f x ≡ false) (page_messages e ps)
pages-all f h e [] = tt
pages-all f h e (p ∷ ps) = (h e p.number p.bytes, pages-all f h e ps)

-- BLOCKs are as the empty list to a test that no BLOCK passes
pub blocks-none : (f : Message → Bool) → ((e n : ℕ) (bs : List ℕ) → f (block e n bs) ≡ false) → (e : ℕ) (bs : List Staged) → Same f (block_messages e bs) []
blocks-none f h e bs = all_none f (block_messages e bs) (blocks-all f h e bs)

-- PAGEs are as the empty list to a test that no PAGE passes
pub pages-none : (f : Message → Bool) → ((e p : ℕ) (bs : List ℕ) → f (page e p bs) ≡ false) → (e : ℕ) (ps : List Staged) → Same f (page_messages e ps) []
pages-none f h e ps = all_none f (page_messages e ps) (pages-all f h e ps)

-- ---- so of the records of a checkpoint the BLOCKs say what a block has, the PAGEs what a page has, the STATE the
-- processor's
module _ (e : ℕ) (bs ps : List Staged) (x : List ℕ) where
  -- the STATE and the COMMIT
  abbrev pub ends : List Message
  ends = state e x ∷ commit e (length ps) (length bs) ∷ []

  -- a page has what the PAGEs say
  pub checkpoint-page : (p : ℕ) → Same (is_page p) (checkpoint_of e bs ps x) (page_messages e ps)
  checkpoint-page p =
      same-trans (is_page p) (checkpoint_of e bs ps x) (page_messages e ps ++ ends) (page_messages e ps)
      (same-behind (is_page p) (block_messages e bs) (page_messages e ps ++ ends) (blocks-none (is_page p) (λ e n bs. refl) e bs))
      (same-before (is_page p) (page_messages e ps) ends (all_none (is_page p) ends (refl, (refl, tt))))

  -- a block has what the BLOCKs say
  pub checkpoint-block : (n : ℕ) → Same (is_block n) (checkpoint_of e bs ps x) (block_messages e bs)
  checkpoint-block n =
      same-before (is_block n) (block_messages e bs) (page_messages e ps ++ ends)
      (same-append (is_block n) (page_messages e ps) [] ends [] (pages-none (is_block n) (λ e p bs. refl) e ps) (all_none (is_block n) ends (refl, (refl, tt))))

  -- the processor has what the STATE says
  pub checkpoint-state : Same is_state (checkpoint_of e bs ps x) (state e x ∷ [])
  unfolding named last_of
  checkpoint-state =
      same-trans is_state (checkpoint_of e bs ps x) (page_messages e ps ++ ends) (state e x ∷ [])
      (same-behind is_state (block_messages e bs) (page_messages e ps ++ ends) (blocks-none is_state (λ e n bs. refl) e bs))
      (same-trans is_state (page_messages e ps ++ ends) ends (state e x ∷ [])
      (same-behind is_state (page_messages e ps) ends (pages-none is_state (λ e p bs. refl) e ps))
      (record { names = refl; last = λ z. refl }))

  -- which is its bytes
  pub checkpoint-processor : last_of is_state [] (checkpoint_of e bs ps x) ≡ x
  unfolding last_of
  checkpoint-processor = checkpoint-state.last []

-- ---- what is named is in its range
pub named-rises : (e p from m : ℕ) (ps : List Staged) → Rises from m ps → named (is_page p) (page_messages e ps) ≡ true → (from ≤ p) × (p < m)
unfolding named
named-rises e p from m [] up h = absurd (false≢true h)
named-rises e p from m (q ∷ ps) up h =
    ⊎_elim
    (λ (t : eqb q.number p ≡ true). let s = eqb-true q.number p t in (omega arith, omega arith))
    (λ (t : eqb q.number p ≡ false).
    let r = named-rises e p (q.number + 1) m ps up.2 (unless (eqb q.number p) (named (is_page p) (page_messages e ps)) h t) in
    (omega arith, r.1))
    (by-test (eqb q.number p))

-- a block that is named is below the bound
pub named-below : (e n d : ℕ) (bs : List Staged) → Below d bs → named (is_block n) (block_messages e bs) ≡ true → n < d
unfolding named
named-below e n d [] low h = absurd (false≢true h)
named-below e n d (b ∷ bs) low h =
    ⊎_elim
    (λ (t : eqb b.number n ≡ true). let s = eqb-true b.number n t in omega arith)
    (λ (t : eqb b.number n ≡ false). named-below e n d bs low.1 (unless (eqb b.number n) (named (is_block n) (block_messages e bs)) h t))
    (by-test (eqb b.number n))
