-- The normal form of records that are not refused: their PAGEs as they are, as many BLOCKs as different blocks, their
-- processor state and content; it is not refused, and is its own normal form. Assumes nothing.
use mathlib.Core.Path.{◌≡◌, refl, sym, ap, ap₂, ◌∙◌, subst}
use mathlib.Core.Bool.{Bool, true, false, cond, ◌||◌, false≢true}
use mathlib.Core.Logic.{⊎_elim}
use mathlib.Core.List.{List, [], ◌∷◌, ◌++◌}
use Prim.Native.Nat.{ℕ, ◌+◌, ◌≤◌, ◌<◌}
use native.Mathlib.Omega.{arith}
use lib.Dec.{eqb}
use lib.ListN.{length}
use borrow.Author.Tests.{eq-eqb, ne_eqb}
use Rattle.lists.specs.Select.{is_in}
use Rattle.lists.proofs.TestLaws.{refuted, eq-or-ne, cond-true}
use Rattle.records.specs.Message.{Message, page, block, state, commit}
use Rattle.staging.specs.SlotList.{Staged}
use Rattle.runs.proofs.Effects.{All, Before}
use Rattle.checkpoints.specs.declared.FileSettings.{FileSettings}
use Rattle.checkpoints.specs.Content.{is_page, is_block, is_state, named, last_of, SameContent}
use Rattle.checkpoints.specs.Normal.{once, normal_blocks, normal_pages, normal_of}
use Rattle.checkpoints.specs.Judge.{Known, none_known, refusal_from, epoch_of}
use Rattle.checkpoints.proofs.KnownLaws.{known_after}
use Rattle.checkpoints.proofs.NumberLaws.{named-numbers, numbers-once, numbers-grow}
use Rattle.checkpoints.proofs.ShapeLaws.{block_messages, page_messages, checkpoint_of, front_of, Rises, Shape, front-commit, front-before, front-numbers, checkpoint-known, shape_of, shape-accepted}
use Rattle.checkpoints.proofs.ContentLaws.{Same, same-sym, same-trans, same_none, same-cons, checkpoint-page, checkpoint-block, checkpoint-state, named-rises, named-below}
use Rattle.checkpoints.proofs.CountLaws.{count-ext, count-in, length-counted}
use Rattle.checkpoints.proofs.NormalLaws.{normal_staged, length-blocks, normal-blocks-are, normal-pages-are, normal-is, normal-rises, rises-below, normal-page, normal-content-of, normal-same}

-- ---- PAGEs that rise are determined by what they name and its last bytes
-- the first is named, with its own bytes; the later ones do not name it
head-named : (e : ℕ) (p : Staged) (ps : List Staged) → named (is_page p.number) (page_messages e (p ∷ ps)) ≡ true
unfolding named
head-named e p ps = ap (λ (b : Bool). b || named (is_page p.number) (page_messages e ps)) (eq-eqb p.number p.number refl)

-- a number below the first is not named
not-early : (e n from m : ℕ) (ps : List Staged) → Rises from m ps → n < from → Same (is_page n) (page_messages e ps) []
not-early e n from m ps up l =
    same_none (is_page n) (page_messages e ps) (sym (refuted (named (is_page n) (page_messages e ps)) (λ t. let r = named-rises e n from m ps up t in omega arith)))

-- the last bytes of the first are its own
head-last : (e m : ℕ) (p : Staged) (ps : List Staged) → Rises (p.number + 1) m ps → last_of (is_page p.number) [] (page_messages e (p ∷ ps)) ≡ p.bytes
unfolding last_of
head-last e m p ps up =
    (not-early e p.number (p.number + 1) m ps up (omega arith)).last (cond (eqb p.number p.number) p.bytes [])
    ∙ cond-true (eqb p.number p.number) p.bytes [] (eq-eqb p.number p.number refl)

-- two such lists with the same content are one
pub rises-unique : (e from m : ℕ) (xs ys : List Staged) → Rises from m xs → Rises from m ys
    → ((p : ℕ) → Same (is_page p) (page_messages e xs) (page_messages e ys)) → xs ≡ ys
unfolding named
rises-unique e from m [] [] up vp same = refl
rises-unique e from m [] (y ∷ ys) up vp same = absurd (false≢true ((same y.number).names ∙ head-named e y ys))
rises-unique e from m (x ∷ xs) [] up vp same = absurd (false≢true (sym (same x.number).names ∙ head-named e x xs))
rises-unique e from m (x ∷ xs) (y ∷ ys) up vp same =
    let high = named-rises e x.number y.number m (y ∷ ys) (omega arith, vp.1, vp.2) (sym (same x.number).names ∙ head-named e x xs) in
    let low = named-rises e y.number x.number m (x ∷ xs) (omega arith, up.1, up.2) ((same y.number).names ∙ head-named e y ys) in
    let number : x.number ≡ y.number = omega arith in
    let bytes : x.bytes ≡ y.bytes =
    sym (head-last e m x xs up.2)
    ∙ (same x.number).last []
    ∙ ap (λ (n : ℕ). last_of (is_page n) [] (page_messages e (y ∷ ys))) number
    ∙ head-last e m y ys vp.2 in
    let others : (p : ℕ) → Same (is_page p) (page_messages e xs) (page_messages e ys) = λ p.
    ⊎_elim
    (λ (z : x.number ≡ p).
    same-trans (is_page p) (page_messages e xs) [] (page_messages e ys) (not-early e p (x.number + 1) m xs up.2 (omega arith))
    (same-sym (is_page p) (page_messages e ys) [] (not-early e p (y.number + 1) m ys vp.2 (omega arith))))
    (λ (ne : x.number ≡ p → ⊥).
    same-trans (is_page p) (page_messages e xs) (page_messages e (x ∷ xs)) (page_messages e ys)
    (same-sym (is_page p) (page_messages e (x ∷ xs)) (page_messages e xs) (same-cons (is_page p) (page e x.number x.bytes) (page_messages e xs) (ne_eqb x.number p ne)))
    (same-trans (is_page p) (page_messages e (x ∷ xs)) (page_messages e (y ∷ ys)) (page_messages e ys) (same p)
    (same-cons (is_page p) (page e y.number y.bytes) (page_messages e ys) (ne_eqb y.number p (λ z. ne (number ∙ z))))))
    (eq-or-ne x.number p) in
    ap₂ (λ (s : Staged) (l : List Staged). s ∷ l) (ap₂ (λ (n : ℕ) (b : List ℕ). record { number = n; bytes = b }) number bytes)
    (rises-unique e (x.number + 1) m xs ys up.2 (subst (λ (n : ℕ). Rises (n + 1) m ys) (sym number) vp.2) others)

-- ---- what is not refused
module _ (g : FileSettings) (ms : List Message) (s : Shape g ms) where
  -- their epoch
  abbrev E : ℕ
  E = epoch_of ms

  -- its records, of one test: those of its shape
  as-shaped : (f : Message → Bool) (ys : List Message) → Same f (checkpoint_of E s.bs s.ps s.x) ys → Same f ms ys
  as-shaped f ys h = subst (λ (l : List Message). Same f l ys) (sym s.are) h

  -- of a page, the PAGEs
  pub shape-page : (p : ℕ) → Same (is_page p) ms (page_messages E s.ps)
  shape-page p = as-shaped (is_page p) (page_messages E s.ps) (checkpoint-page E s.bs s.ps s.x p)

  -- of a block, the BLOCKs
  pub shape-block : (n : ℕ) → Same (is_block n) ms (block_messages E s.bs)
  shape-block n = as-shaped (is_block n) (block_messages E s.bs) (checkpoint-block E s.bs s.ps s.x n)

  -- of the processor, the STATE
  pub shape-state : Same is_state ms (state E s.x ∷ [])
  shape-state = as-shaped is_state (state E s.x ∷ []) (checkpoint-state E s.bs s.ps s.x)

  -- no page of m or more is named, no block of d or more, and there is a STATE
  pub page-low : (p : ℕ) → named (is_page p) ms ≡ true → p < g.m
  page-low p t = (named-rises E p 0 g.m s.ps s.rises (sym (shape-page p).names ∙ t)).1

  -- a block that is named is below D
  pub block-low : (n : ℕ) → named (is_block n) ms ≡ true → n < g.d
  block-low n t = named-below E n g.d s.bs s.below (sym (shape-block n).names ∙ t)

  -- there is a STATE
  pub state-named : named is_state ms ≡ true
  unfolding named
  state-named = shape-state.names

  -- the processor state
  pub normal-state : last_of is_state [] ms ≡ s.x
  unfolding last_of
  normal-state = shape-state.last []

  -- PAGEs that rise are gathered as they are
  pub normal-staged-pages : normal_staged is_page g.m ms ≡ s.ps
  normal-staged-pages =
      rises-unique E 0 g.m (normal_staged is_page g.m ms) s.ps (normal-rises is_page g.m ms) s.rises
      (λ p.
      same-trans (is_page p) (page_messages E (normal_staged is_page g.m ms)) ms (page_messages E s.ps)
      (subst (λ (l : List Message). Same (is_page p) l ms) (normal-pages-are E ms g.m) (normal-page E ms g.m p (page-low p)))
      (shape-page p))

  -- so the PAGEs of the normal form are those of the records
  pub normal-pages : normal_pages E g.m ms ≡ page_messages E s.ps
  normal-pages = normal-pages-are E ms g.m ∙ ap (page_messages E) normal-staged-pages

  -- as many BLOCKs as different blocks
  pub normal-blocks-count : length (normal_blocks E g.d ms) ≡ length (known_after none_known ms).numbers
  unfolding normal_blocks
  normal-blocks-count =
      let ns = (known_after none_known ms).numbers in
      length-counted (λ n. once (is_block n) (block E n) ms) (λ n. named (is_block n) ms) g.d (λ n. each (named (is_block n) ms) (block E n (last_of (is_block n) [] ms)))
      ∙ count-ext (λ n. named (is_block n) ms) (λ n. is_in n ns) g.d (λ n l. sym (named-numbers ms n))
      ∙ count-in g.d ns (numbers-once ms) (λ n h. block-low n (sym (named-numbers ms n) ∙ h))
    where
      each : (b : Bool) (x : Message) → length (cond b (x ∷ []) []) ≡ cond b 1 0
      each true x = refl
      each false x = refl

  -- the same of the list of blocks
  pub normal-staged-count : length (normal_staged is_block g.d ms) ≡ length (known_after none_known ms).numbers
  normal-staged-count =
      sym (length-blocks E (normal_staged is_block g.d ms)) ∙ ap length (sym (normal-blocks-are E ms g.d)) ∙ normal-blocks-count

  -- the different blocks are no more than the BLOCK records
  pub numbers-records : length (known_after none_known ms).numbers ≤ length s.bs
  numbers-records =
      let known : (known_after none_known ms).numbers ≡ (known_after none_known (block_messages E s.bs)).numbers =
      ap (λ (l : List Message). (known_after none_known l).numbers) s.are
      ∙ ap (λ (k : Known). k.numbers) (checkpoint-known none_known E s.bs s.ps s.x)
      ∙ front-numbers none_known E s.bs s.ps s.x in
      omega (arith, ap length known, (numbers-grow none_known (block_messages E s.bs)).1, length-blocks E s.bs)

  -- the normal form, in its parts
  abbrev pub normal_records : List Message
  normal_records = normal_of E g.d g.m ms

  -- it has BLOCKs that rise, the PAGEs and the processor state
  pub normal-form : normal_records ≡ checkpoint_of E (normal_staged is_block g.d ms) s.ps s.x
  normal-form = normal-is E ms g.d g.m ∙ ap₂ (λ (ps : List Staged) (x : List ℕ). checkpoint_of E (normal_staged is_block g.d ms) ps x) normal-staged-pages normal-state

  -- it has their content
  pub normal-content : SameContent normal_records ms
  normal-content = normal-content-of E ms g.d g.m block-low page-low state-named

  -- it is not refused
  pub normal-accepted : refusal_from g none_known normal_records ≡ 0
  normal-accepted =
      let bs = normal_staged is_block g.d ms in
      ap (refusal_from g none_known) normal-form
      ∙ shape-accepted g E bs s.ps s.x (rises-below 0 g.d bs (normal-rises is_block g.d ms)) s.rises
      (omega (arith, (numbers-grow none_known (block_messages E bs)).1, length-blocks E bs, normal-staged-count, s.few))
      (omega (arith, normal-staged-count, numbers-records, s.records))

  -- it is its own normal form
  pub normal-again : normal_of E g.d g.m normal_records ≡ normal_records
  normal-again = normal-same E g.d g.m normal_records ms normal-content

  -- records before the COMMIT, and it
  abbrev pub normal_front : List Message
  normal_front = front_of E (normal_staged is_block g.d ms) s.ps s.x

  -- none of them is a COMMIT
  pub normal-before : All Before normal_front
  normal-before = front-before E (normal_staged is_block g.d ms) s.ps s.x

  -- with the COMMIT they are the normal form
  pub normal-ends : normal_records ≡ normal_front ++ (commit E (length s.ps) (length (normal_staged is_block g.d ms)) ∷ [])
  normal-ends = let bs = normal_staged is_block g.d ms in normal-form ∙ sym (front-commit E bs s.ps s.x E (length s.ps) (length bs))

  -- so it has the shape
  pub normal-shape : Shape g normal_records
  normal-shape =
      let bs = normal_staged is_block g.d ms in
      subst (Shape g) (sym normal-ends) (shape_of g normal_front E (length s.ps) (length bs) normal-before (ap (refusal_from g none_known) (sym normal-ends) ∙ normal-accepted))
