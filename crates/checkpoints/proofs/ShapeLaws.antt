-- The records of a checkpoint that is not refused: BLOCKs, then PAGEs that rise, then STATE and COMMIT with the counts,
-- all with one epoch; and such records are not refused. Assumes nothing.
use mathlib.Core.Path.{◌≡◌, refl, sym, ap, ap₂, ◌∙◌, subst}
use mathlib.Core.Bool.{true, false, true≢false, false≢true}
use mathlib.Core.List.{List, [], ◌∷◌, ◌++◌, append_assoc}
use Prim.Native.Nat.{ℕ, ◌+◌, ◌≤◌, ◌<◌}
use native.Mathlib.Nat.{zero-add}
use native.Mathlib.Omega.{arith}
use lib.ListN.{length, length-append}
use Rattle.lists.specs.Select.{is_in}
use Rattle.lists.proofs.SelectLaws.{with-number-new}
use Rattle.records.specs.Message.{Message, page, block, state, commit, ack}
use Rattle.staging.specs.SlotList.{Staged}
use Rattle.runs.proofs.Effects.{All, Before}
use Rattle.checkpoints.specs.declared.FileSettings.{FileSettings}
use Rattle.checkpoints.specs.Judge.{Known, none_known, with_state, known_with, refusal_from, epoch_of}
use Rattle.checkpoints.proofs.KnownLaws.{OfEpoch, CommitFacts, of-with, of-after, known_after, known-append, page-facts, block-facts, state-facts, commit-facts, page-of, block_of, state-of, commit-of, refusal-cons, cons-refusal, nil-refusal, refusal-append, append-refusal, message_epoch, epoch-cons, first-known, first-epoch, all-epoch}
use Rattle.checkpoints.proofs.NumberLaws.{numbers-grow, few-after, records-after}

-- a BLOCK, and a PAGE, of each
abbrev pub block_messages : ℕ → List Staged → List Message
block_messages e [] = []
block_messages e (b ∷ bs) = block e b.number b.bytes ∷ block_messages e bs

abbrev pub page_messages : ℕ → List Staged → List Message
page_messages e [] = []
page_messages e (p ∷ ps) = page e p.number p.bytes ∷ page_messages e ps

-- all of them, with a STATE and the COMMIT behind
abbrev pub checkpoint_of : (e : ℕ) → (bs ps : List Staged) → List ℕ → List Message
checkpoint_of e bs ps x = block_messages e bs ++ (page_messages e ps ++ (state e x ∷ commit e (length ps) (length bs) ∷ []))

-- all of them but the COMMIT
abbrev pub front_of : (e : ℕ) → (bs ps : List Staged) → List ℕ → List Message
front_of e bs ps x = block_messages e bs ++ (page_messages e ps ++ (state e x ∷ []))

-- numbers that rise, the first of them not below `from`, all below m
abbrev pub Rises : (from m : ℕ) → List Staged → Type 0
Rises from m [] = Unit {0}
Rises from m (p ∷ ps) = (from ≤ p.number) × (p.number < m) × Rises (p.number + 1) m ps

-- numbers below d
abbrev pub Below : (d : ℕ) → List Staged → Type 0
Below d [] = Unit {0}
Below d (b ∷ bs) = (b.number < d) × Below d bs

pub record Shape (g : FileSettings) (ms : List Message) : Type 0 where
  pub bs : List Staged
  pub ps : List Staged
  pub x : List ℕ
  pub are : ms ≡ checkpoint_of (epoch_of ms) bs ps x
  pub below : Below g.d bs
  pub rises : Rises 0 g.m ps
  pub few : length (known_after none_known ms).numbers ≤ g.b
  pub records : length bs ≤ 65535
  pub known-records : (known_after none_known ms).records ≡ length bs
  pub known-pages : (known_after none_known ms).pages ≡ length ps
  pub known-seen : (known_after none_known ms).seen ≡ true
  pub known-epoch : (known_after none_known ms).epoch ≡ epoch_of ms

-- ---- what is known after BLOCKs and PAGEs
pub blocks-records : (k : Known) (e : ℕ) (bs : List Staged) → (known_after k (block_messages e bs)).records ≡ k.records + length bs
blocks-records k e [] = omega arith
blocks-records k e (b ∷ bs) = omega (arith, blocks-records (known_with k (block e b.number b.bytes)) e bs)

-- BLOCKs count no page
pub blocks-pages : (k : Known) (e : ℕ) (bs : List Staged) → (known_after k (block_messages e bs)).pages ≡ k.pages
blocks-pages k e [] = refl
blocks-pages k e (b ∷ bs) = blocks-pages (known_with k (block e b.number b.bytes)) e bs

-- they leave the least page that may come next
pub blocks-next : (k : Known) (e : ℕ) (bs : List Staged) → (known_after k (block_messages e bs)).next ≡ k.next
blocks-next k e [] = refl
blocks-next k e (b ∷ bs) = blocks-next (known_with k (block e b.number b.bytes)) e bs

-- they are no STATE
pub blocks-seen : (k : Known) (e : ℕ) (bs : List Staged) → (known_after k (block_messages e bs)).seen ≡ k.seen
blocks-seen k e [] = refl
blocks-seen k e (b ∷ bs) = blocks-seen (known_with k (block e b.number b.bytes)) e bs

-- each PAGE counts
pub pages-pages : (k : Known) (e : ℕ) (ps : List Staged) → (known_after k (page_messages e ps)).pages ≡ k.pages + length ps
pages-pages k e [] = omega arith
pages-pages k e (p ∷ ps) = omega (arith, pages-pages (known_with k (page e p.number p.bytes)) e ps)

-- PAGEs count no BLOCK
pub pages-records : (k : Known) (e : ℕ) (ps : List Staged) → (known_after k (page_messages e ps)).records ≡ k.records
pages-records k e [] = refl
pages-records k e (p ∷ ps) = pages-records (known_with k (page e p.number p.bytes)) e ps

-- they name no block
pub pages-numbers : (k : Known) (e : ℕ) (ps : List Staged) → (known_after k (page_messages e ps)).numbers ≡ k.numbers
pages-numbers k e [] = refl
pages-numbers k e (p ∷ ps) = pages-numbers (known_with k (page e p.number p.bytes)) e ps

-- they are no STATE
pub pages-seen : (k : Known) (e : ℕ) (ps : List Staged) → (known_after k (page_messages e ps)).seen ≡ k.seen
pages-seen k e [] = refl
pages-seen k e (p ∷ ps) = pages-seen (known_with k (page e p.number p.bytes)) e ps

-- ---- the phases. Behind STATE there is none but the COMMIT
module _ (g : FileSettings) where
  pub after-state : (k : Known) → k.seen ≡ true → (xs : List Message) → All Before xs → refusal_from g k xs ≡ 0 → xs ≡ []
  after-state k s [] f z = refl
  after-state k s (page e p bs ∷ xs) f z = absurd (true≢false (sym s ∙ (page-facts g k e p bs (refusal-cons g k (page e p bs) xs z).0).before-state))
  after-state k s (block e n bs ∷ xs) f z = absurd (true≢false (sym s ∙ (block-facts g k e n bs (refusal-cons g k (block e n bs) xs z).0).before-state))
  after-state k s (state e bs ∷ xs) f z = absurd (true≢false (sym s ∙ (state-facts g k e bs (refusal-cons g k (state e bs) xs z).0).first))
  after-state k s (commit e p b ∷ xs) f z = absurd f.0
  after-state k s (ack e ∷ xs) f z = absurd f.0

  -- PAGEs that rise, and the STATE
  pub record PagesRest (e from : ℕ) (xs : List Message) : Type 0 where
    pub ps : List Staged
    pub x : List ℕ
    pub are : xs ≡ page_messages e ps ++ (state e x ∷ [])
    pub rises : Rises from g.m ps

  -- all of one epoch
  abbrev OfE : ℕ → List Message → Type 0
  OfE e xs = All (λ x. message_epoch x ≡ e) xs

  -- the STATE alone
  state-rest : (k : Known) (e a : ℕ) (bs : List ℕ) (xs : List Message) → a ≡ e → All Before xs → refusal_from g k (state a bs ∷ xs) ≡ 0 → (from : ℕ) → PagesRest e from (state a bs ∷ xs)
  state-rest k e a bs xs same f z from =
      let c = refusal-cons g k (state a bs) xs z in
      record { ps = []; x = bs; are = ap₂ (λ (n : ℕ) (l : List Message). state n bs ∷ l) same (after-state (known_with k (state a bs)) refl xs f c.1); rises = tt }

  -- a PAGE in front
  page-rest : (e from p : ℕ) (bs : List ℕ) (a : ℕ) (xs : List Message) → a ≡ e → from ≤ p → p < g.m → PagesRest e (p + 1) xs → PagesRest e from (page a p bs ∷ xs)
  page-rest e from p bs a xs same low high r =
      record {
        ps = record { number = p; bytes = bs } ∷ r.ps;
        x = r.x;
        are = ap₂ (λ (n : ℕ) (l : List Message). page n p bs ∷ l) same r.are;
        rises = (low, high, r.rises);
      }

  -- behind a PAGE there are PAGEs and the STATE
  pub pages-phase : (k : Known) (e : ℕ) (xs : List Message) → 0 < k.pages → k.seen ≡ false → All Before xs → OfE e xs → refusal_from g k xs ≡ 0 → (known_after k xs).seen ≡ true → PagesRest e k.next xs
  pages-phase k e [] some s f same z t = absurd (true≢false (sym t ∙ s))
  pages-phase k e (page a p bs ∷ xs) some s f same z t =
      let c = refusal-cons g k (page a p bs) xs z in
      let h = page-facts g k a p bs c.0 in
      page-rest e k.next p bs a xs same.0 h.rising h.low (pages-phase (known_with k (page a p bs)) e xs (omega arith) s f.1 same.1 c.1 t)
  pages-phase k e (block a n bs ∷ xs) some s f same z t =
      let h = (block-facts g k a n bs (refusal-cons g k (block a n bs) xs z).0).before-pages in absurd (omega arith)
  pages-phase k e (state a bs ∷ xs) some s f same z t = state-rest k e a bs xs same.0 f.1 z k.next
  pages-phase k e (commit a p b ∷ xs) some s f same z t = absurd f.0
  pages-phase k e (ack a ∷ xs) some s f same z t = absurd f.0

  -- BLOCKs, and those
  pub record BlocksRest (e from : ℕ) (xs : List Message) : Type 0 where
    pub bs : List Staged
    pub ps : List Staged
    pub x : List ℕ
    pub are : xs ≡ front_of e bs ps x
    pub below : Below g.d bs
    pub rises : Rises from g.m ps

  -- those without a BLOCK
  no_blocks : (e from : ℕ) (xs : List Message) → PagesRest e from xs → BlocksRest e from xs
  no_blocks e from xs r = record { bs = []; ps = r.ps; x = r.x; are = r.are; below = tt; rises = r.rises }

  -- before any PAGE there are BLOCKs, PAGEs and the STATE
  pub blocks-phase : (k : Known) (e : ℕ) (xs : List Message) → k.seen ≡ false → All Before xs → OfE e xs → refusal_from g k xs ≡ 0 → (known_after k xs).seen ≡ true → BlocksRest e k.next xs
  blocks-phase k e [] s f same z t = absurd (true≢false (sym t ∙ s))
  blocks-phase k e (page a p bs ∷ xs) s f same z t =
      let c = refusal-cons g k (page a p bs) xs z in
      let h = page-facts g k a p bs c.0 in
      no_blocks e k.next (page a p bs ∷ xs)
      (page-rest e k.next p bs a xs same.0 h.rising h.low (pages-phase (known_with k (page a p bs)) e xs (omega arith) s f.1 same.1 c.1 t))
  blocks-phase k e (block a n bs ∷ xs) s f same z t =
      let c = refusal-cons g k (block a n bs) xs z in
      let h = block-facts g k a n bs c.0 in
      let r = blocks-phase (known_with k (block a n bs)) e xs s f.1 same.1 c.1 t in
      record {
        bs = record { number = n; bytes = bs } ∷ r.bs;
        ps = r.ps;
        x = r.x;
        are = ap₂ (λ (m : ℕ) (l : List Message). block m n bs ∷ l) same.0 r.are;
        below = (h.low, r.below);
        rises = r.rises;
      }
  blocks-phase k e (state a bs ∷ xs) s f same z t = no_blocks e k.next (state a bs ∷ xs) (state-rest k e a bs xs same.0 f.1 z k.next)
  blocks-phase k e (commit a p b ∷ xs) s f same z t = absurd f.0
  blocks-phase k e (ack a ∷ xs) s f same z t = absurd f.0

-- the records before the COMMIT, and it
pub front-commit : (e : ℕ) (bs ps : List Staged) (x : List ℕ) (a p b : ℕ)
    → front_of e bs ps x ++ (commit a p b ∷ []) ≡ block_messages e bs ++ (page_messages e ps ++ (state e x ∷ commit a p b ∷ []))
front-commit e bs ps x a p b =
    append_assoc (block_messages e bs) (page_messages e ps ++ (state e x ∷ [])) (commit a p b ∷ [])
    ∙ ap (λ (l : List Message). block_messages e bs ++ l) (append_assoc (page_messages e ps) (state e x ∷ []) (commit a p b ∷ []))

-- none of them is a COMMIT
pub front-before : (e : ℕ) (bs ps : List Staged) (x : List ℕ) → All Before (front_of e bs ps x)
front-before e [] [] x = (tt, tt)
front-before e [] (p ∷ ps) x = (tt, front-before e [] ps x)
front-before e (b ∷ bs) ps x = (tt, front-before e bs ps x)

-- ---- what is known after all of them
module _ (k : Known) (e : ℕ) (bs ps : List Staged) (x : List ℕ) where
  -- after the BLOCKs, the PAGEs and the STATE
  pub front-known : known_after k (front_of e bs ps x) ≡ with_state (known_after (known_after k (block_messages e bs)) (page_messages e ps)) e
  front-known =
      known-append k (block_messages e bs) (page_messages e ps ++ (state e x ∷ []))
      ∙ known-append (known_after k (block_messages e bs)) (page_messages e ps) (state e x ∷ [])

  -- so many BLOCK records
  pub front-records : (known_after k (front_of e bs ps x)).records ≡ k.records + length bs
  front-records = ap (λ (h : Known). h.records) front-known ∙ pages-records (known_after k (block_messages e bs)) e ps ∙ blocks-records k e bs

  -- so many pages
  pub front-pages : (known_after k (front_of e bs ps x)).pages ≡ k.pages + length ps
  front-pages =
      ap (λ (h : Known). h.pages) front-known
      ∙ pages-pages (known_after k (block_messages e bs)) e ps
      ∙ ap (λ (n : ℕ). n + length ps) (blocks-pages k e bs)

  -- the blocks that the BLOCKs name
  pub front-numbers : (known_after k (front_of e bs ps x)).numbers ≡ (known_after k (block_messages e bs)).numbers
  front-numbers = ap (λ (h : Known). h.numbers) front-known ∙ pages-numbers (known_after k (block_messages e bs)) e ps

  -- and the STATE
  pub front-seen : (known_after k (front_of e bs ps x)).seen ≡ true
  front-seen = ap (λ (h : Known). h.seen) front-known

  -- the COMMIT adds nothing
  pub checkpoint-known : known_after k (checkpoint_of e bs ps x) ≡ known_after k (front_of e bs ps x)
  checkpoint-known =
      ap (known_after k) (sym (front-commit e bs ps x e (length ps) (length bs)))
      ∙ known-append k (front_of e bs ps x) (commit e (length ps) (length bs) ∷ [])

-- ---- the shape of what is not refused
shape-from : (g : FileSettings) (xs : List Message) (e p b a : ℕ) → a ≡ epoch_of (xs ++ (commit e p b ∷ []))
    → refusal_from g none_known (xs ++ (commit e p b ∷ [])) ≡ 0 → CommitFacts (known_after none_known xs) e p b → e ≡ a
    → (known_after none_known xs).epoch ≡ a → BlocksRest g a 0 xs → Shape g (xs ++ (commit e p b ∷ []))
shape-from g xs e p b a same z c same-commit same_known r =
    let ms = xs ++ (commit e p b ∷ []) in
    let few = few-after g none_known ms z (omega arith) in
    let known : known_after none_known ms ≡ known_after none_known xs = known-append none_known xs (commit e p b ∷ []) in
    let records : (known_after none_known xs).records ≡ length r.bs = ap (λ (l : List Message). (known_after none_known l).records) r.are ∙ front-records none_known a r.bs r.ps r.x ∙ zero-add (length r.bs) in
    let pages : (known_after none_known xs).pages ≡ length r.ps = ap (λ (l : List Message). (known_after none_known l).pages) r.are ∙ front-pages none_known a r.bs r.ps r.x ∙ zero-add (length r.ps) in
    let are : ms ≡ checkpoint_of a r.bs r.ps r.x =
    ap₂ (λ (l : List Message) (m : Message). l ++ (m ∷ [])) r.are (ap₂ (λ (q c : ℕ). commit q c b) same-commit (c.pages-same ∙ pages) ∙ ap (commit a (length r.ps)) (c.records-same ∙ records))
    ∙ front-commit a r.bs r.ps r.x a (length r.ps) (length r.bs) in
    record {
      bs = r.bs;
      ps = r.ps;
      x = r.x;
      are = are ∙ ap (λ (n : ℕ). checkpoint_of n r.bs r.ps r.x) same;
      below = r.below;
      rises = r.rises;
      few = few;
      records = subst (λ (n : ℕ). n ≤ 65535) (ap (λ (h : Known). h.records) known ∙ records) (records-after g none_known ms z (omega arith));
      known-records = ap (λ (h : Known). h.records) known ∙ records;
      known-pages = ap (λ (h : Known). h.pages) known ∙ pages;
      known-seen = ap (λ (h : Known). h.seen) known ∙ c.after-state;
      known-epoch = ap (λ (h : Known). h.epoch) known ∙ same_known ∙ same;
    }

-- records up to a COMMIT, none of which is refused, have the shape
pub shape_of : (g : FileSettings) (xs : List Message) (e p b : ℕ) → All Before xs → refusal_from g none_known (xs ++ (commit e p b ∷ [])) ≡ 0
    → Shape g (xs ++ (commit e p b ∷ []))
shape_of g [] e p b f z = absurd (false≢true (commit-facts g none_known e p b (refusal-cons g none_known (commit e p b) [] z).0).after-state)
shape_of g (y ∷ ys) e p b f z =
    let xs = y ∷ ys in
    let a = message_epoch y in
    let r = refusal-append g none_known xs (commit e p b ∷ []) z in
    let c = commit-facts g (known_after none_known xs) e p b (refusal-cons g (known_after none_known xs) (commit e p b) [] r.1).0 in
    let w = first-known y f.0 in
    let q = first-epoch y f.0 ys in
    let known : (known_after none_known xs).epoch ≡ a = q.1 ∙ epoch-cons y ys in
    let others = all-epoch g (known_with none_known y) a w.0 w.1 ys (refusal-cons g none_known y ys r.0).1 in
    shape-from g xs e p b a (sym (epoch-cons y (ys ++ (commit e p b ∷ [])))) z c (c.same-epoch q.0 ∙ known) known
    (blocks-phase g none_known a xs refl f (refl, others) r.0 c.after-state)

-- ---- and back
blocks-epoch : (e : ℕ) (bs : List Staged) → All (λ x. message_epoch x ≡ e) (block_messages e bs)
blocks-epoch e [] = tt
blocks-epoch e (b ∷ bs) = (refl, blocks-epoch e bs)

-- all PAGEs are of their epoch
pages-epoch : (e : ℕ) (ps : List Staged) → All (λ x. message_epoch x ≡ e) (page_messages e ps)
pages-epoch e [] = tt
pages-epoch e (p ∷ ps) = (refl, pages-epoch e ps)

module _ (g : FileSettings) (e : ℕ) where
  -- BLOCKs below D, at most B different ones, are not refused
  pub blocks-accepted : (k : Known) (bs : List Staged) → OfEpoch k e → k.pages ≡ 0 → k.seen ≡ false → Below g.d bs
      → length (known_after k (block_messages e bs)).numbers ≤ g.b → k.records + length bs ≤ 65535 → refusal_from g k (block_messages e bs) ≡ 0
  blocks-accepted k [] same none s low few most = nil-refusal g k
  blocks-accepted k (b ∷ bs) same none s low few most =
      let x = block e b.number b.bytes in
      let grown = numbers-grow (known_with k x) (block_messages e bs) in
      let room : is_in b.number k.numbers ≡ false → length k.numbers < g.b = λ t.
      omega (arith, length-append k.numbers (b.number ∷ []), ap length (with-number-new b.number k.numbers t)) in
      cons-refusal g k x (block_messages e bs)
      (block_of g k e b.number b.bytes (record { low = low.0; same-epoch = same; before-pages = none; before-state = s; allowed = record { records-low = omega arith; blocks-low = room } }))
      (blocks-accepted (known_with k x) bs (of-with k e same x refl) none s low.1 few (omega arith))

  -- PAGEs that rise below M are not refused
  pub pages-accepted : (k : Known) (ps : List Staged) → OfEpoch k e → k.seen ≡ false → Rises k.next g.m ps → refusal_from g k (page_messages e ps) ≡ 0
  pages-accepted k [] same s up = nil-refusal g k
  pages-accepted k (p ∷ ps) same s up =
      let x = page e p.number p.bytes in
      cons-refusal g k x (page_messages e ps)
      (page-of g k e p.number p.bytes (record { low = up.1; same-epoch = same; rising = up.0; before-state = s }))
      (pages-accepted (known_with k x) ps (of-with k e same x refl) s up.2)

  -- so such a checkpoint is not refused
  pub shape-accepted : (bs ps : List Staged) (x : List ℕ) → Below g.d bs → Rises 0 g.m ps → length (known_after none_known (block_messages e bs)).numbers ≤ g.b
      → length bs ≤ 65535 → refusal_from g none_known (checkpoint_of e bs ps x) ≡ 0
  shape-accepted bs ps x low up few most =
      let ends = state e x ∷ commit e (length ps) (length bs) ∷ [] in
      let kb = known_after none_known (block_messages e bs) in
      let kp = known_after kb (page_messages e ps) in
      let ks = known_with kp (state e x) in
      let same-b : OfEpoch kb e = of-after none_known e (λ b. absurd (false≢true b)) (block_messages e bs) (blocks-epoch e bs) in
      let same-p : OfEpoch kp e = of-after kb e same-b (page_messages e ps) (pages-epoch e ps) in
      let seen_b : kb.seen ≡ false = blocks-seen none_known e bs in
      append-refusal g none_known (block_messages e bs) (page_messages e ps ++ ends)
      (blocks-accepted none_known bs (λ b. absurd (false≢true b)) refl refl low few (omega arith))
      (append-refusal g kb (page_messages e ps) ends
      (pages-accepted kb ps same-b seen_b (subst (λ (n : ℕ). Rises n g.m ps) (sym (blocks-next none_known e bs)) up))
      (cons-refusal g kp (state e x) (commit e (length ps) (length bs) ∷ [])
      (state-of g kp e x (record { same-epoch = same-p; first = pages-seen kb e ps ∙ seen_b }))
      (cons-refusal g ks (commit e (length ps) (length bs)) []
      (commit-of g ks e (length ps) (length bs) (record {
        same-epoch = of-with kp e same-p (state e x) refl;
        after-state = refl;
        pages-same = sym (pages-pages kb e ps ∙ ap (λ (n : ℕ). n + length ps) (blocks-pages none_known e bs) ∙ zero-add (length ps));
        records-same = sym (pages-records kb e ps ∙ blocks-records none_known e bs ∙ zero-add (length bs));
      }))
      (nil-refusal g ks))))
