-- What is known after several records, what holds of a record that is not refused, and the epoch. Assumes nothing.
use mathlib.Core.Path.{◌≡◌, refl, sym, ap, ◌∙◌}
use mathlib.Core.Bool.{true, false, not}
use mathlib.Core.Logic.{⊎_elim}
use mathlib.Core.List.{List, [], ◌∷◌, ◌++◌}
use Prim.Native.Nat.{ℕ, ◌≤◌, ◌<◌}
use native.Mathlib.Omega.{arith}
use lib.Dec.{leb, eqb}
use lib.ListN.{length}
use borrow.Author.Tests.{not-true, not-false, leb-true, le-leb, ltb-true, lt-ltb, eqb-true, eq-eqb}
use Rattle.lists.specs.Select.{is_in}
use Rattle.lists.proofs.TestLaws.{by-test, both, join, unless, or-unless, cond-true, cond-false, eq-or-ne, accepted, accepts, pick-accepted, pick-refused}
use Rattle.records.specs.Message.{Message, page, block, state, commit, ack}
use Rattle.rules.proofs.BlocksLaws.{BlockRoom, block_room, block-allowed}
use Rattle.runs.proofs.Effects.{All, Before}
use Rattle.checkpoints.specs.declared.FileSettings.{FileSettings}
use Rattle.checkpoints.specs.Judge.{Known, none_known, is_of_epoch, first_epoch, page_tests, block_tests, state_tests, commit_tests, message_refusal, known_with, refusal_from, epoch_of}

-- what is known after these records
abbrev pub known_after : Known → List Message → Known
known_after k [] = k
known_after k (x ∷ xs) = known_after (known_with k x) xs

-- one list behind another
pub known-append : (k : Known) (xs ys : List Message) → known_after k (xs ++ ys) ≡ known_after (known_after k xs) ys
known-append k [] ys = refl
known-append k (x ∷ xs) ys = known-append (known_with k x) xs ys

-- ---- the epoch test, as a fact and back
abbrev pub OfEpoch : Known → ℕ → Type 0
OfEpoch k e = k.begun ≡ true → e ≡ k.epoch

-- the test says that the epoch is the known one, where one is known
pub of-epoch : (k : Known) (e : ℕ) → is_of_epoch k e ≡ true → OfEpoch k e
of-epoch k e h b = eqb-true e k.epoch (unless (not k.begun) (eqb e k.epoch) h (ap not b))

-- and back
pub epoch-of : (k : Known) (e : ℕ) → OfEpoch k e → is_of_epoch k e ≡ true
epoch-of k e f = or-unless (not k.begun) (eqb e k.epoch) (λ z. eq-eqb e k.epoch (f (not-false k.begun z)))

-- ---- the tests of each kind, by name
pub record PageFacts (g : FileSettings) (k : Known) (e p : ℕ) : Type 0 where
  pub low : p < g.m
  pub same-epoch : OfEpoch k e
  pub rising : k.next ≤ p
  pub before-state : k.seen ≡ false

pub record BlockFacts (g : FileSettings) (k : Known) (e n : ℕ) : Type 0 where
  pub low : n < g.d
  pub same-epoch : OfEpoch k e
  pub before-pages : k.pages ≡ 0
  pub before-state : k.seen ≡ false
  pub allowed : BlockRoom (is_in n k.numbers) g.b (length k.numbers) k.records

pub record StateFacts (k : Known) (e : ℕ) : Type 0 where
  pub same-epoch : OfEpoch k e
  pub first : k.seen ≡ false

pub record CommitFacts (k : Known) (e p b : ℕ) : Type 0 where
  pub same-epoch : OfEpoch k e
  pub after-state : k.seen ≡ true
  pub pages-same : p ≡ k.pages
  pub records-same : b ≡ k.records

-- from no refusal to the facts
module _ (g : FileSettings) (k : Known) where
  pub page-facts : (e p : ℕ) (bs : List ℕ) → message_refusal g k (page e p bs) ≡ 0 → PageFacts g k e p
  page-facts e p bs z =
      let a = accepted (page_tests g k e p) refl z in
      let o = both (leb k.next p) (not k.seen) a.1.1.0 in
      record { low = ltb-true _ _ a.0; same-epoch = of-epoch k e a.1.0; rising = leb-true _ _ o.0; before-state = not-true k.seen o.1 }

  -- a BLOCK that is not refused
  pub block-facts : (e n : ℕ) (bs : List ℕ) → message_refusal g k (block e n bs) ≡ 0 → BlockFacts g k e n
  block-facts e n bs z =
      let a = accepted (block_tests g k (is_in n k.numbers) e n) refl z in
      let o = both (eqb k.pages 0) (not k.seen) a.1.1.0 in
      record {
        low = ltb-true _ _ a.0;
        same-epoch = of-epoch k e a.1.0;
        before-pages = eqb-true _ _ o.0;
        before-state = not-true k.seen o.1;
        allowed = block_room (is_in n k.numbers) g.b (length k.numbers) k.records a.1.1.1.0;
      }

  -- a STATE that is not refused
  pub state-facts : (e : ℕ) (bs : List ℕ) → message_refusal g k (state e bs) ≡ 0 → StateFacts k e
  state-facts e bs z =
      let a = accepted (state_tests k e) refl z in
      record { same-epoch = of-epoch k e a.0; first = not-true k.seen a.1.0 }

  -- a COMMIT that is not refused
  pub commit-facts : (e p b : ℕ) → message_refusal g k (commit e p b) ≡ 0 → CommitFacts k e p b
  commit-facts e p b z =
      let a = accepted (commit_tests k e p b) refl z in
      let o = both (eqb p k.pages) (eqb b k.records) a.1.1.0 in
      record { same-epoch = of-epoch k e a.0; after-state = a.1.0; pages-same = eqb-true _ _ o.0; records-same = eqb-true _ _ o.1 }

  -- and back
  pub page-of : (e p : ℕ) (bs : List ℕ) → PageFacts g k e p → message_refusal g k (page e p bs) ≡ 0
  page-of e p bs f =
      accepts (page_tests g k e p) (
        lt-ltb _ _ f.low,
        (epoch-of k e f.same-epoch, (join _ _ (le-leb _ _ f.rising) (ap not f.before-state), tt)),
      )

  -- a BLOCK with these facts is not refused
  pub block_of : (e n : ℕ) (bs : List ℕ) → BlockFacts g k e n → message_refusal g k (block e n bs) ≡ 0
  block_of e n bs f =
      accepts (block_tests g k (is_in n k.numbers) e n) (
        lt-ltb _ _ f.low,
        (
          epoch-of k e f.same-epoch,
          (
            join _ _ (eq-eqb _ _ f.before-pages) (ap not f.before-state),
            (block-allowed (is_in n k.numbers) g.b (length k.numbers) k.records f.allowed, tt),
          ),
        ),
      )

  -- a STATE with these facts is not refused
  pub state-of : (e : ℕ) (bs : List ℕ) → StateFacts k e → message_refusal g k (state e bs) ≡ 0
  state-of e bs f = accepts (state_tests k e) (epoch-of k e f.same-epoch, (ap not f.first, tt))

  -- a COMMIT with these facts is not refused
  pub commit-of : (e p b : ℕ) → CommitFacts k e p b → message_refusal g k (commit e p b) ≡ 0
  commit-of e p b f =
      accepts (commit_tests k e p b) (
        epoch-of k e f.same-epoch,
        (f.after-state, (join _ _ (eq-eqb _ _ f.pages-same) (eq-eqb _ _ f.records-same), tt)),
      )

-- ---- several records: none is refused where the first is not, nor any of the others
module _ (g : FileSettings) where
  pub refusal-cons : (k : Known) (x : Message) (xs : List Message) → refusal_from g k (x ∷ xs) ≡ 0
      → (message_refusal g k x ≡ 0) × (refusal_from g (known_with k x) xs ≡ 0)
  unfolding refusal_from
  refusal-cons k x xs z =
      let n = message_refusal g k x in
      let r = refusal_from g (known_with k x) xs in
      ⊎_elim (λ (e : n ≡ 0). (e, sym (pick-accepted n r n e) ∙ z)) (λ (ne : n ≡ 0 → ⊥). absurd (ne (sym (pick-refused n r n ne) ∙ z))) (eq-or-ne n 0)

  -- and back
  pub cons-refusal : (k : Known) (x : Message) (xs : List Message) → message_refusal g k x ≡ 0 → refusal_from g (known_with k x) xs ≡ 0
      → refusal_from g k (x ∷ xs) ≡ 0
  unfolding refusal_from
  cons-refusal k x xs e z = pick-accepted (message_refusal g k x) _ (message_refusal g k x) e ∙ z

  -- no record, no refusal
  pub nil-refusal : (k : Known) → refusal_from g k [] ≡ 0
  unfolding refusal_from
  nil-refusal k = refl

  -- one list behind another, with what is known after the first
  pub refusal-append : (k : Known) (xs ys : List Message) → refusal_from g k (xs ++ ys) ≡ 0
      → (refusal_from g k xs ≡ 0) × (refusal_from g (known_after k xs) ys ≡ 0)
  refusal-append k [] ys z = (nil-refusal k, z)
  refusal-append k (x ∷ xs) ys z =
      let c = refusal-cons k x (xs ++ ys) z in
      let r = refusal-append (known_with k x) xs ys c.1 in
      (cons-refusal k x xs c.0 r.0, r.1)

  -- and back
  pub append-refusal : (k : Known) (xs ys : List Message) → refusal_from g k xs ≡ 0 → refusal_from g (known_after k xs) ys ≡ 0
      → refusal_from g k (xs ++ ys) ≡ 0
  append-refusal k [] ys a b = b
  append-refusal k (x ∷ xs) ys a b =
      let c = refusal-cons k x xs a in
      cons-refusal k x (xs ++ ys) c.0 (append-refusal (known_with k x) xs ys c.1 b)

-- ---- the epoch, once known, stays
pub with-epoch : (k : Known) → k.begun ≡ true → (x : Message) → ((known_with k x).begun ≡ true) × ((known_with k x).epoch ≡ k.epoch)
with-epoch k b (page e p bs) = (refl, rw b)
with-epoch k b (block e n bs) = (refl, rw b)
with-epoch k b (state e bs) = (refl, rw b)
with-epoch k b (commit e p c) = (b, refl)
with-epoch k b (ack e) = (b, refl)

-- after several records too
pub after-epoch : (k : Known) → k.begun ≡ true → (xs : List Message) → ((known_after k xs).begun ≡ true) × ((known_after k xs).epoch ≡ k.epoch)
after-epoch k b [] = (b, refl)
after-epoch k b (x ∷ xs) =
    let w = with-epoch k b x in
    let r = after-epoch (known_with k x) w.0 xs in
    (r.0, r.1 ∙ w.1)

-- the epoch of a record
abbrev pub message_epoch : Message → ℕ
message_epoch (page e p bs) = e
message_epoch (block e n bs) = e
message_epoch (state e bs) = e
message_epoch (commit e p b) = e
message_epoch (ack e) = e

-- the epoch of several is that of the first
pub epoch-cons : (x : Message) (xs : List Message) → epoch_of (x ∷ xs) ≡ message_epoch x
unfolding epoch_of
epoch-cons (page e p bs) xs = refl
epoch-cons (block e n bs) xs = refl
epoch-cons (state e bs) xs = refl
epoch-cons (commit e p b) xs = refl
epoch-cons (ack e) xs = refl

-- the epoch known after the first record, a PAGE, a BLOCK or a STATE, is that record's
pub first-known : (x : Message) → Before x → ((known_with none_known x).begun ≡ true) × ((known_with none_known x).epoch ≡ message_epoch x)
first-known (page e p bs) f = (refl, refl)
first-known (block e n bs) f = (refl, refl)
first-known (state e bs) f = (refl, refl)
first-known (commit e p b) f = absurd f
first-known (ack e) f = absurd f

-- it is still known after others
pub first-epoch : (x : Message) → Before x → (xs : List Message)
    → ((known_after none_known (x ∷ xs)).begun ≡ true) × ((known_after none_known (x ∷ xs)).epoch ≡ epoch_of (x ∷ xs))
first-epoch x f xs =
    let w = first-known x f in
    let r = after-epoch (known_with none_known x) w.0 xs in
    (r.0, r.1 ∙ w.1 ∙ sym (epoch-cons x xs))

-- a record that is not refused is of the known epoch
pub refusal-epoch : (g : FileSettings) (k : Known) → k.begun ≡ true → (x : Message) → message_refusal g k x ≡ 0 → message_epoch x ≡ k.epoch
refusal-epoch g k b (page e p bs) z = (page-facts g k e p bs z).same-epoch b
refusal-epoch g k b (block e n bs) z = (block-facts g k e n bs z).same-epoch b
refusal-epoch g k b (state e bs) z = (state-facts g k e bs z).same-epoch b
refusal-epoch g k b (commit e p c) z = (commit-facts g k e p c z).same-epoch b
refusal-epoch g k b (ack e) z = absurd (omega arith)

-- so all that are not refused are of that epoch
pub all-epoch : (g : FileSettings) (k : Known) (e : ℕ) → k.begun ≡ true → k.epoch ≡ e → (xs : List Message) → refusal_from g k xs ≡ 0 → All (λ x. message_epoch x ≡ e) xs
all-epoch g k e b same [] z = tt
all-epoch g k e b same (x ∷ xs) z =
    let c = refusal-cons g k x xs z in
    let w = with-epoch k b x in
    (refusal-epoch g k b x c.0 ∙ same, all-epoch g (known_with k x) e w.0 (w.1 ∙ same) xs c.1)

-- after records of one epoch that is the known one, or the first, the next may be of it too
pub of-with : (k : Known) (e : ℕ) → OfEpoch k e → (x : Message) → message_epoch x ≡ e → OfEpoch (known_with k x) e
of-with k e f x same = go x same
  where
    first : (a : ℕ) → a ≡ e → e ≡ first_epoch k a
    first a h =
        ⊎_elim
        (λ (b : k.begun ≡ true). f b ∙ sym (cond-true k.begun k.epoch a b))
        (λ (b : k.begun ≡ false). sym h ∙ sym (cond-false k.begun k.epoch a b))
        (by-test k.begun)

    go : (x : Message) → message_epoch x ≡ e → OfEpoch (known_with k x) e
    go (page a p bs) h b = first a h
    go (block a n bs) h b = first a h
    go (state a bs) h b = first a h
    go (commit a p c) h b = f b
    go (ack a) h b = f b

-- after several such records
pub of-after : (k : Known) (e : ℕ) → OfEpoch k e → (xs : List Message) → All (λ x. message_epoch x ≡ e) xs → OfEpoch (known_after k xs) e
of-after k e f [] a = f
of-after k e f (x ∷ xs) a = of-after (known_with k x) e (of-with k e f x a.0) xs a.1
