-- The numbers of the different blocks known after several records: those that they name, each once, at most B of them,
-- all below D; and how many BLOCK records there are. Assumes nothing.
use mathlib.Core.Path.{◌≡◌, refl, sym, ap, ap₂, ◌∙◌, subst}
use mathlib.Core.Bool.{Bool, true, false, ◌||◌, false≢true}
use mathlib.Core.Logic.{⊎_elim}
use mathlib.Core.List.{List, [], ◌∷◌, ◌++◌}
use Prim.Native.Nat.{ℕ, ◌+◌, ◌≤◌, ◌<◌}
use native.Mathlib.Omega.{arith}
use lib.Dec.{eqb}
use lib.ListN.{length, length-append}
use borrow.Author.Tests.{eqb-true}
use Rattle.lists.specs.Select.{is_in, NoRepeats}
use Rattle.lists.proofs.TestLaws.{by-test, agree, unless}
use Rattle.lists.proofs.SelectLaws.{in-first, in-others, in-none, with_number, with-number-again, with-number-new, no-repeats-with}
use Rattle.records.specs.Message.{Message, page, block, state, commit, ack}
use Rattle.checkpoints.specs.declared.FileSettings.{FileSettings}
use Rattle.checkpoints.specs.Content.{is_block, named}
use Rattle.checkpoints.specs.Judge.{Known, none_known, message_refusal, known_with, refusal_from}
use Rattle.checkpoints.proofs.KnownLaws.{known_after, block-facts, refusal-cons}

-- one number more at the end
in-append : (n : ℕ) (ns : List ℕ) (m : ℕ) → is_in n (ns ++ (m ∷ [])) ≡ (is_in n ns || eqb m n)
in-append n [] m =
    ⊎_elim
    (λ (e : eqb m n ≡ true). in-first n m [] e ∙ sym (ap₂ ◌||◌ (in-none n) e))
    (λ (e : eqb m n ≡ false). in-others n m [] e ∙ in-none n ∙ sym (ap₂ ◌||◌ (in-none n) e))
    (by-test (eqb m n))
in-append n (x ∷ ns) m =
    ⊎_elim
    (λ (e : eqb x n ≡ true). in-first n x (ns ++ (m ∷ [])) e ∙ sym (ap (λ (b : Bool). b || eqb m n) (in-first n x ns e)))
    (λ (e : eqb x n ≡ false). in-others n x (ns ++ (m ∷ [])) e ∙ in-append n ns m ∙ sym (ap (λ (b : Bool). b || eqb m n) (in-others n x ns e)))
    (by-test (eqb x n))

-- with one number more they have that one and the others
pub in-with : (n m : ℕ) (ns : List ℕ) → is_in n (with_number m ns) ≡ (is_in n ns || eqb m n)
in-with n m ns =
    ⊎_elim
    (λ (e : is_in m ns ≡ true).
    ap (is_in n) (with-number-again m ns e)
    ∙ agree (is_in n ns) (is_in n ns || eqb m n)
    (λ h. ap (λ (b : Bool). b || eqb m n) h)
    (λ h. ⊎_elim (λ (t : is_in n ns ≡ true). t) (λ (f : is_in n ns ≡ false). rw (eqb-true m n (unless (is_in n ns) (eqb m n) h f)) at e) (by-test (is_in n ns))))
    (λ (e : is_in m ns ≡ false). ap (is_in n) (with-number-new m ns e) ∙ in-append n ns m)
    (by-test (is_in m ns))

or_assoc : (a b c : Bool) → ((a || b) || c) ≡ (a || (b || c))
or_assoc true b c = refl
or_assoc false b c = refl

or-false : (a : Bool) → (a || false) ≡ a
or-false true = refl
or-false false = refl

-- with one record more they have the block that it names
with-numbers : (n : ℕ) (k : Known) (x : Message) → is_in n (known_with k x).numbers ≡ (is_in n k.numbers || is_block n x)
with-numbers n k (page e p bs) = sym (or-false (is_in n k.numbers))
with-numbers n k (block e m bs) = in-with n m k.numbers
with-numbers n k (state e bs) = sym (or-false (is_in n k.numbers))
with-numbers n k (commit e p b) = sym (or-false (is_in n k.numbers))
with-numbers n k (ack e) = sym (or-false (is_in n k.numbers))

-- they are those named before and those named by the records
pub after-numbers : (n : ℕ) (k : Known) (ms : List Message) → is_in n (known_after k ms).numbers ≡ (is_in n k.numbers || named (is_block n) ms)
unfolding named
after-numbers n k [] = sym (or-false (is_in n k.numbers))
after-numbers n k (x ∷ xs) =
    after-numbers n (known_with k x) xs
    ∙ ap (λ (b : Bool). b || named (is_block n) xs) (with-numbers n k x)
    ∙ or_assoc (is_in n k.numbers) (is_block n x) (named (is_block n) xs)

-- after the first records of a file they are those named
pub named-numbers : (ms : List Message) (n : ℕ) → is_in n (known_after none_known ms).numbers ≡ named (is_block n) ms
named-numbers ms n = after-numbers n none_known ms ∙ ap (λ (b : Bool). b || named (is_block n) ms) (in-none n)

-- each is there once
pub after-once : (k : Known) → NoRepeats k.numbers → (ms : List Message) → NoRepeats (known_after k ms).numbers
after-once k h [] = h
after-once k h (x ∷ xs) = after-once (known_with k x) (go x) xs
  where
    go : (x : Message) → NoRepeats (known_with k x).numbers
    go (page e p bs) = h
    go (block e n bs) = no-repeats-with n k.numbers h
    go (state e bs) = h
    go (commit e p b) = h
    go (ack e) = h

-- they grow, by at most one for each record
grow-with : (k : Known) (x : Message) → (length k.numbers ≤ length (known_with k x).numbers) × (length (known_with k x).numbers ≤ length k.numbers + 1)
grow-with k (page e p bs) = (omega arith, omega arith)
grow-with k (block e n bs) =
    let Grown : List ℕ → Type 0 = λ (l : List ℕ). (length k.numbers ≤ length l) × (length l ≤ length k.numbers + 1) in
    ⊎_elim
    (λ (t : is_in n k.numbers ≡ true). subst Grown (sym (with-number-again n k.numbers t)) (omega arith, omega arith))
    (λ (t : is_in n k.numbers ≡ false).
    subst Grown (sym (with-number-new n k.numbers t))
    (omega (arith, length-append k.numbers (n ∷ [])), omega (arith, length-append k.numbers (n ∷ []))))
    (by-test (is_in n k.numbers))
grow-with k (state e bs) = (omega arith, omega arith)
grow-with k (commit e p b) = (omega arith, omega arith)
grow-with k (ack e) = (omega arith, omega arith)

-- several records
pub numbers-grow : (k : Known) (xs : List Message)
    → (length k.numbers ≤ length (known_after k xs).numbers) × (length (known_after k xs).numbers ≤ length k.numbers + length xs)
numbers-grow k [] = (omega arith, omega arith)
numbers-grow k (x ∷ xs) =
    let w = grow-with k x in
    let r = numbers-grow (known_with k x) xs in
    (omega arith, omega arith)

-- they are at most B
few-with : (g : FileSettings) (k : Known) (x : Message) → message_refusal g k x ≡ 0 → length k.numbers ≤ g.b → length (known_with k x).numbers ≤ g.b
few-with g k (page e p bs) z h = h
few-with g k (block e n bs) z h =
    ⊎_elim
    (λ (t : is_in n k.numbers ≡ true). subst (λ (l : List ℕ). length l ≤ g.b) (sym (with-number-again n k.numbers t)) h)
    (λ (t : is_in n k.numbers ≡ false).
    let f = (block-facts g k e n bs z).allowed.blocks-low t in
    subst (λ (l : List ℕ). length l ≤ g.b) (sym (with-number-new n k.numbers t)) (omega (arith, length-append k.numbers (n ∷ []))))
    (by-test (is_in n k.numbers))
few-with g k (state e bs) z h = h
few-with g k (commit e p b) z h = h
few-with g k (ack e) z h = h

-- several records
pub few-after : (g : FileSettings) (k : Known) (xs : List Message) → refusal_from g k xs ≡ 0 → length k.numbers ≤ g.b → length (known_after k xs).numbers ≤ g.b
few-after g k [] z h = h
few-after g k (x ∷ xs) z h = let c = refusal-cons g k x xs z in few-after g (known_with k x) xs c.1 (few-with g k x c.0 h)

-- the BLOCK records are at most 65,535
records-with : (g : FileSettings) (k : Known) (x : Message) → message_refusal g k x ≡ 0 → k.records ≤ 65535 → (known_with k x).records ≤ 65535
records-with g k (page e p bs) z h = h
records-with g k (block e n bs) z h = let f = (block-facts g k e n bs z).allowed.records-low in omega arith
records-with g k (state e bs) z h = h
records-with g k (commit e p b) z h = h
records-with g k (ack e) z h = h

-- several records
pub records-after : (g : FileSettings) (k : Known) (xs : List Message) → refusal_from g k xs ≡ 0 → k.records ≤ 65535 → (known_after k xs).records ≤ 65535
records-after g k [] z h = h
records-after g k (x ∷ xs) z h = let c = refusal-cons g k x xs z in records-after g (known_with k x) xs c.1 (records-with g k x c.0 h)

-- a block that is named is one of D
pub named-low : (g : FileSettings) (k : Known) (n : ℕ) (xs : List Message) → refusal_from g k xs ≡ 0 → named (is_block n) xs ≡ true → n < g.d
unfolding named
named-low g k n [] z h = absurd (false≢true h)
named-low g k n (x ∷ xs) z h =
    let c = refusal-cons g k x xs z in
    ⊎_elim (λ (t : is_block n x ≡ true). go x c.0 t) (λ (f : is_block n x ≡ false). named-low g (known_with k x) n xs c.1 (unless (is_block n x) (named (is_block n) xs) h f)) (by-test (is_block n x))
  where
    go : (x : Message) → message_refusal g k x ≡ 0 → is_block n x ≡ true → n < g.d
    go (page e p bs) z t = absurd (false≢true t)
    go (block e m bs) z t = let f = (block-facts g k e m bs z).low in omega (arith, eqb-true m n t)
    go (state e bs) z t = absurd (false≢true t)
    go (commit e p b) z t = absurd (false≢true t)
    go (ack e) z t = absurd (false≢true t)

-- of the numbers known after a file's records, each is below D
pub numbers-low : (g : FileSettings) (ms : List Message) → refusal_from g none_known ms ≡ 0 → (n : ℕ) → is_in n (known_after none_known ms).numbers ≡ true → n < g.d
numbers-low g ms z n h = named-low g none_known n ms z (sym (named-numbers ms n) ∙ h)

-- and each is there once
pub numbers-once : (ms : List Message) → NoRepeats (known_after none_known ms).numbers
numbers-once ms = after-once none_known tt ms
