-- How many of the numbers below d pass a test: of those in a list with no repeats, all below d, as many as the list
-- has. Assumes nothing.
use mathlib.Core.Path.{◌≡◌, refl, sym, ap, ap₂, ◌∙◌}
use mathlib.Core.Bool.{Bool, true, false, cond}
use mathlib.Core.Logic.{⊎_elim}
use mathlib.Core.List.{List, [], ◌∷◌}
use Prim.Native.Nat.{ℕ, zero, suc, ◌+◌, ◌<◌}
use native.Mathlib.Omega.{arith}
use lib.Arith.{lt_of_le-ne}
use lib.ListN.{length, length-append}
use borrow.Author.Tests.{eq-eqb, ne_eqb}
use Rattle.lists.specs.Page.{gather}
use Rattle.lists.specs.Select.{is_in, NoRepeats}
use Rattle.lists.proofs.TestLaws.{eq-or-ne}
use Rattle.lists.proofs.SelectLaws.{in-first, in-others, in-none}

-- how many of 0, 1, .., d - 1 pass
abbrev pub count : (ℕ → Bool) → ℕ → ℕ
count f zero = 0
count f (suc d) = count f d + cond (f d) 1 0

-- two tests that agree below d
pub count-ext : (f h : ℕ → Bool) (d : ℕ) → ((i : ℕ) → i < d → f i ≡ h i) → count f d ≡ count h d
count-ext f h zero same = refl
count-ext f h (suc d) same = ap₂ (λ (n : ℕ) (b : Bool). n + cond b 1 0) (count-ext f h d (λ i l. same i (omega arith))) (same d (omega arith))

-- a test that passes none
count_none : (f : ℕ → Bool) (d : ℕ) → ((i : ℕ) → f i ≡ false) → count f d ≡ 0
count_none f zero none = refl
count_none f (suc d) none = ap₂ (λ (n : ℕ) (b : Bool). n + cond b 1 0) (count_none f d none) (none d)

-- a test that passes one number more
count-more : (f h : ℕ → Bool) (n d : ℕ) → n < d → f n ≡ false → h n ≡ true → ((i : ℕ) → (n ≡ i → ⊥) → f i ≡ h i) → count h d ≡ suc (count f d)
count-more f h n zero l out in' same = absurd (omega arith)
count-more f h n (suc d) l out in' same =
    ⊎_elim
    (λ (e : n ≡ d).
    let fd : f d ≡ false = ap f (sym e) ∙ out in
    let hd : h d ≡ true = ap h (sym e) ∙ in' in
    let c = count-ext f h d (λ i k. same i (λ z. absurd (omega arith))) in
    ap (λ (b : Bool). count h d + cond b 1 0) hd ∙ omega (arith, ap (λ (b : Bool). count f d + cond b 1 0) fd))
    (λ (ne : n ≡ d → ⊥).
    let c = count-more f h n d (lt_of_le-ne (omega arith) ne) out in' same in
    ap (λ (b : Bool). count h d + cond b 1 0) (sym (same d ne)) ∙ omega arith)
    (eq-or-ne n d)

-- the numbers of such a list are counted once each
pub count-in : (d : ℕ) (ns : List ℕ) → NoRepeats ns → ((n : ℕ) → is_in n ns ≡ true → n < d) → count (λ i. is_in i ns) d ≡ length ns
count-in d [] once low = count_none (λ i. is_in i []) d in-none
count-in d (n ∷ ns) once low =
    count-more (λ i. is_in i ns) (λ i. is_in i (n ∷ ns)) n d (low n (in-first n n ns (eq-eqb n n refl))) once.0 (in-first n n ns (eq-eqb n n refl))
    (λ i ne. sym (in-others i n ns (ne_eqb n i ne)))
    ∙ ap suc (count-in d ns once.1 (λ i h. low i (later i h)))
  where
    later : (i : ℕ) → is_in i ns ≡ true → is_in i (n ∷ ns) ≡ true
    later i h = ⊎_elim (λ (e : n ≡ i). in-first i n ns (eq-eqb n i e)) (λ (ne : n ≡ i → ⊥). in-others i n ns (ne_eqb n i ne) ∙ h) (eq-or-ne n i)

-- what is gathered has as many as pass, where each that passes gives one and no other gives any
pub length-counted : {A : Type 0} (h : ℕ → List A) (f : ℕ → Bool) (d : ℕ) → ((i : ℕ) → length (h i) ≡ cond (f i) 1 0) → length (gather h d) ≡ count f d
unfolding gather
length-counted h f zero each = refl
length-counted h f (suc d) each = length-append (gather h d) (h d) ∙ ap₂ ◌+◌ (length-counted h f d each) (each d)
