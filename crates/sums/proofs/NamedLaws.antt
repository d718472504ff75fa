-- Laws of the test of an order by marks: an order of as many entries as pages, which marks every page, names each once,
-- and the other way round. Assumes nothing.
use mathlib.Core.Path.{◌≡◌, refl, sym, ap, ◌∙◌}
use mathlib.Core.Bool.{true, false}
use mathlib.Core.Logic.{⊎_elim, ◌≢◌}
use mathlib.Core.List.{List, [], ◌∷◌}
use Prim.Native.Nat.{ℕ, ◌/◌, ◌+◌, ◌*◌, ◌≤◌, ◌<◌}
use native.Mathlib.Numerals.{add-one}
use native.Mathlib.Omega.{arith}
use lib.ListN.{length, get_or, drop, replicate, length-replicate}
use lib.Seq.{drop-cons, drop-length}
use Rattle.lists.specs.Select.{times_in}
use Rattle.lists.proofs.TestLaws.{not-both, refuted, eq-or-ne}
use Rattle.lists.proofs.SelectLaws.{times_none, times_more, times-same}
use Rattle.marks.specs.Mark.{marked, with_mark, count_marks}
use Rattle.marks.proofs.MarkLaws.{length-with_mark, marked-zeros, marked-same, marked_other, count-full, count-each}
use Rattle.sums.specs.Sum.{names_each}
use Rattle.sums.proofs.OrderLaws.{NamesEach, names-facts, names_of, count-below-high, once-of-some}

-- the words once every entry of an order is marked
abbrev pub with_each : List ℕ → List ℕ → List ℕ
with_each ws [] = ws
with_each ws (q ∷ qs) = with_each (with_mark ws q) qs

module _ (p : ℕ) where
  -- a mark stays
  each-stays : (ws order : List ℕ) → p / 64 < length ws → marked ws p ≡ true → marked (with_each ws order) p ≡ true
  each-stays ws [] h e = e
  each-stays ws (q ∷ qs) h e =
      each-stays (with_mark ws q) qs (rw length-with_mark h)
      (⊎_elim (λ (is : p ≡ q). rw (sym is) (marked-same ws p h)) (λ (ne : p ≢ q). marked_other ws q p ne ∙ e) (eq-or-ne p q))

  -- a page that is named is marked
  pub named-marked : (ws order : List ℕ) → p / 64 < length ws → 1 ≤ times_in p order → marked (with_each ws order) p ≡ true
  named-marked ws [] h one = absurd (omega (arith, times_none p))
  named-marked ws (q ∷ qs) h one =
      let h' : p / 64 < length (with_mark ws q) = rw length-with_mark h in
      ⊎_elim
      (λ (is : q ≡ p). each-stays (with_mark ws q) qs h' (rw is (marked-same ws p h)))
      (λ (ne : q ≢ p). named-marked (with_mark ws q) qs h' (omega (arith, times-same p q qs ne)))
      (eq-or-ne q p)

  -- and one that is marked was so, or is named
  pub marked-named : (ws order : List ℕ) → marked (with_each ws order) p ≡ true → marked ws p ≡ false → 1 ≤ times_in p order
  marked-named ws [] e none = absurd (not-both _ e none)
  marked-named ws (q ∷ qs) e none =
      ⊎_elim
      (λ (is : q ≡ p). omega (arith, times_more p q qs is))
      (λ (ne : q ≢ p). omega (arith, times-same p q qs ne, marked-named (with_mark ws q) qs e (marked_other ws q p (λ z. ne (sym z)) ∙ none)))
      (eq-or-ne q p)

-- ---- the test of the code, from words with no mark
module _ (ws : List ℕ) (m : ℕ) (order : List ℕ) (count : length order ≡ m) (room : m ≤ 64 * length ws) (clear : (p : ℕ) → marked ws p ≡ false) where
  pub names-each-of : count_marks (with_each ws order) m ≡ m → NamesEach m order
  names-each-of e =
      record {
        count = count;
        once = once-of-some m order (λ p low. marked-named p ws order (count-full (with_each ws order) m e p low) (clear p)) (omega (arith, count-below-high m order));
      }

  pub names-each-is : NamesEach m order → count_marks (with_each ws order) m ≡ m
  names-each-is f = count-each (with_each ws order) m (λ p low. named-marked p ws order (omega arith) (omega (arith, f.once p low)))

-- ---- the loop: i entries are marked in named, a list of n words that were clear
pub record Named (n : ℕ) (order named : List ℕ) (i : ℕ) : Type 0 where
  pub inside : i ≤ length order
  pub size : length named ≡ n
  pub rest : with_each named (drop i order) ≡ with_each (replicate n 0) order

pub named_none : (n : ℕ) (order : List ℕ) → Named n order (replicate n 0) 0
named_none n order = record { inside = omega arith; size = length-replicate {A = ℕ} n 0; rest = refl }

module _ (n : ℕ) (order named : List ℕ) (i : ℕ) (h : Named n order named i) where
  pub named_more : i < length order → Named n order (with_mark named (get_or order i 0)) (i + 1)
  named_more low =
      record {
        inside = omega arith;
        size = length-with_mark named (get_or order i 0) ∙ h.size;
        rest = rw add-one (ap (with_each named) (sym (drop-cons order i 0 low)) ∙ h.rest);
      }

  module _ (all : length order ≤ i) where
    named-all : with_each (replicate n 0) order ≡ named
    named-all =
        let e : i ≡ length order = omega (arith, h.inside) in
        let none : drop i order ≡ [] = rw e (drop-length order) in
        sym h.rest ∙ ap (with_each named) none

    module _ (m : ℕ) (count : length order ≡ m) (room : m ≤ 64 * n) where
      words : m ≤ 64 * length (replicate {A = ℕ} n 0)
      words = rw (length-replicate {A = ℕ}) room

      pub named-names : count_marks named m ≡ m → names_each m order ≡ true
      named-names e =
          names_of m order (names-each-of (replicate n 0) m order count words (marked-zeros n) (ap (λ (ws : List ℕ). count_marks ws m) named-all ∙ e))

      pub named-not : (count_marks named m ≡ m → ⊥) → false ≡ names_each m order
      named-not ne =
          refuted (names_each m order)
          (λ e. ne (ap (λ (ws : List ℕ). count_marks ws m) (sym named-all) ∙ names-each-is (replicate n 0) m order count words (marked-zeros n) (names-facts m order e)))
