-- Turn after turn: what a program writes of an input in parts, and where it ends. Assumes nothing.
use Prim.Native.Nat.{ℕ}
use mathlib.Core.Path.{◌≡◌, refl, sym, ap, ap₂, subst, ◌∙◌}
use mathlib.Core.Logic.{⊎_elim}
use mathlib.Core.Bool.{Bool, true, false, cond, not, ◌&&◌, false≢true}
use mathlib.Core.List.{List, [], ◌∷◌, ◌++◌, append_assoc, append-nil, flatten}
use native.Mathlib.Omega.{arith}
use lib.ListN.{length}
use borrow.Author.Tests.{eq-eqb, ne_eqb, not-true, not-false}
use Rattle.lists.specs.Part.{PutDone}
use Rattle.lists.proofs.TestLaws.{both, not-both, eq-or-ne, cond-true, cond-false}
use Rattle.text.specs.Line.{is_empty}
use Rattle.text.specs.Feed.{Program, KeptRight, Reading, reading, first_reading, fed_all, fed_all_printed, end_printed}
use Rattle.text.specs.Turns.{turn_next, turn_printed, turn_more, all_next, all_printed, all_more, is_none, ends_after, none_empty, RunRight}
use Rattle.text.proofs.FeedLaws.{output-fed, over-fed, over-printed}
use Rattle.text.proofs.FeedPartLaws.{fed-append, printed-append, fed-over}

empty-is : (part : List ℕ) → length part ≡ 0 → part ≡ []
empty-is [] h = refl
empty-is (b ∷ bs) h = absurd (omega arith)

some : (part : List ℕ) → not (is_empty part) ≡ true → length part ≡ 0 → ⊥
some part e h = not-both (is_empty part) (eq-eqb (length part) 0 h) (not-true (is_empty part) e)

module _ {S L : Type 0} (p : Program S L) where
  -- ---- a turn, by whether its part is empty
  module _ (r : Reading S L) (part : List ℕ) where
    module _ (h : length part ≡ 0) where
      pub end-next : r ≡ turn_next p r part
      unfolding fed_all
      end-next = ap (turn_next p r) (sym (empty-is part h))

      end-printed : end_printed p r ≡ turn_printed p r part
      unfolding turn_printed
      end-printed = sym (cond-true _ _ _ (eq-eqb (length part) 0 h))

      pub end-put : (s t : List ℕ) (n : ℕ) → PutDone (end_printed p r) s 0 t n → PutDone (turn_printed p r part) s 0 t n
      end-put s t n d = subst (λ (bs : List ℕ). PutDone bs s 0 t n) end-printed d

      pub end_more : false ≡ turn_more p r part
      unfolding turn_more
      end_more = sym (cond-true _ _ _ (eq-eqb (length part) 0 h))

    module _ (h : length part ≡ 0 → ⊥) where
      part-printed : fed_all_printed p r part ≡ turn_printed p r part
      unfolding turn_printed
      part-printed = sym (cond-false _ _ _ (ne_eqb (length part) 0 h))

      pub part-put : (s t : List ℕ) (n : ℕ) → PutDone (fed_all_printed p r part) s 0 t n → PutDone (turn_printed p r part) s 0 t n
      part-put s t n d = subst (λ (bs : List ℕ). PutDone bs s 0 t n) part-printed d

      pub part-more : not (turn_next p r part).over ≡ turn_more p r part
      unfolding turn_more
      part-more = sym (cond-false _ _ _ (ne_eqb (length part) 0 h))

    -- there is more only after a part
    more-part : turn_more p r part ≡ true → length part ≡ 0 → ⊥
    more-part e h = false≢true (end_more h ∙ e)

  -- ---- what is printed of the rest of the input
  abbrev rest_printed : Reading S L → List ℕ → List ℕ
  rest_printed r input = fed_all_printed p r input ++ end_printed p (fed_all p r input)

  module _ (r : Reading S L) where
    rest-append : (a b : List ℕ) → rest_printed r (a ++ b) ≡ fed_all_printed p r a ++ rest_printed (fed_all p r a) b
    rest-append a b =
        ap₂ (λ (x : List ℕ) (y : Reading S L). x ++ end_printed p y) (printed-append p r a b) (fed-append p r a b)
        ∙ append_assoc (fed_all_printed p r a) (fed_all_printed p (fed_all p r a) b) (end_printed p (fed_all p (fed_all p r a) b))

    -- after the last line nothing is printed, and it stays so
    module _ (over : r.over ≡ true) (input : List ℕ) where
      over-is : r ≡ reading r.state r.line true
      over-is = λ i. reading r.state r.line (over i)

      rest_over : rest_printed r input ≡ []
      rest_over = ap (λ (x : Reading S L). rest_printed x input) over-is ∙ over-printed p r.state r.line input

      over-stays : (fed_all p r input).over ≡ true
      over-stays = ap (λ (x : Reading S L). (fed_all p x input).over) over-is ∙ ap (λ (x : Reading S L). x.over) (fed-over p r.state r.line input)

    -- the end of the input
    rest-none : (part : List ℕ) → length part ≡ 0 → turn_printed p r part ++ [] ≡ rest_printed r (part ++ [])
    unfolding fed_all fed_all_printed
    rest-none part h = append-nil (turn_printed p r part) ∙ sym (end-printed r part h) ∙ ap (λ (l : List ℕ). rest_printed r (l ++ [])) (sym (empty-is part h))

  -- a part, and what follows it; after the last line nothing does
  module _ (r : Reading S L) (part rest : List ℕ) (h : length part ≡ 0 → ⊥) where
    rest_more : turn_printed p r part ++ rest_printed (turn_next p r part) rest ≡ rest_printed r (part ++ rest)
    rest_more = ap (λ (l : List ℕ). l ++ rest_printed (turn_next p r part) rest) (sym (part-printed r part h)) ∙ sym (rest-append r part rest)

    rest_ended : turn_more p r part ≡ false → turn_printed p r part ++ [] ≡ rest_printed r (part ++ rest)
    rest_ended e =
        let over : (turn_next p r part).over ≡ true = not-false (turn_next p r part).over (part-more r part h ∙ e) in
        ap (λ (l : List ℕ). turn_printed p r part ++ l) (sym (rest_over (turn_next p r part) over rest)) ∙ rest_more

  -- ---- an input in parts, none of them empty
  -- with its end, all of it is answered
  whole-printed : (parts : List (List ℕ)) (r : Reading S L) → none_empty parts ≡ true → all_printed p r (parts ++ [] ∷ []) ≡ rest_printed r (flatten parts)
  unfolding all_printed flatten
  whole-printed [] r e = ap (λ (t : Bool). turn_printed p r [] ++ cond t [] []) (sym (end_more r [] refl)) ∙ rest-none r [] refl
  whole-printed (part ∷ parts) r e =
      let f = both (not (is_empty part)) (none_empty parts) e in
      by (turn_more p r part) refl (some part f.0) (λ next. whole-printed parts next f.1)
    where
      by : (t : Bool) → turn_more p r part ≡ t → (length part ≡ 0 → ⊥) → ((next : Reading S L) → all_printed p next (parts ++ [] ∷ []) ≡ rest_printed next (flatten parts))
          → turn_printed p r part ++ cond t (all_printed p (turn_next p r part) (parts ++ [] ∷ [])) [] ≡ rest_printed r (part ++ flatten parts)
      by true m h then = ap (λ (l : List ℕ). turn_printed p r part ++ l) (then (turn_next p r part)) ∙ rest_more r part (flatten parts) h
      by false m h then = rest_ended r part (flatten parts) h m

  -- and more is read of it exactly until the last line
  more_is : (parts : List (List ℕ)) (r : Reading S L) → r.over ≡ false → none_empty parts ≡ true → all_more p r parts ≡ not (fed_all p r (flatten parts)).over
  unfolding all_more flatten fed_all
  more_is [] r o e = sym (ap not o)
  more_is (part ∷ parts) r o e =
      let f = both (not (is_empty part)) (none_empty parts) e in
      by (turn_next p r part).over refl (part-more r part (some part f.0)) (λ next then. more_is parts next then f.1)
    where
      by : (t : Bool) → (turn_next p r part).over ≡ t → not (turn_next p r part).over ≡ turn_more p r part
          → ((next : Reading S L) → next.over ≡ false → all_more p next parts ≡ not (fed_all p next (flatten parts)).over)
          → turn_more p r part && all_more p (turn_next p r part) parts ≡ not (fed_all p r (part ++ flatten parts)).over
      by true over m then =
          ap (λ (b : Bool). b && all_more p (turn_next p r part) parts) (sym m ∙ ap not over)
          ∙ sym (ap not (ap (λ (x : Reading S L). x.over) (fed-append p r part (flatten parts)) ∙ over-stays (turn_next p r part) over (flatten parts)))
      by false over m then =
          ap (λ (b : Bool). b && all_more p (turn_next p r part) parts) (sym m ∙ ap not over)
          ∙ then (turn_next p r part) over
          ∙ sym (ap (λ (x : Reading S L). not x.over) (fed-append p r part (flatten parts)))

  -- ---- the parts of a program that has ended
  ends-printed : (parts : List (List ℕ)) (r : Reading S L) → ends_after p r parts ≡ true → all_printed p r parts ≡ rest_printed r (flatten parts)
  unfolding all_printed ends_after flatten
  ends-printed [] r e = absurd (false≢true e)
  ends-printed (part ∷ parts) r e = by (turn_more p r part) refl e (λ next then. ends-printed parts next then)
    where
      last : (rest : List (List ℕ)) → turn_more p r part ≡ false → is_none rest ≡ true → turn_printed p r part ++ [] ≡ rest_printed r (part ++ flatten rest)
      last [] m e = ⊎_elim (λ (h : length part ≡ 0). rest-none r part h) (λ (h : length part ≡ 0 → ⊥). rest_ended r part [] h m) (eq-or-ne (length part) 0)
      last (q ∷ qs) m e = absurd (false≢true e)

      by : (t : Bool) → turn_more p r part ≡ t → cond t (ends_after p (turn_next p r part) parts) (is_none parts) ≡ true
          → ((next : Reading S L) → ends_after p next parts ≡ true → all_printed p next parts ≡ rest_printed next (flatten parts))
          → turn_printed p r part ++ cond t (all_printed p (turn_next p r part) parts) [] ≡ rest_printed r (part ++ flatten parts)
      by true m e then = ap (λ (l : List ℕ). turn_printed p r part ++ l) (then (turn_next p r part) e) ∙ rest_more r part (flatten parts) (more-part r part m)
      by false m e then = last parts m e

  -- ---- the program, from its first state on and whatever parts it reads
  pub run-right : KeptRight p → (parts : List (List ℕ)) → RunRight p parts
  run-right right parts =
      record {
        ended = λ e. ends-printed parts (first_reading p) e ∙ output-fed p right (flatten parts);
        whole = λ e. whole-printed parts (first_reading p) e ∙ output-fed p right (flatten parts);
        more = λ e. more_is parts (first_reading p) refl e ∙ ap not (over-fed p right (flatten parts));
      }

  -- ---- one turn more, where more was to be read
  pub next_more : (parts : List (List ℕ)) (r : Reading S L) (part : List ℕ) → all_next p r (parts ++ part ∷ []) ≡ turn_next p (all_next p r parts) part
  unfolding all_next
  next_more [] r part = refl
  next_more (q ∷ parts) r part = next_more parts (turn_next p r q) part

  pub more-more : (parts : List (List ℕ)) (r : Reading S L) (part : List ℕ) → all_more p r parts ≡ true → all_more p r (parts ++ part ∷ []) ≡ turn_more p (all_next p r parts) part
  unfolding all_next all_more
  more-more [] r part e = and-true (turn_more p r part)
    where
      and-true : (b : Bool) → b && true ≡ b
      and-true true = refl
      and-true false = refl
  more-more (q ∷ parts) r part e =
      let f = both (turn_more p r q) (all_more p (turn_next p r q) parts) e in
      ap (λ (b : Bool). b && all_more p (turn_next p r q) (parts ++ part ∷ [])) f.0 ∙ more-more parts (turn_next p r q) part f.1

  pub ends_more : (parts : List (List ℕ)) (r : Reading S L) (part : List ℕ) → all_more p r parts ≡ true → ends_after p r (parts ++ part ∷ []) ≡ not (turn_more p (all_next p r parts) part)
  unfolding all_next all_more ends_after
  ends_more [] r part e = by (turn_more p r part)
    where
      by : (b : Bool) → cond b false true ≡ not b
      by true = refl
      by false = refl
  ends_more (q ∷ parts) r part e =
      let f = both (turn_more p r q) (all_more p (turn_next p r q) parts) e in
      ap (λ (b : Bool). cond b (ends_after p (turn_next p r q) (parts ++ part ∷ [])) (is_none (parts ++ part ∷ []))) f.0 ∙ ends_more parts (turn_next p r q) part f.1

  pub printed_more : (parts : List (List ℕ)) (r : Reading S L) (part : List ℕ) → all_more p r parts ≡ true
      → all_printed p r (parts ++ part ∷ []) ≡ all_printed p r parts ++ turn_printed p (all_next p r parts) part
  unfolding all_next all_more all_printed
  printed_more [] r part e = by (turn_more p r part)
    where
      by : (b : Bool) → turn_printed p r part ++ cond b [] [] ≡ turn_printed p r part
      by true = append-nil (turn_printed p r part)
      by false = append-nil (turn_printed p r part)
  printed_more (q ∷ parts) r part e =
      let f = both (turn_more p r q) (all_more p (turn_next p r q) parts) e in
      ap (λ (b : Bool). turn_printed p r q ++ cond b (all_printed p (turn_next p r q) (parts ++ part ∷ [])) []) f.0
      ∙ ap (λ (bs : List ℕ). turn_printed p r q ++ bs) (printed_more parts (turn_next p r q) part f.1)
      ∙ sym (append_assoc (turn_printed p r q) (all_printed p (turn_next p r q) parts) (turn_printed p (all_next p (turn_next p r q) parts) part))
      ∙ ap (λ (b : Bool). (turn_printed p r q ++ cond b (all_printed p (turn_next p r q) parts) []) ++ turn_printed p (all_next p (turn_next p r q) parts) part) (sym f.0)
