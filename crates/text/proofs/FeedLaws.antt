-- Feeding the input byte by byte prints the output of the whole of it. Assumes nothing.
use Prim.Native.Nat.{ℕ}
use mathlib.Core.Path.{◌≡◌, refl, sym, ap, subst, ◌∙◌}
use mathlib.Core.Bool.{Bool, true, false, cond, ◌||◌}
use mathlib.Core.List.{List, [], ◌∷◌, ◌++◌, append_assoc, append-nil, drop_last}
use native.Mathlib.Omega.{arith}
use lib.Dec.{eqb}
use lib.ListN.{length}
use borrow.Author.Tests.{eqb-true, ne_eqb}
use Rattle.text.specs.Line.{split, drop_empty_last, lines_of, newline}
use Rattle.text.specs.Kept.{kept_all}
use Rattle.text.specs.Feed.{Answered, Program, kept_line, KeptRight, printed_lines, output, ended_lines, any_last, Reading, reading, first_reading, fed, fed_printed, fed_all, fed_all_printed, end_printed}
use Rattle.text.proofs.SplitLaws.{joined, joined-byte, split-separator, split-other, parts, joined-none}
use Rattle.text.proofs.KeptLaws.{kept-snoc}
use Rattle.text.proofs.FeedPartLaws.{fed-over, fed-other}

-- what follows bytes without a newline goes on with their line
abbrev Unended : List ℕ → Type 0
Unended part = (rest : List ℕ) → split newline (part ++ rest) ≡ joined part (split newline rest)

unended-none : Unended []
unended-none rest = sym (joined-none newline rest)

unended-one : (part : List ℕ) (b : ℕ) → eqb b newline ≡ false → Unended part → Unended (part ++ b ∷ [])
unended-one part b e u rest =
    rw (append_assoc part (b ∷ []) rest, u (b ∷ rest), split-other newline b rest e) (joined-byte part b (split newline rest))

-- a part with another behind it is no last one
drop-not-last : (part : List ℕ) (ps : List (List ℕ)) (q : List ℕ) (qs : List (List ℕ)) → ps ≡ q ∷ qs → drop_empty_last (part ∷ ps) ≡ part ∷ drop_empty_last ps
drop-not-last [] ps q qs e = rw e
drop-not-last (b ∷ bs) ps q qs e = refl

split-ended : (part rest : List ℕ) → Unended part → split newline (part ++ newline ∷ rest) ≡ part ∷ split newline rest
split-ended part rest u = rw (u (newline ∷ rest), split-separator newline newline rest refl, append-nil part)

split-last : (part : List ℕ) → Unended part → split newline part ≡ part ∷ []
unfolding split
split-last part u =
    let e : split newline (part ++ []) ≡ (part ++ []) ∷ [] = u [] in
    rw (append-nil part) at e

-- the lines of a line with its newline and what follows
lines-newline : (part rest : List ℕ) → Unended part → lines_of (part ++ newline ∷ rest) ≡ part ∷ lines_of rest
lines-newline part rest u =
    let p = parts newline rest in
    ap drop_empty_last (split-ended part rest u) ∙ drop-not-last part (split newline rest) p.head p.rest p.is

-- the lines of a last one without its newline
lines_none : lines_of [] ≡ []
unfolding split
lines_none = refl

lines-last : (b : ℕ) (bs : List ℕ) → Unended (b ∷ bs) → lines_of (b ∷ bs) ≡ (b ∷ bs) ∷ []
lines-last b bs u = ap drop_empty_last (split-last (b ∷ bs) u)

-- the lines with their newline, of a line with its newline and what follows
not_last : (part : List ℕ) (ps : List (List ℕ)) (q : List ℕ) (qs : List (List ℕ)) → ps ≡ q ∷ qs → drop_last (part ∷ ps) ≡ part ∷ drop_last ps
not_last part ps q qs e = rw e

ended-newline : (part rest : List ℕ) → Unended part → ended_lines (part ++ newline ∷ rest) ≡ part ∷ ended_lines rest
ended-newline part rest u =
    let p = parts newline rest in
    ap drop_last (split-ended part rest u) ∙ not_last part (split newline rest) p.head p.rest p.is

-- ---- after the last line nothing is printed
pub over-printed : {S L : Type 0} (p : Program S L) (s : S) (l : L) (input : List ℕ) → fed_all_printed p (reading s l true) input ++ end_printed p (fed_all p (reading s l true) input) ≡ []
unfolding fed_all_printed fed_all fed fed_printed end_printed
over-printed p s l [] = refl
over-printed p s l (b ∷ bs) = over-printed p s l bs

module _ {S L : Type 0} (p : Program S L) (right : KeptRight p) where
  -- ---- from a line under way to the end of the input

  -- what is printed from here on
  abbrev Goes : S → List ℕ → List ℕ → Type 0
  Goes s part input =
      let r = reading s (kept_line p part) false in
      fed_all_printed p r input ++ end_printed p (fed_all p r input) ≡ printed_lines p s (lines_of (part ++ input))

  at-end : (s : S) (part : List ℕ) → Unended part → Goes s part []
  unfolding fed_all_printed fed_all end_printed printed_lines
  at-end s [] u = rw (lines_none, right.empty [])
  at-end s (b ∷ bs) u =
      let lines : lines_of (b ∷ (bs ++ [])) ≡ (b ∷ bs) ∷ [] = ap (λ (l : List ℕ). lines_of (b ∷ l)) (append-nil bs) ∙ lines-last b bs u in
      let some : eqb (length (b ∷ bs)) 0 ≡ false = ne_eqb _ _ (λ e. no_zero e) in
      rw (lines, right.empty (b ∷ bs), some, right.answers s (b ∷ bs))
    where
      no_zero : length (b ∷ bs) ≡ 0 → ⊥
      no_zero e = omega arith

  -- a newline: the line is answered, and what follows goes on from there
  at-newline : (bs : List ℕ) (s : S) (part : List ℕ) → Unended part → ((s : S) → Goes s [] bs) → Goes s part (newline ∷ bs)
  unfolding fed_all_printed fed_all fed_printed fed printed_lines kept_all
  at-newline bs s part u next =
      rw (lines-newline part bs u, right.answers s part, append_assoc (p.answer s part).printed)
      (ap (λ (l : List ℕ). (p.answer s part).printed ++ l) (rest (p.answer s part).last (p.answer s part).next))
    where
      rest : (last : Bool) (s' : S) → fed_all_printed p (reading s' p.no_line last) bs ++ end_printed p (fed_all p (reading s' p.no_line last) bs) ≡ cond last [] (printed_lines p s' (lines_of bs))
      rest true s' = over-printed p s' p.no_line bs
      rest false s' = next s'

  -- another byte: the line goes on
  at_other : (b : ℕ) (bs : List ℕ) (s : S) (part : List ℕ) → eqb b newline ≡ false → Goes s (part ++ b ∷ []) bs → Goes s part (b ∷ bs)
  unfolding fed_all_printed fed_all fed_printed fed
  at_other b bs s part e next = rw e (rw (append_assoc part (b ∷ []) bs, kept-snoc p.line_with p.no_line part b) at next)

  at_byte : (b : ℕ) (bs : List ℕ) (t : Bool) → eqb b newline ≡ t → ((s : S) (part : List ℕ) → Unended part → Goes s part bs) → (s : S) (part : List ℕ) → Unended part → Goes s part (b ∷ bs)
  at_byte b bs true e next s part u = subst (λ (x : ℕ). Goes s part (x ∷ bs)) (sym (eqb-true _ _ e)) (at-newline bs s part u (λ s'. next s' [] unended-none))
  at_byte b bs false e next s part u = at_other b bs s part e (next s (part ++ b ∷ []) (unended-one part b e u))

  goes : (input : List ℕ) (s : S) (part : List ℕ) → Unended part → Goes s part input
  goes [] s part u = at-end s part u
  goes (b ∷ bs) s part u = at_byte b bs (eqb b newline) refl (λ s' part' u'. goes bs s' part' u') s part u

  pub output-fed : (input : List ℕ) → fed_all_printed p (first_reading p) input ++ end_printed p (fed_all p (first_reading p) input) ≡ output p input
  unfolding kept_all
  output-fed input = goes input p.start [] unended-none

  -- ---- the program is at its end exactly where the last line was answered

  -- whether it is, from a line under way on
  abbrev Ends : S → List ℕ → List ℕ → Type 0
  Ends s part input = (fed_all p (reading s (kept_line p part) false) input).over ≡ any_last p s (ended_lines (part ++ input))

  ends-none : (s : S) (part : List ℕ) → Unended part → Ends s part []
  unfolding fed_all any_last
  ends-none s part u = rw (append-nil part, split-last part u)

  ends-newline : (bs : List ℕ) (s : S) (part : List ℕ) → Unended part → ((s : S) → Ends s [] bs) → Ends s part (newline ∷ bs)
  unfolding fed_all fed any_last kept_all
  ends-newline bs s part u next =
      let kept : fed p (reading s (kept_line p part) false) newline ≡ reading (p.answer s part).next p.no_line (p.answer s part).last
      = ap (λ (a : Answered S). reading a.next p.no_line a.last) (right.answers s part) in
      ap (λ (r : Reading S L). (fed_all p r bs).over) kept
      ∙ rest (p.answer s part).last (p.answer s part).next
      ∙ sym (ap (any_last p s) (ended-newline part bs u))
    where
      rest : (last : Bool) (s' : S) → (fed_all p (reading s' p.no_line last) bs).over ≡ last || any_last p s' (ended_lines bs)
      rest true s' = rw (fed-over p s' p.no_line bs)
      rest false s' = next s'

  ends-other : (b : ℕ) (bs : List ℕ) (s : S) (part : List ℕ) → eqb b newline ≡ false → Ends s (part ++ b ∷ []) bs → Ends s part (b ∷ bs)
  unfolding fed_all
  ends-other b bs s part e next =
      let kept : fed p (reading s (kept_line p part) false) b ≡ reading s (kept_line p (part ++ b ∷ [])) false
      = fed-other p s (kept_line p part) b e ∙ ap (λ (l : L). reading s l false) (sym (kept-snoc p.line_with p.no_line part b)) in
      ap (λ (r : Reading S L). (fed_all p r bs).over) kept ∙ next ∙ ap (λ (l : List ℕ). any_last p s (ended_lines l)) (append_assoc part (b ∷ []) bs)

  ends-byte : (b : ℕ) (bs : List ℕ) (t : Bool) → eqb b newline ≡ t → ((s : S) (part : List ℕ) → Unended part → Ends s part bs) → (s : S) (part : List ℕ) → Unended part → Ends s part (b ∷ bs)
  ends-byte b bs true e next s part u = subst (λ (x : ℕ). Ends s part (x ∷ bs)) (sym (eqb-true _ _ e)) (ends-newline bs s part u (λ s'. next s' [] unended-none))
  ends-byte b bs false e next s part u = ends-other b bs s part e (next s (part ++ b ∷ []) (unended-one part b e u))

  ends : (input : List ℕ) (s : S) (part : List ℕ) → Unended part → Ends s part input
  ends [] s part u = ends-none s part u
  ends (b ∷ bs) s part u = ends-byte b bs (eqb b newline) refl (λ s' part' u'. ends bs s' part' u') s part u

  pub over-fed : (input : List ℕ) → (fed_all p (first_reading p) input).over ≡ any_last p p.start (ended_lines input)
  unfolding kept_all
  over-fed input = ends input p.start [] unended-none
