-- Laws of feeding a part of the input: parts one after the other, a line's bytes, a newline, and nothing after the last line. Assumes nothing.
use Prim.Native.Nat.{ℕ, suc, ◌≤◌, ◌<◌}
use mathlib.Core.Path.{◌≡◌, refl, sym, ap, ap₂, ◌∙◌}
use mathlib.Core.Bool.{Bool, true, false, cond}
use mathlib.Core.List.{List, [], ◌∷◌, ◌++◌, append_assoc, append-nil}
use native.Mathlib.Omega.{arith}
use lib.Dec.{eqb}
use lib.ListN.{length, take}
use borrow.Author.Tests.{eqb-true}
use Rattle.text.specs.Line.{first_part, first_line, newline}
use Rattle.text.specs.Kept.{kept_all}
use Rattle.text.specs.Feed.{Program, Reading, reading, line_answered, fed, fed_printed, fed_all, fed_all_printed}

module _ {S L : Type 0} (p : Program S L) where
  -- ---- parts, one after the other
  pub fed-append : (r : Reading S L) (a b : List ℕ) → fed_all p r (a ++ b) ≡ fed_all p (fed_all p r a) b
  unfolding fed_all
  fed-append r [] b = refl
  fed-append r (x ∷ a) b = fed-append (fed p r x) a b

  pub printed-append : (r : Reading S L) (a b : List ℕ) → fed_all_printed p r (a ++ b) ≡ fed_all_printed p r a ++ fed_all_printed p (fed_all p r a) b
  unfolding fed_all fed_all_printed
  printed-append r [] b = refl
  printed-append r (x ∷ a) b = ap (λ (l : List ℕ). fed_printed p r x ++ l) (printed-append (fed p r x) a b) ∙ sym (append_assoc (fed_printed p r x) _ _)

  -- ---- after the last line
  module _ (w : S) (l : L) where
    pub fed-over : (bs : List ℕ) → fed_all p (reading w l true) bs ≡ reading w l true
    unfolding fed_all fed
    fed-over [] = refl
    fed-over (b ∷ bs) = fed-over bs

    pub printed-over : (bs : List ℕ) → fed_all_printed p (reading w l true) bs ≡ []
    unfolding fed_all_printed fed fed_printed
    printed-over [] = refl
    printed-over (b ∷ bs) = printed-over bs

  -- ---- the bytes of a line, and its newline
  module _ (w : S) where
    -- one byte that is no newline
    pub fed-other : (l : L) (b : ℕ) → eqb b newline ≡ false → fed p (reading w l false) b ≡ reading w (p.line_with l b) false
    unfolding fed
    fed-other l b e = rw e

    printed-other : (l : L) (b : ℕ) → eqb b newline ≡ false → fed_printed p (reading w l false) b ≡ []
    unfolding fed_printed
    printed-other l b e = rw e

    pub fed-line : (l : L) (bs : List ℕ) → fed_all p (reading w l false) (first_line bs) ≡ reading w (kept_all p.line_with l (first_line bs)) false
    unfolding fed_all first_part kept_all
    fed-line l [] = refl
    fed-line l (b ∷ bs) = by (eqb b newline) refl (λ m. fed-line m bs)
      where
        by : (t : Bool) → eqb b newline ≡ t → ((m : L) → fed_all p (reading w m false) (first_line bs) ≡ reading w (kept_all p.line_with m (first_line bs)) false)
            → fed_all p (reading w l false) (cond t [] (b ∷ first_line bs)) ≡ reading w (kept_all p.line_with l (cond t [] (b ∷ first_line bs))) false
        by true e next = refl
        by false e next = ap (λ (r : Reading S L). fed_all p r (first_line bs)) (fed-other l b e) ∙ next (p.line_with l b)

    pub printed-line : (l : L) (bs : List ℕ) → fed_all_printed p (reading w l false) (first_line bs) ≡ []
    unfolding fed_all_printed first_part
    printed-line l [] = refl
    printed-line l (b ∷ bs) = by (eqb b newline) refl (λ m. printed-line m bs)
      where
        by : (t : Bool) → eqb b newline ≡ t → ((m : L) → fed_all_printed p (reading w m false) (first_line bs) ≡ []) → fed_all_printed p (reading w l false) (cond t [] (b ∷ first_line bs)) ≡ []
        by true e next = refl
        by false e next = ap₂ (λ (x : List ℕ) (r : Reading S L). x ++ fed_all_printed p r (first_line bs)) (printed-other l b e) (fed-other l b e) ∙ next (p.line_with l b)

  -- a newline behind a line: it is answered
  pub fed-newline : (w : S) (l : L) → let r = reading w l false in fed_all p r (newline ∷ []) ≡ reading (line_answered p r).next p.no_line (line_answered p r).last
  unfolding fed_all fed
  fed-newline w l = refl

  pub printed-newline : (w : S) (l : L) → fed_all_printed p (reading w l false) (newline ∷ []) ≡ (line_answered p (reading w l false)).printed
  unfolding fed_all_printed fed_printed
  printed-newline w l = append-nil _

-- ---- where the first part of some bytes ends
module _ (separator : ℕ) where
  pub first-length : (bs : List ℕ) → length (first_part separator bs) ≤ length bs
  unfolding first_part
  first-length [] = omega arith
  first-length (b ∷ bs) = by (eqb b separator) (first-length bs)
    where
      by : (t : Bool) → length (first_part separator bs) ≤ length bs → length (cond t [] (b ∷ first_part separator bs)) ≤ length (b ∷ bs)
      by true h = omega arith
      by false h = omega arith

  pub first-is : (bs : List ℕ) → take (length (first_part separator bs)) bs ≡ first_part separator bs
  unfolding first_part
  first-is [] = refl
  first-is (b ∷ bs) = by (eqb b separator) (first-is bs)
    where
      by : (t : Bool) → take (length (first_part separator bs)) bs ≡ first_part separator bs
          → take (length (cond t [] (b ∷ first_part separator bs))) (b ∷ bs) ≡ cond t [] (b ∷ first_part separator bs)
      by true h = refl
      by false h = ap (λ (l : List ℕ). b ∷ l) h

-- with the newline, where there is one
pub first-line-ended : (bs : List ℕ) → length (first_line bs) < length bs → take (suc (length (first_line bs))) bs ≡ first_line bs ++ (newline ∷ [])
unfolding first_part
first-line-ended [] h = absurd (none h)
  where
    none : 0 < 0 → ⊥
    none k = omega arith
first-line-ended (b ∷ bs) h = by (eqb b newline) refl h (λ k. first-line-ended bs k)
  where
    by : (t : Bool) → eqb b newline ≡ t → length (cond t [] (b ∷ first_line bs)) < length (b ∷ bs) → (length (first_line bs) < length bs → take (suc (length (first_line bs))) bs ≡ first_line bs ++ (newline ∷ []))
        → take (suc (length (cond t [] (b ∷ first_line bs)))) (b ∷ bs) ≡ cond t [] (b ∷ first_line bs) ++ (newline ∷ [])
    by true e h next = ap (λ (x : ℕ). x ∷ []) (eqb-true _ _ e)
    by false e h next = ap (λ (l : List ℕ). b ∷ l) (next (omega arith))
