-- Laws of what is kept of a line: it is what the line's words give. Assumes nothing.
use Rattle.std.specs.List.{fold}
use mathlib.Core.Path.{◌≡◌, refl, sym, ap, ◌∙◌}
use mathlib.Core.Logic.{⊎_elim}
use mathlib.Core.Bool.{true, false, cond}
use mathlib.Core.List.{List, [], ◌∷◌, ◌++◌, append-nil}
use Prim.Native.Nat.{ℕ, suc, ◌+◌, ◌≤◌, ◌<◌, min}
use native.Mathlib.Omega.{arith}
use lib.Dec.{ltb, eqb, eqb-suc-zero}
use lib.ListN.{length, drop, get_or, drop_of_length-le, length-append}
use lib.Seq.{drop-cons, append_snoc}
use borrow.Author.Tests.{ne_eqb}
use Rattle.lists.proofs.TestLaws.{by-test, and-false}
use Rattle.text.specs.Line.{space, split, words_of}
use Rattle.text.specs.Line as line
use Rattle.text.specs.Kept.{kept_all, no_line, next_word, line_with, line_with_all, is_empty_line}
use Rattle.text.specs.declared.Line.{Line}
use Rattle.text.proofs.SplitLaws.{joined, joined-byte, split-separator, split-other, parts, joined-none}
use Rattle.text.proofs.NumberLaws.{kept, number_with_all, number-with-last}

-- ---- a byte at a time, whatever is kept
module _ {L : Type 0} (f : L → ℕ → L) where
  -- the bytes from a place on
  module _ (l : L) (bytes : List ℕ) (i : ℕ) where
    pub kept_next : i < length bytes → kept_all f l (drop i bytes) ≡ kept_all f (f l (get_or bytes i 0)) (drop (suc i) bytes)
    unfolding kept_all
    kept_next h = rw (drop-cons bytes i 0 h)

    pub kept-done : length bytes ≤ i → kept_all f l (drop i bytes) ≡ l
    unfolding kept_all
    kept-done h = rw (drop_of_length-le bytes h)

  -- a fold
  pub kept_fold : (l : L) (bytes : List ℕ) → fold f l bytes ≡ kept_all f l bytes
  unfolding kept_all
  kept_fold l [] = refl
  kept_fold l (b ∷ bytes) = kept_fold (f l b) bytes

  -- one byte more behind the others
  pub kept-snoc : (l : L) (bytes : List ℕ) (b : ℕ) → kept_all f l (bytes ++ b ∷ []) ≡ f (kept_all f l bytes) b
  unfolding kept_all
  kept-snoc l [] b = refl
  kept-snoc l (c ∷ bytes) b = kept-snoc (f l c) bytes b

-- ---- what is kept of words
-- how many there are, up to 4; of the first its length, up to 2, its first byte and its number; the second and the third
unfoldable pub kept_of : List (List ℕ) → Line
kept_of ws =
    record {
      words = min 4 (length ws);
      letters = min 2 (length (get_or ws 0 []));
      letter = get_or (get_or ws 0 []) 0 0;
      lead = kept (get_or ws 0 []);
      first = kept (get_or ws 1 []);
      second = kept (get_or ws 2 []);
    }

-- of four words or more
four : (ws : List (List ℕ)) (w : List ℕ) → min 4 (suc (suc (suc (length (ws ++ (w ∷ [])))))) ≡ 4
four ws w = rw (length-append ws (w ∷ [])) (omega arith)

-- a space opens a word behind the last one
kept-space : (ws : List (List ℕ)) (w : List ℕ) → next_word (kept_of (ws ++ (w ∷ []))) ≡ kept_of (ws ++ (w ∷ []) ++ ([] ∷ []))
unfolding kept_of
kept-space [] w = refl
kept-space (a ∷ []) w = refl
kept-space (a ∷ b ∷ []) w = refl
kept-space (a ∷ b ∷ c ∷ ws) w = rw (four ws w, four (ws ++ (w ∷ [])) [])

-- one byte more of the first word: its length, up to 2, and its first byte
letters-more : (w : List ℕ) (b : ℕ) → (cond (ltb (min 2 (length w)) 2) (min 2 (length w) + 1) 2 ≡ min 2 (length (w ++ (b ∷ []))))
    × (cond (eqb (min 2 (length w)) 0) b (get_or w 0 0) ≡ get_or (w ++ (b ∷ [])) 0 0)
letters-more [] b = (refl, refl)
letters-more (x ∷ []) b = (refl, refl)
letters-more (x ∷ y ∷ w) b =
    let e : min 2 (suc (suc (length w))) ≡ 2 = omega arith in
    let d : min 2 (suc (suc (length (w ++ (b ∷ []))))) ≡ 2 = omega arith in
    rw (e, d) (refl, refl)

-- another byte goes to the end of the last word
kept_byte : (ws : List (List ℕ)) (w : List ℕ) (b : ℕ) → eqb b space ≡ false → line_with (kept_of (ws ++ (w ∷ []))) b ≡ kept_of (ws ++ ((w ++ (b ∷ [])) ∷ []))
unfolding kept_of line_with
kept_byte [] w b e = let m = letters-more w b in rw (e, m.0, m.1, number-with-last _ w b)
kept_byte (a ∷ []) w b e = rw (e, number-with-last _ w b)
kept_byte (a ∷ c ∷ []) w b e = rw (e, number-with-last _ w b)
kept_byte (a ∷ c ∷ d ∷ ws) w b e = rw (e, four ws w, four ws (w ++ (b ∷ [])))

-- ---- all the bytes of a line
with-space : (l : Line) (b : ℕ) → eqb b space ≡ true → line_with l b ≡ next_word l
unfolding line_with
with-space l b e = rw e

kept-end : (ws : List (List ℕ)) (w : List ℕ) → kept_of (ws ++ (w ∷ [])) ≡ kept_of (ws ++ joined w (split space []))
unfolding split
kept-end ws w = rw (append-nil w)

-- the bytes that follow, where ws are the words before and w is what has come of the last
kept-all : (bytes : List ℕ) (ws : List (List ℕ)) (w : List ℕ) → line_with_all (kept_of (ws ++ (w ∷ []))) bytes ≡ kept_of (ws ++ joined w (split space bytes))
unfolding kept_all
kept-all [] ws w = kept-end ws w
kept-all (b ∷ bytes) ws w =
    ⊎_elim (λ e.
    ap (λ (l : Line). line_with_all l bytes) (with-space (kept_of (ws ++ (w ∷ []))) b e ∙ kept-space ws w)
    ∙ kept-all bytes (ws ++ (w ∷ [])) []
    ∙ rw (split-separator space b bytes e, joined-none space bytes, append-nil w, append_snoc))
    (λ e.
    ap (λ (l : Line). line_with_all l bytes) (kept_byte ws w b e)
    ∙ kept-all bytes ws (w ++ (b ∷ []))
    ∙ rw (split-other space b bytes e, joined-byte w b (split space bytes))) (by-test (eqb b space))

kept-none : no_line ≡ kept_of ([] ∷ [])
unfolding kept_of number_with_all
kept-none = refl

-- what is kept of a whole line
pub kept_line : (bytes : List ℕ) → line_with_all no_line bytes ≡ kept_of (words_of bytes)
kept_line bytes = ap (λ (l : Line). line_with_all l bytes) kept-none ∙ kept-all bytes [] [] ∙ ap kept_of (joined-none space bytes)

-- ---- the empty line
some_word : (bytes : List ℕ) → 1 ≤ length (split space bytes)
some_word bytes = rw (parts space bytes).is (omega arith)

-- neither a line that begins with a space nor one that begins with another byte is empty
two-words : (ws : List (List ℕ)) → 1 ≤ length ws → is_empty_line (kept_of ([] ∷ ws)) ≡ false
unfolding kept_of
two-words ws h = rw (ne_eqb (min 4 (suc (length ws))) 1 (λ e. omega arith))

one-letter : (b : ℕ) (ws : List (List ℕ)) → is_empty_line (kept_of (line.with_first b ws)) ≡ false
unfolding kept_of
one-letter b [] = refl
one-letter b (w ∷ ws) = rw (ne_eqb (min 2 (suc (length w))) 0 (λ e. omega arith)) (and-false (eqb (min 4 (suc (length ws))) 1))

-- nothing has come exactly where the line is empty
pub empty-line : (bytes : List ℕ) → is_empty_line (line_with_all no_line bytes) ≡ eqb (length bytes) 0
unfolding kept_all
empty-line [] = refl
empty-line (b ∷ bytes) =
    ap is_empty_line (kept_line (b ∷ bytes))
    ∙ ⊎_elim (λ e. ap (λ (ws : List (List ℕ)). is_empty_line (kept_of ws)) (split-separator space b bytes e) ∙ two-words (split space bytes) (some_word bytes))
    (λ e. ap (λ (ws : List (List ℕ)). is_empty_line (kept_of ws)) (split-other space b bytes e) ∙ one-letter b (split space bytes)) (by-test (eqb b space))
    ∙ sym (eqb-suc-zero (length bytes))
