-- The command of what is kept of a line is the command of the line. Assumes nothing.
use mathlib.Core.Path.{◌≡◌, refl, ap, ap₂, ◌∙◌}
use mathlib.Core.Bool.{Bool, true, false, cond, ◌&&◌}
use mathlib.Core.List.{List}
use Prim.Native.Nat.{ℕ, ◌<◌}
use native.Mathlib.Omega.{arith}
use lib.Dec.{leb}
use lib.ListN.{length}
use mir.Val.{Fits}
use mir.Syntax.{w8}
use borrow.Author.Tests.{leb-true}
use Rattle.lists.proofs.TestLaws.{both}
use Rattle.text.specs.Line.{words_of, word}
use Rattle.text.specs.Decimal.{is_number, value_of, most_number}
use Rattle.text.specs.declared.Number.{Number}
use Rattle.text.specs.Kept.{too_large, no_line, line_with_all, number_is}
use Rattle.text.proofs.KeptLaws.{kept_of, kept_line}
use Rattle.text.proofs.WordLaws.{kept-count, first-test, second-test, first-value, second-value}
use Rattle.script.specs.declared.Command.{Command}
use Rattle.script.specs.declared.Command.TheVariants.{Write, Disk, Send, Close, Move, Acknowledge, Take, Flush, Takeover, Other}
use Rattle.script.specs.Command.{letter_w, letter_d, letter_s, letter_c, letter_m, letter_a, letter_t, letter_f, letter_k, most_byte, is_line, is_kept_line, command_of_words, command_of, command_of_line}

module _ (ws : List (List ℕ)) where
  pub line-test : (letter n : ℕ) → n < 4 → is_kept_line letter n (kept_of ws) ≡ is_line letter n ws
  unfolding kept_of
  line-test letter n h = rw (kept-count 4 (length ws) n h, kept-count 2 (length (word ws 0)) 1 (omega arith))

  -- a line of a letter and a number of at most most: the test, and the value where it holds
  one-test : (letter most : ℕ) → most < too_large
      → (is_kept_line letter 2 (kept_of ws) && number_is most (kept_of ws).first) ≡ (is_line letter 2 ws && is_number most (word ws 1))
  one-test letter most h = ap₂ ◌&&◌ (line-test letter 2 (omega arith)) (first-test ws most h)

  one_value : (make : ℕ → Command) (letter most : ℕ) → most < too_large → (is_line letter 2 ws && is_number most (word ws 1)) ≡ true
      → make (kept_of ws).first.value ≡ make (value_of (word ws 1))
  one_value make letter most h e = ap make (first-value ws most h (both (is_line letter 2 ws) (is_number most (word ws 1)) e).1)

  -- the same of a letter, a number and a byte
  pub two-test : (letter : ℕ) → (is_kept_line letter 3 (kept_of ws) && number_is most_number (kept_of ws).first && number_is most_byte (kept_of ws).second)
      ≡ (is_line letter 3 ws && is_number most_number (word ws 1) && is_number most_byte (word ws 2))
  two-test letter = ap₂ ◌&&◌ (ap₂ ◌&&◌ (line-test letter 3 (omega arith)) (first-test ws most_number (omega arith))) (second-test ws most_byte (omega arith))

  pub two-value : {A : Type 0} (make : ℕ → ℕ → A) (letter : ℕ) → (is_line letter 3 ws && is_number most_number (word ws 1) && is_number most_byte (word ws 2)) ≡ true
      → make (kept_of ws).first.value (kept_of ws).second.value ≡ make (value_of (word ws 1)) (value_of (word ws 2))
  two-value make letter e =
      let p = both (is_line letter 3 ws && is_number most_number (word ws 1)) (is_number most_byte (word ws 2)) e in
      let q = both (is_line letter 3 ws) (is_number most_number (word ws 1)) p.0 in
      ap₂ make (first-value ws most_number (omega arith) q.1) (second-value ws most_byte (omega arith) p.1)

-- one test of a row of tests, with what it gives
pub choose : {A : Type 0} (s t : Bool) (x y u v : A) → s ≡ t → (t ≡ true → x ≡ y) → u ≡ v → cond s x u ≡ cond t y v
choose s true x y u v p f q = rw p (f refl)
choose s false x y u v p f q = rw p q

command-of-words : (ws : List (List ℕ)) → command_of_line (kept_of ws) ≡ command_of_words ws
unfolding command_of_line command_of_words
command-of-words ws =
    let one : 1 < 4 = omega arith in
    choose _ _ _ _ _ _ (two-test ws letter_w) (two-value ws Write letter_w)
    (choose _ _ _ _ _ _ (two-test ws letter_d) (two-value ws Disk letter_d)
    (choose _ _ _ _ _ _ (one-test ws letter_s most_number (omega arith)) (one_value ws Send letter_s most_number (omega arith))
    (choose _ _ _ _ _ _ (one-test ws letter_c most_byte (omega arith)) (one_value ws Close letter_c most_byte (omega arith))
    (choose _ _ Move Move _ _ (line-test ws letter_m 1 one) (λ e. refl)
    (choose _ _ Acknowledge Acknowledge _ _ (line-test ws letter_a 1 one) (λ e. refl)
    (choose _ _ Take Take _ _ (line-test ws letter_t 1 one) (λ e. refl)
    (choose _ _ Flush Flush _ _ (line-test ws letter_f 1 one) (λ e. refl)
    (choose _ _ Takeover Takeover Other Other (line-test ws letter_k 1 one) (λ e. refl) refl))))))))

-- the command of a line, from what is kept of it
pub command-of-line : (line : List ℕ) → command_of_line (line_with_all no_line line) ≡ command_of line
command-of-line line = ap command_of_line (kept_line line) ∙ command-of-words (words_of line)

-- a number of at most 255 fits a byte
pub byte_fits : (n : Number) → number_is most_byte n ≡ true → Fits w8 n.value
byte_fits n e = record { fits = omega (arith, leb-true n.value most_byte (both (n.some && n.digits) (leb n.value most_byte) e).1) }
