-- Laws of what is kept of a line: its first bytes, which are enough for its answer. Assumes nothing.
use Prim.Native.Nat.{ℕ, zero, suc, ◌+◌, ◌-◌, ◌≤◌, ◌<◌, min}
use mathlib.Core.Path.{◌≡◌, refl, sym, ap, ◌∙◌}
use mathlib.Core.Logic.{◌⊎◌, inl, inr}
use mathlib.Core.Bool.{false}
use mathlib.Core.List.{List, [], ◌∷◌, ◌++◌, append-nil}
use native.Mathlib.Omega.{arith}
use lib.ListN.{length, take, length-append, length-take}
use lib.Seq.{take_all, take-append-le, take-append-add, append_snoc}
use borrow.Author.Tests.{le-leb, lt-leb, lt-ltb, ne_eqb, eq-eqb, eqb-true}
use Rattle.lists.specs.Part.{part, put}
use Rattle.lists.proofs.TestLaws.{agree, lt-or-ge}
use Rattle.lists.proofs.PartLaws.{length_part, part-zero, take-put-end}
use Rattle.text.specs.Line.{is_empty}
use Rattle.text.specs.Kept.{kept_all}
use Rattle.text.specs.Feed.{KeptRight}
use Rattle.plates.specs.declared.Fault.TheVariants.{Long}
use Rattle.plates.specs.declared.KeptLine.{KeptLine}
use Rattle.plates.specs.Words.{bad_line}
use Rattle.plates.specs.Plate.{most_line, plate_of, kept_with, plate_answer, plate_program}
use Rattle.plates.specs.Read.{kept_of}

-- ---- a byte at a time
with-room : (l : List ℕ) (b : ℕ) → length l ≤ most_line → kept_with l b ≡ l ++ (b ∷ [])
with-room l b h = rw (le-leb (length l) most_line h)

with_none : (l : List ℕ) (b : ℕ) → most_line < length l → kept_with l b ≡ l
with_none l b h = rw (lt-leb (length l) most_line h)

-- a full line takes no more
full : (l s : List ℕ) → length l ≡ most_line + 1 → take (most_line + 1) (l ++ s) ≡ l
full l s e = take-append-le (most_line + 1) l s (omega arith) ∙ take_all (most_line + 1) l (omega arith)

pub kept-behind : (l line : List ℕ) → length l ≤ most_line + 1 → kept_all kept_with l line ≡ take (most_line + 1) (l ++ line)
unfolding kept_all
kept-behind l [] h = sym (ap (take (most_line + 1)) (append-nil l) ∙ take_all (most_line + 1) l h)
kept-behind l (b ∷ line) h = by (lt-or-ge most_line (length l)) (kept-behind l line h) (λ k. kept-behind (l ++ (b ∷ [])) line k)
  where
    by : ((most_line < length l) ⊎ (length l ≤ most_line)) → kept_all kept_with l line ≡ take (most_line + 1) (l ++ line)
        → (length (l ++ (b ∷ [])) ≤ most_line + 1 → kept_all kept_with (l ++ (b ∷ [])) line ≡ take (most_line + 1) (l ++ (b ∷ []) ++ line))
        → kept_all kept_with (kept_with l b) line ≡ take (most_line + 1) (l ++ b ∷ line)
    by (inl k) same more =
        let e : length l ≡ most_line + 1 = omega arith in
        ap (λ (x : List ℕ). kept_all kept_with x line) (with_none l b k) ∙ same ∙ full l line e ∙ sym (full l (b ∷ line) e)
    by (inr k) same more =
        let m : length (l ++ (b ∷ [])) ≤ most_line + 1 = rw (length-append l (b ∷ [])) (omega arith) in
        ap (λ (x : List ℕ). kept_all kept_with x line) (with-room l b k) ∙ more m ∙ ap (take (most_line + 1)) (append_snoc l b line)

-- what is kept of a whole line
pub kept_whole : (line : List ℕ) → kept_all kept_with [] line ≡ take (most_line + 1) line
kept_whole line = kept-behind [] line (omega arith)

-- ---- it is enough
plate-long : (line : List ℕ) → most_line < length line → plate_of line ≡ bad_line Long (most_line + 1)
unfolding plate_of
plate-long line h = rw (ne_eqb (length line) 0 (λ e. omega arith), lt-ltb most_line (length line) h)

plate-kept : (line : List ℕ) → plate_of (take (most_line + 1) line) ≡ plate_of line
plate-kept line = by (lt-or-ge most_line (length line))
  where
    by : ((most_line < length line) ⊎ (length line ≤ most_line)) → plate_of (take (most_line + 1) line) ≡ plate_of line
    by (inl h) =
        let k : most_line < length (take (most_line + 1) line) = rw (length-take (most_line + 1) line) (omega arith) in
        plate-long (take (most_line + 1) line) k ∙ sym (plate-long line h)
    by (inr h) = ap plate_of (take_all (most_line + 1) line (omega arith))

empty-kept : (line : List ℕ) → is_empty (take (most_line + 1) line) ≡ is_empty line
empty-kept line =
    rw (length-take (most_line + 1) line)
    (agree _ _
    (λ e. let w = eqb-true (min (most_line + 1) (length line)) 0 e in eq-eqb (length line) 0 (omega arith))
    (λ e. let w = eqb-true (length line) 0 e in eq-eqb (min (most_line + 1) (length line)) 0 (omega arith)))

pub kept-right : KeptRight plate_program
kept-right =
    record {
      answers = λ s line. ap plate_answer (kept_whole line) ∙ ap (λ (out : List ℕ). record { next = tt; printed = out; last = false }) (plate-kept line);
      empty = λ line. ap is_empty (kept_whole line) ∙ empty-kept line;
    }

-- ---- the struct: a length above that of the array stands for the whole array
take-taken : (n : ℕ) (s : List ℕ) → take (length (take n s)) s ≡ take n s
take-taken zero s = refl
take-taken (suc n) [] = refl
take-taken (suc n) (x ∷ s) = ap (λ (l : List ℕ). x ∷ l) (take-taken n s)

-- the bytes that are lent
pub kept-lent : (l : KeptLine) (n : ℕ) → n ≡ length (kept_of l) → take n l.bytes ≡ kept_of l
kept-lent l n e = rw e (take-taken l.length l.bytes)

pub kept-least : (l : KeptLine) → length l.bytes ≡ most_line + 1 → length (kept_of l) ≡ min l.length (most_line + 1)
kept-least l e = length-take l.length l.bytes ∙ ap (min l.length) e

take-least : (s : List ℕ) (n m : ℕ) → n ≡ min (length s) m → take n s ≡ take m s
take-least s n m e = by (lt-or-ge (length s) m)
  where
    by : ((length s < m) ⊎ (m ≤ length s)) → take n s ≡ take m s
    by (inl h) = take_all n s (omega arith) ∙ sym (take_all m s (omega arith))
    by (inr h) = let w : n ≡ m = omega arith in ap (λ (k : ℕ). take k s) w

-- some bytes more, as far as there is room
pub kept_more : (l : KeptLine) (s : List ℕ) (count n : ℕ) (after : List ℕ) → length l.bytes ≡ most_line + 1 → count ≡ length (kept_of l)
    → n ≡ min (length s) (most_line + 1 - count) → after ≡ put l.bytes count (part 0 n s) → take (count + n) after ≡ kept_all kept_with (kept_of l) s
kept_more l s count n after e c m a =
    let low : length (kept_of l) ≤ most_line + 1 = let w = kept-least l e in omega arith in
    let long : length (part 0 n s) ≡ n = length_part 0 n s (omega arith) in
    let room : most_line + 1 ≡ length (kept_of l) + (most_line + 1 - count) = omega arith in
    let bs = part 0 n s in
    let joined : take (count + n) after ≡ take count l.bytes ++ bs =
    rw a (ap (λ (k : ℕ). take (count + k) (put l.bytes count bs)) (sym long) ∙ take-put-end l.bytes count bs (omega arith)) in
    joined
    ∙ rw (kept-lent l count c, part-zero n s, take-least s n (most_line + 1 - count) m)
    (sym (kept-behind (kept_of l) s low ∙ ap (λ (k : ℕ). take k (kept_of l ++ s)) room ∙ take-append-add (kept_of l) s (most_line + 1 - count)))
