-- What a part of the input leaves in the program and in the output buffer. Assumes nothing.
use Prim.Native.Nat.{ℕ, suc, ◌+◌, ◌-◌, ◌*◌, ◌≤◌, ◌<◌}
use mathlib.Core.Path.{◌≡◌, refl, sym, ap, subst, ◌∙◌}
use mathlib.Core.Logic.{⊎_elim}
use mathlib.Core.Bool.{Bool, true, false}
use mathlib.Core.List.{List, [], ◌∷◌, ◌++◌, append-nil}
use native.Mathlib.Nat.{zero-add, zero-mul, suc-mul, mul-le-mul_right}
use native.Mathlib.Omega.{arith}
use lib.ListN.{length, take, drop, length-drop, take-append-drop}
use lib.Seq.{length-take-le, take_all, take-add, take-append_seam}
use Rattle.lists.specs.Part.{PutDone}
use Rattle.lists.proofs.PartLaws.{put_front, put-done-none, put-done-more, put-done-length}
use Rattle.lists.proofs.TestLaws.{lt-or-ge}
use Rattle.text.specs.Line.{first_line, newline}
use Rattle.text.specs.Kept.{kept_all}
use Rattle.text.specs.Feed.{Program, Reading, reading, line_answered, fed_all, fed_all_printed, end_printed}
use Rattle.text.proofs.FeedPartLaws.{fed-append, printed-append, fed-over, printed-over, fed-line, printed-line, fed-newline, printed-newline, first-length, first-is, first-line-ended}

-- the first n bytes of an array of most
pub taken-length : (most n : ℕ) (bytes : List ℕ) → n ≤ most → length bytes ≡ most → length (take n bytes) ≡ n
taken-length most n bytes h e = length-take-le n bytes (omega arith)

-- what was put at the head of a buffer stands there
pub taken-put : (bs s t : List ℕ) (n : ℕ) → PutDone bs s 0 t n → take n t ≡ bs
taken-put bs s t n d =
    let n-is : n ≡ length bs = d.position ∙ zero-add (length bs) in
    rw (n-is, d.bytes, put_front s bs) (take-append_seam bs (drop (length bs) s))

module _ {S L : Type 0} (p : Program S L) where
  -- ---- a line's answer
  module _ (w : S) (l : L) (over : Bool) (still : over ≡ false) where
    pub answered-run : (w' : S) (l' : L) (over' : Bool) → w' ≡ (line_answered p (reading w l false)).next → l' ≡ p.no_line → over' ≡ (line_answered p (reading w l false)).last
        → reading w' l' over' ≡ fed_all p (reading w l over) (newline ∷ [])
    answered-run w' l' over' a b c = rw (still, fed-newline p w l, a, b, c)

    pub answered-put : (s t : List ℕ) (at n : ℕ) → PutDone (line_answered p (reading w l false)).printed s at t n → PutDone (fed_all_printed p (reading w l over) (newline ∷ [])) s at t n
    answered-put s t at n d = rw (still, printed-newline p w l) d

  -- ---- the end of the input
  module _ (w : S) (l : L) (over : Bool) where
    pub ended-over : (s : List ℕ) → over ≡ true → PutDone (end_printed p (reading w l over)) s 0 s 0
    unfolding end_printed
    ended-over s e = rw e (put-done-none s 0)

    -- no line is under way: the program finishes
    pub ended-empty : (s t : List ℕ) (n : ℕ) → over ≡ false → p.is_empty_line l ≡ true → PutDone (p.finish w) s 0 t n → PutDone (end_printed p (reading w l over)) s 0 t n
    unfolding end_printed
    ended-empty s t n e k d = rw (e, k) d

    -- a line is: it is answered, and the program finishes where that was not the last
    module _ (e : over ≡ false) (k : p.is_empty_line l ≡ false) (s t : List ℕ) (n : ℕ) (d : PutDone (p.answer_kept w l).printed s 0 t n) where
      pub ended-last : (p.answer_kept w l).last ≡ true → PutDone (end_printed p (reading w l over)) s 0 t n
      unfolding end_printed
      ended-last z = rw (e, k, z, append-nil (p.answer_kept w l).printed) d

      pub ended-more : (v : List ℕ) (m : ℕ) → (p.answer_kept w l).last ≡ false → n ≤ length s → PutDone (p.finish (p.answer_kept w l).next) t n v m → PutDone (end_printed p (reading w l over)) s 0 v m
      unfolding end_printed
      ended-more v m z h f =
          let n-is : n ≡ 0 + length (p.answer_kept w l).printed = d.position in
          rw (e, k, z) (put-done-more _ _ s t v 0 n m (omega arith) d f)

  -- ---- up to the end of a line
  module _ (input : List ℕ) (end : ℕ) (is : end ≡ 0 + length (first_line input)) where
    pub end-inside : end ≤ length input
    end-inside = omega (arith, is, first-length newline input)

    pub newline-inside : (end ≡ length input → ⊥) → end < length input
    newline-inside other = omega (arith, end-inside, other)

    line-taken : take end input ≡ first_line input
    line-taken = ap (λ (n : ℕ). take n input) (is ∙ zero-add (length (first_line input))) ∙ first-is newline input

    line-ended : end < length input → take (end + 1) input ≡ first_line input ++ (newline ∷ [])
    line-ended h =
        let e : end + 1 ≡ suc (length (first_line input)) = omega arith in
        ap (λ (n : ℕ). take n input) e ∙ first-line-ended input (omega arith)

    module _ (w : S) (l line : L) (over : Bool) (still : over ≡ false) (kept : line ≡ kept_all p.line_with l (take end input)) where
      pub line-fed : reading w line over ≡ fed_all p (reading w l over) (take end input)
      line-fed = rw (still, line-taken) (ap (λ (m : L). reading w m false) (kept ∙ ap (kept_all p.line_with l) line-taken) ∙ sym (fed-line p w l input))

      pub line-put : (s : List ℕ) (at : ℕ) → PutDone (fed_all_printed p (reading w l over) (take end input)) s at s at
      line-put s at = rw (still, line-taken, printed-line p w l input) (put-done-none s at)

      kept-first : reading w line over ≡ fed_all p (reading w l over) (first_line input)
      kept-first = line-fed ∙ ap (fed_all p (reading w l over)) line-taken

      -- and behind its newline
      pub ended-fed : (r : Reading S L) → end < length input → r ≡ fed_all p (reading w line over) (newline ∷ []) → r ≡ fed_all p (reading w l over) (take (end + 1) input)
      ended-fed r h e =
          e ∙ ap (λ (m : Reading S L). fed_all p m (newline ∷ [])) kept-first
          ∙ sym (fed-append p (reading w l over) (first_line input) (newline ∷ [])) ∙ ap (fed_all p (reading w l over)) (sym (line-ended h))

      pub ended-put : (s t : List ℕ) (at n : ℕ) → end < length input → PutDone (fed_all_printed p (reading w line over) (newline ∷ [])) s at t n → PutDone (fed_all_printed p (reading w l over) (take (end + 1) input)) s at t n
      ended-put s t at n h d =
          let none : fed_all_printed p (reading w l over) (first_line input) ≡ [] = rw (still, printed-line p w l input) in
          let q : fed_all_printed p (reading w l over) (take (end + 1) input) ≡ fed_all_printed p (reading w line over) (newline ∷ []) =
          ap (fed_all_printed p (reading w l over)) (line-ended h)
          ∙ printed-append p (reading w l over) (first_line input) (newline ∷ [])
          ∙ ap (λ (x : List ℕ). x ++ fed_all_printed p (fed_all p (reading w l over) (first_line input)) (newline ∷ [])) none
          ∙ ap (λ (m : Reading S L). fed_all_printed p m (newline ∷ [])) (sym kept-first) in
          subst (λ (bs : List ℕ). PutDone bs s at t n) (sym q) d

  -- ---- the loop over the lines of a part: what is read and what is printed so far, at most most bytes for each line
  module _ (most : ℕ) where
    pub record Progress (first : Reading S L) (input before : List ℕ) (now : Reading S L) (read : ℕ) (after : List ℕ) (written : ℕ) : Type 0 where
      pub inside : read ≤ length input
      pub room : written ≤ read * most
      pub fits : written ≤ length before
      pub long : length after ≡ length before
      pub reading-is : now ≡ fed_all p first (take read input)
      pub done : PutDone (fed_all_printed p first (take read input)) before 0 after written

    module _ (first : Reading S L) (input before : List ℕ) where
      pub progress-none : Progress first input before first 0 before 0
      unfolding fed_all fed_all_printed
      progress-none = record { inside = omega arith; room = omega arith; fits = omega arith; long = refl; reading-is = refl; done = put-done-none before 0 }

      module _ (now : Reading S L) (read : ℕ) (after : List ℕ) (written : ℕ) (g : Progress first input before now read after written) where
        pub progress-more : (left : List ℕ) → left ≡ drop read input → (next : Reading S L) (n : ℕ) (then : List ℕ) (total : ℕ) → 0 < n → n ≤ length left → total ≤ written + most
            → written + most ≤ length after → next ≡ fed_all p now (take n left) → PutDone (fed_all_printed p now (take n left)) after written then total → Progress first input before next (read + n) then total
        progress-more left left-is next n then total h kl m room el dl =
            let b = take n (drop read input) in
            let k : n ≤ length (drop read input) = rw left-is at kl in
            let e : next ≡ fed_all p now b = rw left-is at el in
            let d : PutDone (fed_all_printed p now b) after written then total = rw left-is at dl in
            let t : take (read + n) input ≡ take read input ++ b = take-add read n input in
            let r : now ≡ fed_all p first (take read input) = g.reading-is in
            let q : 0 + length (fed_all_printed p first (take read input)) ≤ length before = omega (arith, g.done.position, g.fits) in
            let f : PutDone (fed_all_printed p (fed_all p first (take read input)) b) after written then total = subst (λ (x : Reading S L). PutDone (fed_all_printed p x b) after written then total) r d in
            let j : PutDone (fed_all_printed p first (take read input ++ b)) before 0 then total =
            subst (λ (bs : List ℕ). PutDone bs before 0 then total) (sym (printed-append p first (take read input) b)) (put-done-more _ _ _ _ _ _ _ _ q g.done f) in
            let u : total ≡ written + length (fed_all_printed p now b) = d.position in
            let v : suc read * most ≤ (read + n) * most = mul-le-mul_right most (omega arith) in
            let left : length (drop read input) ≡ length input - read = length-drop read input in
            record {
              inside = omega (arith, g.inside);
              room = omega (arith, g.room, suc-mul read most);
              fits = omega (arith, g.long);
              long = put-done-length _ _ _ _ _ (omega arith) d ∙ g.long;
              reading-is = e ∙ ap (λ (x : Reading S L). fed_all p x b) r ∙ sym (fed-append p first (take read input) b) ∙ ap (fed_all p first) (sym t);
              done = subst (λ (l : List ℕ). PutDone (fed_all_printed p first l) before 0 then total) (sym t) j;
            }

        -- where there is no room for one more answer, something was read
        pub progress-some : most ≤ length before → length before < written + most → 0 < read
        progress-some large full = ⊎_elim (λ (h : 0 < read). h) (λ (h : read ≤ 0). absurd (none h)) (lt-or-ge 0 read)
          where
            none : read ≤ 0 → ⊥
            none h = omega (arith, mul-le-mul_right {m = read} {n = 0} most h, zero-mul most, g.room)

        -- nor is anything left where there is room for as many answers as the part has bytes
        pub progress-whole : length input * most ≤ length before → length before < written + most → length input ≤ read
        progress-whole large full = ⊎_elim (λ (h : read < length input). absurd (none h)) (λ (h : length input ≤ read). h) (lt-or-ge read (length input))
          where
            none : read < length input → ⊥
            none h =
                let k : suc read * most ≤ length input * most = mul-le-mul_right most (omega arith) in
                omega (arith, g.room, suc-mul read most)

        -- after the last line the rest is not looked at
        pub progress-over : now.over ≡ true → (now ≡ fed_all p first (take (length input) input)) × PutDone (fed_all_printed p first (take (length input) input)) before 0 after written
        progress-over over =
            let a = take read input in
            let b = drop read input in
            let t : take (length input) input ≡ a ++ b = take_all (length input) input (omega arith) ∙ sym (take-append-drop read input) in
            let e : now ≡ reading now.state now.line true = λ i. reading now.state now.line (over i) in
            let r : fed_all p first a ≡ reading now.state now.line true = sym g.reading-is ∙ e in
            let f : fed_all p first (a ++ b) ≡ now = fed-append p first a b ∙ ap (λ (x : Reading S L). fed_all p x b) r ∙ fed-over p now.state now.line b ∙ sym e in
            let j : fed_all_printed p first (a ++ b) ≡ fed_all_printed p first a =
            printed-append p first a b ∙ ap (λ (x : Reading S L). fed_all_printed p first a ++ fed_all_printed p x b) r
            ∙ ap (λ (x : List ℕ). fed_all_printed p first a ++ x) (printed-over p now.state now.line b) ∙ append-nil (fed_all_printed p first a) in
            (sym f ∙ ap (fed_all p first) (sym t), subst (λ (x : List ℕ). PutDone x before 0 after written) (sym j ∙ ap (fed_all_printed p first) (sym t)) g.done)
