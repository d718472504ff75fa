-- What is said of a line that is no command is so. Assumes nothing.
use Prim.Native.Nat.{ℕ, ◌+◌, ◌≤◌, ◌<◌}
use mathlib.Core.Path.{◌≡◌, refl, ap, ◌∙◌}
use mathlib.Core.Bool.{Bool, true, false, cond, not, ◌&&◌, ◌||◌}
use native.Mathlib.Omega.{arith}
use mathlib.Core.Logic.{⊎_elim}
use lib.Dec.{leb, ltb, eqb}
use borrow.Author.Tests.{ltb-true, ltb-false, eqb-true, eq-eqb, le-leb}
use Rattle.lists.proofs.TestLaws.{both, join, not-both, lt-or-ge}
use Rattle.text.specs.Decimal.{most_number}
use Rattle.text.specs.declared.Line.{Line}
use Rattle.text.specs.declared.Number.{Number}
use Rattle.text.specs.Kept.{is_empty_line, number_is}
use Rattle.script.specs.declared.Command.{Command}
use Rattle.script.specs.declared.Command.TheVariants.{Write, Disk, Send, Close, Move, Acknowledge, Take, Flush, Takeover, Other}
use Rattle.script.specs.Command.{letter_w, letter_d, letter_s, letter_c, letter_m, letter_a, letter_t, letter_f, letter_k, question_mark, most_byte, is_kept_line, command_of_line, letter_of}
use Rattle.traces.specs.declared.TraceCommand.{TraceCommand}
use Rattle.traces.specs.declared.TraceCommand.TheVariants.{Pair, Set, Tick}
use Rattle.traces.specs.declared.TraceLine.{TraceLine}
use Rattle.traces.specs.declared.LineFault.TheVariants.{Empty, Return, Letter, Count, Digits, Large}
use Rattle.traces.specs.Command.{letter_x, letter_p, trace_letter_of, trace_command_of_line}
use Rattle.traces.specs.Fault.{with_two, with_one, with_none, is_letter, wanted_of, most_first, in_digits, has_letter, AtNumber, carriage_return, trace_line_of, fault_of, FaultRight}
use Rattle.traces.specs.Runs.{EveryFault}
use Rattle.traces.proofs.KeptLaws.{kept-command}

-- ---- of a line that is no command every test of a command fails
abbrev is_two : ℕ → Line → Bool
is_two letter l = is_kept_line letter 3 l && number_is most_number l.first && number_is most_byte l.second

abbrev is_one : ℕ → ℕ → Line → Bool
is_one letter most l = is_kept_line letter 2 l && number_is most l.first

record NoCommand (l : Line) : Type 0 where
  set : is_two letter_x l ≡ false
  tick : is_kept_line letter_p 1 l ≡ false
  write : is_two letter_w l ≡ false
  disk : is_two letter_d l ≡ false
  send : is_one letter_s most_number l ≡ false
  close : is_one letter_c most_byte l ≡ false
  move : is_kept_line letter_m 1 l ≡ false
  acknowledge : is_kept_line letter_a 1 l ≡ false
  taken : is_kept_line letter_t 1 l ≡ false
  flush : is_kept_line letter_f 1 l ≡ false
  takeover : is_kept_line letter_k 1 l ≡ false

-- a choice that does not give its first
not_first : {A : Type 0} (t : Bool) (x y z : A) → (x ≡ z → ⊥) → cond t x y ≡ z → (t ≡ false) × (y ≡ z)
not_first true x y z n e = absurd (n e)
not_first false x y z n e = (refl, e)

-- commands that are printed with a letter
lettered : (c : TraceCommand) → eqb (trace_letter_of c) question_mark ≡ false → c ≡ Pair Other → ⊥
lettered c h e = not-both _ (ap (λ (x : TraceCommand). eqb (trace_letter_of x) question_mark) e) h

-- one test of a row of tests
next-test : (t : Bool) (x y : Command) → eqb (letter_of x) question_mark ≡ false → Pair (cond t x y) ≡ Pair Other → (t ≡ false) × (Pair y ≡ Pair Other)
next-test true x y h e = absurd (lettered (Pair x) h e)
next-test false x y h e = (refl, e)

no-command : (l : Line) → trace_command_of_line l ≡ Pair Other → NoCommand l
unfolding trace_command_of_line command_of_line
no-command l e =
    let x = not_first (is_two letter_x l) (Set l.first.value l.second.value) _ (Pair Other) (lettered (Set l.first.value l.second.value) refl) e in
    let p = not_first (is_kept_line letter_p 1 l) Tick _ (Pair Other) (lettered Tick refl) x.1 in
    let w = next-test (is_two letter_w l) (Write l.first.value l.second.value) _ refl p.1 in
    let d = next-test (is_two letter_d l) (Disk l.first.value l.second.value) _ refl w.1 in
    let s = next-test (is_one letter_s most_number l) (Send l.first.value) _ refl d.1 in
    let c = next-test (is_one letter_c most_byte l) (Close l.first.value) _ refl s.1 in
    let m = next-test (is_kept_line letter_m 1 l) Move _ refl c.1 in
    let a = next-test (is_kept_line letter_a 1 l) Acknowledge _ refl m.1 in
    let t = next-test (is_kept_line letter_t 1 l) Take _ refl a.1 in
    let f = next-test (is_kept_line letter_f 1 l) Flush _ refl t.1 in
    let k = next-test (is_kept_line letter_k 1 l) Takeover _ refl f.1 in
    record {
      set = x.0;
      tick = p.0;
      write = w.0;
      disk = d.0;
      send = s.0;
      close = c.0;
      move = m.0;
      acknowledge = a.0;
      taken = t.0;
      flush = f.0;
      takeover = k.0;
    }

-- ---- a line with nothing wrong is a command
either : {C : Type 0} (a b : Bool) → (a || b) ≡ true → (a ≡ true → C) → (b ≡ true → C) → C
either true b e f g = f refl
either false b e f g = g e

is-number : (most : ℕ) (n : Number) → in_digits n ≡ true → n.value ≤ most → number_is most n ≡ true
is-number most n d h = join (n.some && n.digits) (leb n.value most) d (le-leb n.value most h)

-- by how many numbers its letter wants
wants-one : (a b c : Bool) → (a || b || c) ≡ true → (c ≡ true → ⊥) → 1 ≤ cond a 2 (cond b 1 0)
wants-one true b c e f = omega arith
wants-one false true c e f = omega arith
wants-one false false c e f = absurd (f e)

wants-two : (a b c : Bool) → (a || b || c) ≡ true → (c ≡ true → ⊥) → (b ≡ true → ⊥) → 2 ≤ cond a 2 (cond b 1 0)
wants-two true b c e f g = omega arith
wants-two false true c e f g = absurd (g refl)
wants-two false false c e f g = absurd (f e)

module _ (l : Line) (n : NoCommand l) (letter : has_letter l ≡ true) (words : eqb l.words (wanted_of l.letter + 1) ≡ true) where
  abbrev Is : ℕ → Type 0
  Is x = eqb l.letter x ≡ true

  known : is_letter l.letter ≡ true
  known = (both (eqb l.letters 1) (is_letter l.letter) letter).1

  is-line : (x k : ℕ) → Is x → wanted_of x + 1 ≡ k → is_kept_line x k l ≡ true
  is-line x k e h =
      let s = eqb-true l.words (wanted_of l.letter + 1) words ∙ ap (λ (y : ℕ). wanted_of y + 1) (eqb-true l.letter x e) ∙ h in
      join _ _ (join _ _ (eq-eqb l.words k s) (both (eqb l.letters 1) (is_letter l.letter) letter).0) e

  alone : (x : ℕ) → wanted_of x + 1 ≡ 1 → is_kept_line x 1 l ≡ false → Is x → ⊥
  alone x k f e = not-both (is_kept_line x 1 l) (is-line x 1 e k) f

  no_none : with_none l.letter ≡ true → ⊥
  unfolding wanted_of
  no_none e =
      either _ _ e
      (λ f. either _ _ f
      (λ g. either _ _ g
      (λ h. either _ _ h
      (λ i. either _ _ i (alone letter_m refl n.move) (alone letter_a refl n.acknowledge))
      (alone letter_t refl n.taken))
      (alone letter_f refl n.flush))
      (alone letter_k refl n.takeover))
      (alone letter_p refl n.tick)

  at_first : AtNumber 1 l
  unfolding is_letter wanted_of
  at_first =
      record {
        letter = letter;
        words = words;
        low = omega arith;
        high = wants-one (with_two l.letter) (with_one l.letter) (with_none l.letter) known no_none;
        first = λ e. absurd (omega arith);
      }

  -- the first number is right
  module _ (first : in_digits l.first ≡ true) (low : l.first.value ≤ most_first l.letter) where
    is-first : (x most : ℕ) → Is x → most_first x ≡ most → number_is most l.first ≡ true
    is-first x most e h =
        let s : most_first l.letter ≡ most = ap most_first (eqb-true l.letter x e) ∙ h in
        is-number most l.first first (rw s at low)

    one : (x most : ℕ) → wanted_of x + 1 ≡ 2 → most_first x ≡ most → is_one x most l ≡ false → Is x → ⊥
    one x most k m f e = not-both (is_one x most l) (join _ _ (is-line x 2 e k) (is-first x most e m)) f

    no_one : with_one l.letter ≡ true → ⊥
    unfolding wanted_of
    no_one e = either _ _ e (one letter_s most_number refl refl n.send) (one letter_c most_byte refl refl n.close)

    at_second : AtNumber 2 l
    unfolding is_letter wanted_of
    at_second =
        record {
          letter = letter;
          words = words;
          low = omega arith;
          high = wants-two (with_two l.letter) (with_one l.letter) (with_none l.letter) known no_none no_one;
          first = λ e. is-number (most_first l.letter) l.first first low;
        }

    -- and so is the second: then it is a command
    module _ (second : in_digits l.second ≡ true) (small : l.second.value ≤ most_byte) where
      two : (x : ℕ) → wanted_of x + 1 ≡ 3 → most_first x ≡ most_number → is_two x l ≡ false → Is x → ⊥
      two x k m f e = not-both (is_two x l) (join _ _ (join _ _ (is-line x 3 e k) (is-first x most_number e m)) (is-number most_byte l.second second small)) f

      no-two : with_two l.letter ≡ true → ⊥
      unfolding wanted_of
      no-two e =
          either _ _ e (λ f. either _ _ f (two letter_w refl refl n.write) (two letter_d refl refl n.disk)) (two letter_x refl refl n.set)

      never : ⊥
      unfolding is_letter
      never = either _ _ known (λ f. either _ _ f no-two no_one) no_none

-- ---- the first that is wrong
module _ (k : TraceLine) (n : NoCommand k.line) where
  abbrev l : Line
  l = k.line

  abbrev is_large : Bool
  is_large = ltb (most_first l.letter) l.first.value

  last-wrong : has_letter l ≡ true → eqb l.words (wanted_of l.letter + 1) ≡ true → in_digits l.first ≡ true
      → l.first.value ≤ most_first l.letter → in_digits l.second ≡ true → most_byte < l.second.value
  last-wrong a w f g s =
      ⊎_elim (λ (h : most_byte < l.second.value). h) (λ (h : l.second.value ≤ most_byte). absurd (never l n a w f g s h)) (lt-or-ge most_byte l.second.value)

  by : (e : Bool) → is_empty_line l ≡ e → (r : Bool) → eqb k.last carriage_return ≡ r → (a : Bool) → has_letter l ≡ a
      → (w : Bool) → eqb l.words (wanted_of l.letter + 1) ≡ w → (f : Bool) → in_digits l.first ≡ f
      → (g : Bool) → is_large ≡ g → (s : Bool) → in_digits l.second ≡ s
      → FaultRight (cond e Empty (cond r Return (cond (not a) Letter (cond (not w) (Count (wanted_of l.letter))
      (cond (not f) (Digits 1) (cond g (Large 1 (most_first l.letter)) (cond (not s) (Digits 2) (Large 2 most_byte)))))))) k
  by true he r hr a ha w hw f hf g hg s hs = he
  by false he true hr a ha w hw f hf g hg s hs = (he, eqb-true k.last carriage_return hr)
  by false he false hr false ha w hw f hf g hg s hs = (record { some = he; end = hr }, ha)
  by false he false hr true ha false hw f hf g hg s hs = (record { some = he; end = hr }, ha, refl, hw)
  by false he false hr true ha true hw false hf g hg s hs = (record { some = he; end = hr }, at_first l n ha hw, hf)
  by false he false hr true ha true hw true hf true hg s hs =
      (record { some = he; end = hr }, at_first l n ha hw, hf, refl, ltb-true (most_first l.letter) l.first.value hg)
  by false he false hr true ha true hw true hf false hg false hs =
      (record { some = he; end = hr }, at_second l n ha hw hf (ltb-false (most_first l.letter) l.first.value hg), hs)
  by false he false hr true ha true hw true hf false hg true hs =
      let low = ltb-false (most_first l.letter) l.first.value hg in
      (record { some = he; end = hr }, at_second l n ha hw hf low, hs, refl, last-wrong ha hw hf low hs)

  fault-right : FaultRight (fault_of k) k
  unfolding fault_of
  fault-right =
      by (is_empty_line l) refl (eqb k.last carriage_return) refl (has_letter l) refl
      (eqb l.words (wanted_of l.letter + 1)) refl (in_digits l.first) refl is_large refl (in_digits l.second) refl

pub every-fault : EveryFault
every-fault line e = fault-right (trace_line_of line) (no-command (trace_line_of line).line (kept-command line ∙ e))
