-- Laws of bytes in hexadecimal: a digit, one character, and the bytes read so far. Assumes nothing.
use Prim.Native.Nat.{ℕ, suc, ◌+◌, ◌-◌, ◌*◌, ◌≤◌, ◌<◌}
use mathlib.Core.Path.{◌≡◌, refl, sym, ap, ◌∙◌}
use mathlib.Core.Bool.{Bool, true, false, cond, not}
use mathlib.Core.List.{List, [], ◌∷◌, ◌++◌, append-nil}
use native.Mathlib.Numerals.{add-one}
use native.Mathlib.Omega.{arith}
use lib.Dec.{eqb}
use lib.ListN.{length, take, drop, get_or, set, length-set, drop_of_length-le}
use lib.Seq.{drop-cons, take-suc-set}
use borrow.Author.Tests.{eqb-false, ne_eqb}
use Rattle.std.specs.Prelude.{Option, None, Some, Result, Ok, Err, IfSome}
use Rattle.std.specs.Option.{is_some}
use Rattle.lists.specs.Refusal.{within}
use Rattle.lists.proofs.TestLaws.{refuted, within-facts, within_of}
use Rattle.text.specs.Line.{space}
use Rattle.plates.specs.declared.Fault.{Fault}
use Rattle.plates.specs.declared.Fault.TheVariants.{NotHex, Half}
use Rattle.plates.specs.declared.HexStep.{HexStep}
use Rattle.plates.specs.declared.HexStep.TheVariants.{Between, First, Whole}
use Rattle.plates.specs.Hex.{Hex, whole, bad, with_byte, no_digit, digit_of, hex_from, hex_behind}
use Rattle.plates.specs.Plate.{most_line}
use Rattle.plates.specs.Read.{digit_or_none, hex_step, most_bytes}

-- a choice by a test that is turned over
pub cond-not : {A : Type 0} (b : Bool) (x y : A) → cond (not b) x y ≡ cond b y x
cond-not true x y = refl
cond-not false x y = refl

-- ---- a digit
outside : (low high x : ℕ) → (low ≤ x → high < x) → within low high x ≡ false
outside low high x h = sym (refuted _ (λ e. let p = within-facts low high x e in let q = h p.0 in omega arith))

module _ (c : ℕ) where
  pub digit-decimal : 48 ≤ c → c ≤ 57 → digit_of c ≡ c - 48
  unfolding digit_of
  digit-decimal p q = rw (within_of 48 57 c p q)

  pub digit-lower : 97 ≤ c → c ≤ 102 → digit_of c ≡ c - 87
  unfolding digit_of
  digit-lower p q = rw (outside 48 57 c (λ h. omega arith), within_of 97 102 c p q)

  pub digit-upper : 65 ≤ c → c ≤ 70 → digit_of c ≡ c - 55
  unfolding digit_of
  digit-upper p q = rw (outside 48 57 c (λ h. omega arith), outside 97 102 c (λ h. omega arith), within_of 65 70 c p q)

  pub digit-none : (48 ≤ c → 57 < c) → (65 ≤ c → 70 < c) → (97 ≤ c → 102 < c) → digit_of c ≡ no_digit
  unfolding digit_of
  digit-none f g h = rw (outside 48 57 c f, outside 97 102 c h, outside 65 70 c g)

  pub digit_low : digit_of c ≤ no_digit
  unfolding digit_of
  digit_low = go (within 48 57 c) (within 97 102 c) (within 65 70 c) (within-facts 48 57 c) (within-facts 97 102 c) (within-facts 65 70 c)
    where
      go : (x y z : Bool) → (x ≡ true → (48 ≤ c) × (c ≤ 57)) → (y ≡ true → (97 ≤ c) × (c ≤ 102)) → (z ≡ true → (65 ≤ c) × (c ≤ 70))
          → cond x (c - 48) (cond y (c - 87) (cond z (c - 55) no_digit)) ≤ no_digit
      go true y z f g h = let w = f refl in omega arith
      go false true z f g h = let w = g refl in omega arith
      go false false true f g h = let w = h refl in omega arith
      go false false false f g h = omega arith

-- ---- bytes in front of what is read
unfoldable pub with_bytes : List ℕ → Hex → Hex
with_bytes [] h = h
with_bytes (b ∷ bs) h = with_byte b (with_bytes bs h)

pub with-last : (bs : List ℕ) (b : ℕ) (h : Hex) → with_bytes (bs ++ (b ∷ [])) h ≡ with_bytes bs (with_byte b h)
unfolding with_bytes
with-last [] b h = refl
with-last (x ∷ bs) b h = ap (with_byte x) (with-last bs b h)

pub with-bad : (bs : List ℕ) (fault : Fault) (place : ℕ) → with_bytes bs (bad fault place) ≡ bad fault place
unfolding with_bytes
with-bad [] fault place = refl
with-bad (x ∷ bs) fault place = ap (with_byte x) (with-bad bs fault place)

pub with-whole : (bs cs : List ℕ) → with_bytes bs (whole cs) ≡ whole (bs ++ cs)
unfolding with_bytes
with-whole [] cs = refl
with-whole (x ∷ bs) cs = ap (with_byte x) (with-whole bs cs)

-- ---- one character

-- a byte is under way
abbrev pub busy : ℕ → ℕ
busy half = cond (eqb half no_digit) 0 1

busy-low : (half : ℕ) → busy half ≤ 1
busy-low half = go (eqb half no_digit)
  where
    go : (b : Bool) → cond b 0 1 ≤ 1
    go true = omega arith
    go false = omega arith

-- a digit that is first is one, and a byte that is whole was under way
abbrev pub StepLow : ℕ → Result HexStep Fault → Type 0
StepLow half (Err fault) = Unit {0}
StepLow half (Ok Between) = Unit {0}
StepLow half (Ok (First d)) = d < 16
StepLow half (Ok (Whole b)) = busy half ≡ 1

step-low : (half c : ℕ) → StepLow half (hex_step half c)
unfolding hex_step
step-low half c = go (eqb c space) (eqb half no_digit) (eqb (digit_of c) no_digit) refl refl
  where
    go : (a b d : Bool) → eqb half no_digit ≡ b → eqb (digit_of c) no_digit ≡ d
        → StepLow half (cond a (cond b (Ok Between) (Err Half)) (cond d (Err NotHex) (cond b (Ok (First (digit_of c))) (Ok (Whole (16 * half + digit_of c))))))
    go true true d e f = tt
    go true false d e f = tt
    go false b true e f = tt
    go false true false e f = let w = eqb-false (digit_of c) no_digit f in let l = digit_low c in omega arith
    go false false false e f = rw e

-- what a character gives, and what the others give behind it
abbrev pub after_step : Result HexStep Fault → ℕ → List ℕ → Hex
after_step (Err fault) place s = bad fault place
after_step (Ok Between) place s = hex_from no_digit (place + 1) s
after_step (Ok (First d)) place s = hex_from d (place + 1) s
after_step (Ok (Whole b)) place s = with_byte b (hex_from no_digit (place + 1) s)

pub hex-next : (half place c : ℕ) (s : List ℕ) → hex_from half place (c ∷ s) ≡ after_step (hex_step half c) place s
unfolding hex_from hex_step
hex-next half place c s = go (digit_of c) (eqb c space) (eqb half no_digit) (eqb (digit_of c) no_digit)
  where
    go : (d : ℕ) (a b z : Bool)
        → cond a (cond b (hex_from no_digit (place + 1) s) (bad Half place)) (cond z (bad NotHex place) (cond b (hex_from d (place + 1) s) (with_byte (16 * half + d) (hex_from no_digit (place + 1) s))))
        ≡ after_step (cond a (cond b (Ok Between) (Err Half)) (cond z (Err NotHex) (cond b (Ok (First d)) (Ok (Whole (16 * half + d)))))) place s
    go d true true z = refl
    go d true false z = refl
    go d false b true = refl
    go d false true false = refl
    go d false false false = refl

-- ---- a first digit that is there is none that is not
module _ (half : Option ℕ) where
  pub some-half : true ≡ is_some half → IfSome half (λ d. d < 16) → digit_or_none half ≡ no_digit → ⊥
  some-half s low e = go half s low e
    where
      go : (h : Option ℕ) → true ≡ is_some h → IfSome h (λ d. d < 16) → digit_or_none h ≡ no_digit → ⊥
      go None s low e = let z : false ≡ true = sym s in absurd (cc)
      go (Some d) s low e = omega arith

  pub none-half : false ≡ is_some half → half ≡ None
  none-half s = go half s
    where
      go : (h : Option ℕ) → false ≡ is_some h → h ≡ None
      go None s = refl
      go (Some d) s = absurd (cc)

-- ---- the loop: the bytes read so far, in front of what the rest of the line gives
abbrev pub read_so_far : (line bytes : List ℕ) (count half i : ℕ) → Hex
read_so_far line bytes count half i = with_bytes (take count bytes) (hex_from half (i + 1) (drop i line))

-- the loop's invariant: two characters at least for each byte
pub record ReadInv (line : List ℕ) (from : ℕ) (bytes : List ℕ) (count : ℕ) (half : Option ℕ) (i : ℕ) : Type 0 where
  pub long : length bytes ≡ most_bytes
  pub half-low : IfSome half (λ d. d < 16)
  pub room : from + 2 * count + busy (digit_or_none half) ≤ i
  pub is : hex_behind from (drop from line) ≡ read_so_far line bytes count (digit_or_none half) i

pub read_first : (line : List ℕ) (from : ℕ) (bytes : List ℕ) → length bytes ≡ most_bytes → ReadInv line from bytes 0 None from
unfolding with_bytes
read_first line from bytes e = record { long = e; half-low = tt; room = omega arith; is = refl }

module _ {line : List ℕ} {from : ℕ} {bytes : List ℕ} {count : ℕ} {half : Option ℕ} {i : ℕ} (inv : ReadInv line from bytes count half i) where
  -- at the end of the line
  ends : length line ≤ i → hex_behind from (drop from line) ≡ cond (eqb (digit_or_none half) no_digit) (whole (take count bytes)) (bad Half (i + 1))
  unfolding hex_from
  ends h = inv.is ∙ rw (drop_of_length-le line h) (go (eqb (digit_or_none half) no_digit))
    where
      go : (b : Bool) → with_bytes (take count bytes) (cond b (whole []) (bad Half (i + 1))) ≡ cond b (whole (take count bytes)) (bad Half (i + 1))
      go true = with-whole (take count bytes) [] ∙ ap whole (append-nil (take count bytes))
      go false = with-bad (take count bytes) Half (i + 1)

  pub read-whole : length line ≤ i → half ≡ None → whole (take count bytes) ≡ hex_behind from (drop from line)
  read-whole h e = sym (ends h ∙ rw e)

  pub read-half : length line ≤ i → true ≡ is_some half → bad Half (i + 1) ≡ hex_behind from (drop from line)
  read-half h s = sym (ends h ∙ rw (ne_eqb (digit_or_none half) no_digit (some-half half s inv.half-low)))

  module _ (h : i < length line) where
    next : hex_behind from (drop from line) ≡ with_bytes (take count bytes) (after_step (hex_step (digit_or_none half) (get_or line i 0)) (i + 1) (drop (i + 1) line))
    next =
        inv.is
        ∙ ap (λ (s : List ℕ). with_bytes (take count bytes) (hex_from (digit_or_none half) (i + 1) s)) (drop-cons line i 0 h)
        ∙ ap (with_bytes (take count bytes)) (hex-next (digit_or_none half) (i + 1) (get_or line i 0) (drop (suc i) line))
        ∙ ap (λ (k : ℕ). with_bytes (take count bytes) (after_step (hex_step (digit_or_none half) (get_or line i 0)) (i + 1) (drop k line))) (sym (add-one i))

    pub read-stops : (fault : Fault) → Err fault ≡ hex_step (digit_or_none half) (get_or line i 0) → bad fault (i + 1) ≡ hex_behind from (drop from line)
    read-stops fault e =
        sym (next
        ∙ ap (λ (t : Result HexStep Fault). with_bytes (take count bytes) (after_step t (i + 1) (drop (i + 1) line))) (sym e)
        ∙ with-bad (take count bytes) fault (i + 1))

    pub read-between : Ok Between ≡ hex_step (digit_or_none half) (get_or line i 0) → ReadInv line from bytes count None (i + 1)
    read-between e =
        record {
          long = inv.long;
          half-low = tt;
          room = let r = inv.room in omega arith;
          is = next ∙ ap (λ (t : Result HexStep Fault). with_bytes (take count bytes) (after_step t (i + 1) (drop (i + 1) line))) (sym e);
        }

    pub read-digit : (d : ℕ) → Ok (First d) ≡ hex_step (digit_or_none half) (get_or line i 0) → ReadInv line from bytes count (Some d) (i + 1)
    read-digit d e =
        record {
          long = inv.long;
          half-low = rw (sym e) at (step-low (digit_or_none half) (get_or line i 0));
          room = let r = inv.room in let l = busy-low d in omega arith;
          is = next ∙ ap (λ (t : Result HexStep Fault). with_bytes (take count bytes) (after_step t (i + 1) (drop (i + 1) line))) (sym e);
        }

    -- a byte fits the array, and is stored
    pub count_low : length line ≤ most_line → count < length bytes
    count_low m = let r = inv.room in let l = inv.long in omega arith

    pub read-byte : length line ≤ most_line → (b : ℕ) → Ok (Whole b) ≡ hex_step (digit_or_none half) (get_or line i 0)
        → ReadInv line from (set bytes count b) (count + 1) None (i + 1)
    read-byte m b e =
        let busy-is : busy (digit_or_none half) ≡ 1 = rw (sym e) at (step-low (digit_or_none half) (get_or line i 0)) in
        record {
          long = length-set bytes count b ∙ inv.long;
          half-low = tt;
          room = let r = inv.room in omega arith;
          is =
              next
              ∙ ap (λ (t : Result HexStep Fault). with_bytes (take count bytes) (after_step t (i + 1) (drop (i + 1) line))) (sym e)
              ∙ sym (rw (add-one count, take-suc-set bytes count b (count_low m)) (with-last (take count bytes) b (hex_from no_digit (i + 1 + 1) (drop (i + 1) line))));
        }
