-- The standby's words: what words that are a state have; that a state is the state of its words, and words that are a
-- state are the words of it. Assumes nothing.
use mathlib.Core.Path.{◌≡◌, refl, sym, ap, ◌∙◌}
use mathlib.Core.List.{List, [], ◌++◌, append_assoc}
use mathlib.Core.Bool.{true, ◌&&◌}
use Prim.Native.Nat.{ℕ, suc, zero, ◌+◌, ◌≤◌, ◌<◌}
use native.Mathlib.Omega.{arith}
use borrow.Author.Tests.{leb-true, eqb-true, eq-eqb}
use lib.ListN.{length, take, drop, get_or, length-append, drop_of_length-le, take-append-drop}
use lib.Seq.{take_at, drop_at, drop-drop, get_or-append-add}
use Rattle.lists.specs.Part.{part, put}
use Rattle.lists.proofs.PartLaws.{put_next, put_whole}
use Rattle.lists.proofs.TestLaws.{both, join}
use Rattle.rules.specs.declared.Mode.{Mode}
use Rattle.rules.specs.declared.Mode.TheVariants.{Receiving, TakingOver, Active}
use Rattle.rules.specs.declared.Standby.{Standby}
use Rattle.capi.specs.Word.{most32, fits32, all_fit32, between, is_flag}
use Rattle.capi.specs.StandbyWords.{mode_of, mode_word, is_mode, first_words, last_words, standby_words, standby_words_ok, standby_of, standby_length, numbers_at, numbers_many}
use Rattle.capi.proofs.WordLaws.{fits-at, words_from, words-from}
use Rattle.capi.proofs.PrimaryWordLaws.{flag-again, flag-words, flag-fits}

-- what words that are a state have
pub record StandbyWordFacts (w : List ℕ) : Type 0 where
  pub many : length w ≡ standby_length
  pub ticks : all_fit32 (between 5 7 w) ≡ true
  pub mode : get_or w 7 0 ≤ 2
  pub received : get_or w 8 0 < 4294967296
  pub flag : get_or w 79 0 ≤ 1

pub standby-word-facts : (w : List ℕ) → standby_words_ok w ≡ true → StandbyWordFacts w
unfolding standby_words_ok
standby-word-facts w e =
    let a = both _ _ e in
    let b = both _ _ a.0 in
    let d = both _ _ b.0 in
    let f = both _ _ d.0 in
    let n : get_or w 8 0 ≤ 4294967295 = leb-true _ _ b.1 in
    record { many = eqb-true _ _ f.0; ticks = f.1; mode = leb-true _ _ d.1; received = omega arith; flag = leb-true _ _ a.1 }

pub standby-many : (w : List ℕ) → standby_words_ok w ≡ true → length w ≡ standby_length
standby-many w e = (standby-word-facts w e).many

-- T and the count of ticks
pub ticks-field : (w : List ℕ) (i : ℕ) → standby_words_ok w ≡ true → 5 ≤ i → i < 7 → get_or w i 0 < 4294967296
ticks-field w i e h k = let f = standby-word-facts w e in fits-at most32 w 5 7 i f.ticks h k (omega (arith, f.many))

-- ---- the three parts of the words, stored one after the other
pub store-three : (w : List ℕ) (s : Standby) → length w ≡ standby_length → length s.slots.numbers ≡ numbers_many
    → put (put (put w 0 (first_words s)) numbers_at s.slots.numbers) 75 (last_words s) ≡ standby_words s
unfolding standby_words first_words last_words
store-three w s h n =
    let f = first_words s in
    let ns = s.slots.numbers in
    let m : length (f ++ ns) ≡ 75 = rw (length-append f ns) (omega arith) in
    ap (λ (x : List ℕ). put x 75 (last_words s)) (put_next w f ns numbers_at refl (omega arith))
    ∙ put_next w (f ++ ns) (last_words s) 75 m (omega arith)
    ∙ put_whole w (f ++ ns ++ last_words s) (rw (length-append (f ++ ns) (last_words s)) (omega arith))

-- ---- modes, and the three parts apart
mode-fits : (m : Mode) → is_mode (mode_word m) ≡ true
mode-fits Receiving = refl
mode-fits TakingOver = refl
mode-fits Active = refl

mode-again : (m : Mode) → mode_of (mode_word m) ≡ m
mode-again Receiving = refl
mode-again TakingOver = refl
mode-again Active = refl

module _ (a n b : List ℕ) (ea : length a ≡ 11) (en : length n ≡ 64) where
  middle : part 11 64 (a ++ n ++ b) ≡ n
  unfolding part
  middle = rw append_assoc (rw (drop_at a (n ++ b) 11 ea) (take_at n b 64 en))

  behind : (i : ℕ) → get_or (a ++ n ++ b) (75 + i) 0 ≡ get_or b i 0
  behind i =
      let e : length (a ++ n) ≡ 75 = rw length-append (omega arith) in
      ap (λ (k : ℕ). get_or (a ++ n ++ b) (k + i) 0) (sym e) ∙ get_or-append-add (a ++ n) b i 0

-- ---- the words of a state whose fields of 32 bits fit are a state's; its array has the 64 entries of its type
pub standby-words-ok : (s : Standby) → length s.slots.numbers ≡ numbers_many → (all_fit32 (between 5 7 (first_words s)) && fits32 (get_or (first_words s) 8 0)) ≡ true
    → standby_words_ok (standby_words s) ≡ true
unfolding standby_words_ok standby_words first_words last_words
standby-words-ok s h low =
    let a = first_words s in
    let n = s.slots.numbers in
    let b = last_words s in
    let l = both _ _ low in
    let m : length (a ++ n ++ b) ≡ standby_length = rw (length-append (a ++ n) b, length-append a n) (omega arith) in
    let seen : is_flag (get_or (a ++ n ++ b) 79 0) ≡ true = rw (behind a n b refl h 4) (flag-fits s.seen) in
    join _ _ (join _ _ (join _ _ (join _ _ (eq-eqb _ _ m) l.0) (mode-fits s.mode)) l.1) seen

-- ---- a state is the state of its words
pub standby-again : (s : Standby) → length s.slots.numbers ≡ numbers_many → standby_of (standby_words s) s.pending s.processor ≡ s
unfolding standby_of standby_words first_words last_words
standby-again s h =
    let a = first_words s in
    let n = s.slots.numbers in
    let b = last_words s in
    let at : (i : ℕ) → get_or (a ++ n ++ b) (75 + i) 0 ≡ get_or b i 0 = behind a n b refl h in
    let k : part 11 64 (a ++ n ++ b) ≡ n = middle a n b refl h in
    rw (k, at 0, at 1, at 2, at 3, at 4, mode-again s.mode, flag-again s.seen)

-- ---- and words that are a state are the words of it
mode-words : (n : ℕ) → n ≤ 2 → mode_word (mode_of n) ≡ n
mode-words zero h = refl
mode-words (suc zero) h = refl
mode-words (suc (suc zero)) h = refl
mode-words (suc (suc (suc n))) h = absurd (omega arith)

pub standby-words-again : (w pending processor : List ℕ) → standby_words_ok w ≡ true → standby_words (standby_of w pending processor) ≡ w
unfolding standby_of standby_words first_words last_words part
standby-words-again w pending processor e =
    let f = standby-word-facts w e in
    let le : length w ≤ standby_length = omega (arith, f.many) in
    let last : words_from 5 75 w [] ≡ drop 75 w = ap (words_from 5 75 w) (sym (drop_of_length-le w le)) ∙ words-from 5 75 w (omega (arith, f.many)) in
    let rest : take 64 (drop 11 w) ++ drop 75 w ≡ drop 11 w = ap (λ (l : List ℕ). take 64 (drop 11 w) ++ l) (sym (drop-drop 64 11 w)) ∙ take-append-drop 64 (drop 11 w) in
    rw (flag-words (get_or w 79 0) f.flag, mode-words (get_or w 7 0) f.mode)
    (ap (λ (l : List ℕ). words_from 11 0 w (take 64 (drop 11 w) ++ l)) last ∙ ap (words_from 11 0 w) rest ∙ words-from 11 0 w (omega (arith, f.many)))
