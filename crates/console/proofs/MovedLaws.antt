-- Turn after turn, with the bytes that a reader has left and a writer holds. Assumes nothing.
use mathlib.Core.Logic.{⊎_elim}
use Rattle.std.proofs.Common.{ℕ, ◌≡◌, ◌+◌, Bool, true, false, not, List, [], ◌∷◌, ◌++◌, length, drop, take, Option, Some, None, Result, Ok, Err, IsErr, IfOk, refl, sym, ap, ◌∙◌, subst, inl, inr}
use mathlib.Core.List.{flatten, append_assoc, append-nil}
use lib.ListN.{length-append, take-append-drop}
use Rattle.std.specs.Io.KnownBytes.{Appends, Consumes, Keeps, prepend_known}
use Rattle.text.specs.Feed.{Program, KeptRight, Reading, first_reading, output}
use Rattle.text.specs.Turns.{turn_next, turn_printed, turn_more, all_next, all_printed, all_more, ends_after, most_turns, SomeTurn, TurnsMade}
use Rattle.text.proofs.TurnLaws.{run-right, next_more, more-more, ends_more, printed_more}
use Rattle.console.specs.Moved.{TurnDone, TurnsDone, ProgramDone}

-- ---- bytes that are known, or not
pub consumes-none : (o : Option (List ℕ)) → Consumes o o []
consumes-none None = tt
consumes-none (Some xs) = refl

pub consumes-more : (a b c : Option (List ℕ)) (xs ys : List ℕ) → Consumes a b xs → Consumes b c ys → Consumes a c (xs ++ ys)
consumes-more None b c xs ys d e = tt
consumes-more (Some u) None c xs ys d e = absurd d
consumes-more (Some u) (Some v) None xs ys d e = absurd e
consumes-more (Some u) (Some v) (Some w) xs ys d e = d ∙ ap (λ (l : List ℕ). xs ++ l) e ∙ sym (append_assoc xs ys w)

pub appends-none : (o : Option (List ℕ)) → Appends o o []
appends-none None = tt
appends-none (Some xs) = sym (append-nil xs)

pub appends-more : (a b c : Option (List ℕ)) (xs ys : List ℕ) → Appends a b xs → Appends b c ys → Appends a c (xs ++ ys)
appends-more None b c xs ys d e = tt
appends-more (Some u) None c xs ys d e = absurd d
appends-more (Some u) (Some v) None xs ys d e = absurd e
appends-more (Some u) (Some v) (Some w) xs ys d e = e ∙ ap (λ (l : List ℕ). l ++ ys) d ∙ append_assoc u xs ys

-- of the bytes in front of those that a reader has left, the first n are used
pub used : (was o : Option (List ℕ)) (left : List ℕ) (n : ℕ) → Keeps was (prepend_known left o) → Consumes was (prepend_known (drop n left) o) (take n left)
used None o left n k = tt
used (Some xs) None left n k = absurd k
used (Some xs) (Some ys) left n k = sym k ∙ ap (λ (l : List ℕ). l ++ ys) (sym (take-append-drop n left)) ∙ append_assoc (take n left) (drop n left) ys

flatten-one : (parts : List (List ℕ)) (part : List ℕ) → flatten (parts ++ part ∷ []) ≡ flatten parts ++ part
unfolding flatten
flatten-one [] part = append-nil part
flatten-one (q ∷ parts) part = ap (λ (l : List ℕ). q ++ l) (flatten-one parts part) ∙ sym (append_assoc q (flatten parts) part)

pub if-ok : {T E : Type 0} (P Q : T → Type 0) (r : Result T E) → ((x : T) → P x → Q x) → IfOk r P → IfOk r Q
if-ok P Q (Ok x) f p = f x p
if-ok P Q (Err x) f p = tt

-- what an `Err` is not asked
pub if-err : {T E : Type 0} (P : T → Type 0) (r : Result T E) → IsErr r → IfOk r P
if-err P (Ok x) e = cc
if-err P (Err x) e = tt

-- ---- a turn, on the first n bytes of those that are left
pub turn-done : {S L E : Type 0} (p : Program S L) (r next : Reading S L) (more : Bool) (was o h k : Option (List ℕ)) (left shown rest : List ℕ) (n : ℕ) (result : Result Bool E) → Keeps was (prepend_known left o)
    → shown ≡ left → rest ≡ drop n left → next ≡ turn_next p r (take n shown) → more ≡ turn_more p r (take n shown)
    → IfOk result (λ told. (told ≡ more) × Appends h k (turn_printed p r (take n shown))) → TurnDone p r next was (prepend_known rest o) h k result
turn-done p r next more was o h k left shown rest n result keeps shown-is rest-is next-is more-is written =
    record {
      more = more;
      turn = record { part = take n shown; next_is = next-is; more_is = more-is };
      read = rw (shown-is, rest-is) (used was o left n keeps);
      written = written;
    }

-- ---- the turns so far, after each of which more is to be read
module _ {S L : Type 0} (p : Program S L) where
  pub record Going (first now : Reading S L) (count : ℕ) (unread unread' held held' : Option (List ℕ)) : Type 0 where
    pub parts : List (List ℕ)
    pub now-is : now ≡ all_next p first parts
    pub count-is : length parts ≡ count
    pub on : all_more p first parts ≡ true
    pub read : Consumes unread unread' (flatten parts)
    pub written : Appends held held' (all_printed p first parts)

  pub going-none : (r : Reading S L) (unread held : Option (List ℕ)) → Going r r 0 unread unread held held
  unfolding all_next all_more all_printed flatten
  going-none r unread held = record { parts = []; now-is = refl; count-is = refl; on = refl; read = consumes-none unread; written = appends-none held }

  module _ (first now : Reading S L) (count : ℕ) (u v h k : Option (List ℕ)) (g : Going first now count u v h k) where
    -- no turn is left
    pub going-made : TurnsMade p first now
    going-made = record { parts = g.parts; last_is = g.now-is; so_far = inr g.on }

    pub going-out : count ≡ most_turns → TurnsDone p first now u v h k
    going-out e =
        record {
          turns = record { parts = g.parts; last_is = g.now-is; all_made = inr (g.on, g.count-is ∙ e) };
          read = g.read;
          written = g.written;
        }

    -- one turn more
    module _ (next : Reading S L) where
      next-is : (more : Bool) (t : SomeTurn p now next more) → next ≡ all_next p first (g.parts ++ t.part ∷ [])
      next-is more t = t.next_is ∙ ap (λ (r : Reading S L). turn_next p r t.part) g.now-is ∙ sym (next_more p g.parts first t.part)

      more-is : (more : Bool) (t : SomeTurn p now next more) → turn_more p (all_next p first g.parts) t.part ≡ more
      more-is more t = ap (λ (r : Reading S L). turn_more p r t.part) (sym g.now-is) ∙ sym t.more_is

      on-is : (more : Bool) (t : SomeTurn p now next more) → all_more p first (g.parts ++ t.part ∷ []) ≡ more
      on-is more t = more-more p g.parts first t.part g.on ∙ more-is more t

      off-is : (more : Bool) (t : SomeTurn p now next more) → ends_after p first (g.parts ++ t.part ∷ []) ≡ not more
      off-is more t = ends_more p g.parts first t.part g.on ∙ ap not (more-is more t)

      pub turn-made : (more : Bool) → SomeTurn p now next more → TurnsMade p first next
      turn-made true t = record { parts = g.parts ++ t.part ∷ []; last_is = next-is true t; so_far = inr (on-is true t) }
      turn-made false t = record { parts = g.parts ++ t.part ∷ []; last_is = next-is false t; so_far = inl (off-is false t) }

      module _ (E : Type 0) (v' k' : Option (List ℕ)) (told : Bool) (d : TurnDone {E = E} p now next v v' k k' (Ok told)) where
        read-is : Consumes u v' (flatten (g.parts ++ d.turn.part ∷ []))
        read-is = subst (λ (l : List ℕ). Consumes u v' l) (sym (flatten-one g.parts d.turn.part)) (consumes-more u v v' _ _ g.read d.read)

        written-is : Appends h k' (all_printed p first (g.parts ++ d.turn.part ∷ []))
        written-is =
            let e : turn_printed p now d.turn.part ≡ turn_printed p (all_next p first g.parts) d.turn.part = ap (λ (r : Reading S L). turn_printed p r d.turn.part) g.now-is in
            subst (λ (l : List ℕ). Appends h k' l) (ap (λ (l : List ℕ). all_printed p first g.parts ++ l) e ∙ sym (printed_more p g.parts first d.turn.part g.on))
            (appends-more h k k' _ _ g.written d.written.1)

        pub going-more : told ≡ true → Going first next (count + 1) u v' h k'
        going-more e =
            record {
              parts = g.parts ++ d.turn.part ∷ [];
              now-is = next-is d.more d.turn;
              count-is = length-append g.parts (d.turn.part ∷ []) ∙ ap (λ (n : ℕ). n + 1) g.count-is;
              on = on-is d.more d.turn ∙ sym d.written.0 ∙ e;
              read = read-is;
              written = written-is;
            }

        -- the last
        pub going-ended : told ≡ false → TurnsDone p first next u v' h k'
        going-ended e =
            record {
              turns = record { parts = g.parts ++ d.turn.part ∷ []; last_is = next-is d.more d.turn; all_made = inl (off-is d.more d.turn ∙ ap not (sym d.written.0 ∙ e)) };
              read = read-is;
              written = written-is;
            }

-- ---- the whole program
pub program-done : {S L : Type 0} (p : Program S L) → KeptRight p → (first last : Reading S L) → first ≡ first_reading p → (u v h k : Option (List ℕ)) → TurnsDone p first last u v h k → ProgramDone p u v h k
program-done p right first last first-is u v h k d =
    let parts = d.turns.parts in
    let ends : ends_after p first parts ≡ ends_after p (first_reading p) parts = ap (λ (r : Reading _ _). ends_after p r parts) first-is in
    let more : all_more p first parts ≡ all_more p (first_reading p) parts = ap (λ (r : Reading _ _). all_more p r parts) first-is in
    let printed : Appends h k (all_printed p (first_reading p) parts) = subst (λ (r : Reading _ _). Appends h k (all_printed p r parts)) first-is d.written in
    record {
      parts = parts;
      read = d.read;
      written = ⊎_elim
          (λ e. inl (sym ends ∙ e, subst (λ (bs : List ℕ). Appends h k bs) ((run-right p right parts).ended (sym ends ∙ e)) printed))
          (λ e. inr (sym more ∙ e.0, e.1, printed))
          d.turns.all_made;
    }
