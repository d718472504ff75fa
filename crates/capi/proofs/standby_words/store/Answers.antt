-- `standby_words::store` meets its contract. Assumes nothing.
use Prim.Native.Nat.{ℕ}
use mathlib.Core.Path.{◌≡◌, refl, ap, ◌∙◌}
use mathlib.Core.List.{List}
use lib.ListN.{length}
use Rattle.lists.specs.Part.{put}
use Rattle.capi.specs.StandbyWords.{numbers_at, numbers_many, last_words, standby_words}
use Rattle.capi.proofs.StandbyWordLaws.{store-three, standby-words-ok, standby-again}
use borrow.Author.Rules.{rules}
use Rattle.capi.proofs.standby_words.store.Goals as goal
use Rattle.capi.proofs.standby_words.store.Goals.{Start}

-- the array's length, which the type gives
array : (c : Start) → length c.args.s.slots.numbers ≡ 64
array c = search rules

pub returns : goal.returns
returns c =
    let start = c in
    let w : List ℕ = start.args.w.now in
    let s = start.args.s in
    let ns : List ℕ = s.slots.numbers in
    let many : length ns ≡ numbers_many = array (goal.at.returns c).Start in
    let first = c.first_words.ensures in
    let e : c.store_at-2.new.w ≡ standby_words s =
    c.store_at-2.ensures
    ∙ rw c.last_words.ensures (ap (λ (x : List ℕ). put x 75 (last_words s)) (c.store_numbers.ensures ∙ ap (λ (x : List ℕ). put x numbers_at ns) (c.store_at.ensures ∙ ap (put w 0) first.value)))
    ∙ store-three w s start.requires many in
    record {
      w_after = e;
      pending_after = refl;
      processor_after = refl;
      w_after_2 = rw e (standby-words-ok s many (rw first.value at first.result_value));
      processor_after_2 = rw e (standby-again s many);
    }
