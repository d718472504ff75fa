-- `primary_words::store` meets its contract. Assumes nothing.
use Prim.Native.Nat.{ℕ}
use mathlib.Core.Path.{◌≡◌, ap, ◌∙◌}
use mathlib.Core.List.{List}
use lib.ListN.{length}
use Rattle.lists.specs.Part.{put}
use Rattle.capi.specs.PrimaryWords.{packets_at, written_at, packet_words, primary_words}
use Rattle.capi.proofs.PrimaryWordLaws.{store-all, primary-words-ok, primary-again}
use borrow.Author.Rules.{rules}
use Rattle.capi.proofs.primary_words.store.Goals as goal
use Rattle.capi.proofs.primary_words.store.Goals.{Start}

-- the arrays' lengths, which the type gives
array : (c : Start) → length c.args.p.queue.packets ≡ 64
array c = search rules

numbers : (c : Start) → length c.args.p.numbers ≡ 64
numbers c = search rules

pub returns : goal.returns
returns c =
    let start = c in
    let w : List ℕ = start.args.w.now in
    let p = start.args.p in
    let many = array (goal.at.returns c).Start in
    let all = numbers (goal.at.returns c).Start in
    let head = c.head_words.ensures in
    let packets = c.store_packets.ensures in
    let written = c.store_numbers.ensures in
    let first = c.store_at.ensures ∙ ap (put w 0) head.value in
    let e : c.store_numbers.new.w ≡ primary_words p =
    written.w_after
    ∙ ap (λ (x : List ℕ). put x written_at p.numbers) (packets.w_after ∙ ap (λ (x : List ℕ). put x packets_at (packet_words p.queue.packets)) first)
    ∙ store-all w p start.requires many all in
    record {
      w_after = e;
      w_after_2 = rw e (primary-words-ok p many all (rw head.value at head.result_value) packets.packets_value written.numbers_value);
      w_after_3 = rw e (primary-again p many);
    }
