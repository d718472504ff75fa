-- `primary_words::store_one` meets its contract. Assumes nothing.
use Prim.Native.Nat.{ℕ, ◌+◌, ◌*◌}
use mathlib.Core.Path.{◌≡◌, ap, ◌∙◌}
use mathlib.Core.Bool.{true}
use mathlib.Core.List.{List, [], ◌∷◌}
use native.Mathlib.Omega.{arith}
use lib.ListN.{length, get_or, set, length-set}
use mir.Syntax.{w16}
use mir.Val.{Fits}
use Rattle.lists.specs.Part.{put}
use Rattle.queue.specs.Held.{packet_at}
use Rattle.queue.specs.declared.Packet.{Packet}
use Rattle.capi.specs.Word.{all_fit16}
use Rattle.capi.specs.PrimaryWords.{packets_at, written_at, packets_fit, packet_words, primary_words}
use Rattle.capi.proofs.PrimaryWordLaws.{store-one, fits_one, fits-number, primary-words-ok, primary-again}
use borrow.Author.Rules.{rules}
use Rattle.capi.proofs.primary_words.store_one.Goals as goal
use Rattle.capi.proofs.primary_words.store_one.Goals.{Start}

-- the arrays' lengths, which the type gives, and that a number fits
array : (c : Start) → length c.args.p.queue.packets ≡ 64
array c =
    search rules

numbers : (c : Start) → length c.args.p.numbers ≡ 64
numbers c = search rules

low : (c : Start) → Fits w16 (get_or c.args.p.numbers c.args.j 0)
low c = search rules

pub overflow_cast-w : goal.overflow_cast-w
overflow_cast-w c = omega (arith, (low (goal.at.overflow_cast-w c).Start).fits)

pub shape_of-w : goal.shape_of-w
shape_of-w c =
    let a = c.args in
    let x : List ℕ = c.store_packet.new.w in
    let m : length x ≡ length a.w.now = search rules in
    length-set x (written_at + a.j) (get_or a.p.numbers a.j 0) ∙ m

pub returns : goal.returns
returns c =
    let start = c in
    let w : List ℕ = start.args.w.now in
    let p = start.args.p in
    let i : ℕ = start.args.i in
    let j : ℕ = start.args.j in
    let k : Packet = packet_at p.queue i in
    let n : ℕ = get_or p.numbers j 0 in
    let many = array (goal.at.returns c).Start in
    let head = c.head_words.ensures in
    let packet = c.store_packet.ensures in
    let ok = start.requires.1 in
    let one = start.requires.3 in
    let number = start.requires.5 in
    let first = c.store_at.ensures ∙ ap (put w 0) head.value in
    let e : set c.store_packet.new.w (written_at + j) n ≡ primary_words p =
    ap (λ (x : List ℕ). set x (written_at + j) n) (packet.w_after ∙ ap (λ (x : List ℕ). put x (packets_at + 3 * i) (packet_words (k ∷ []))) first)
    ∙ store-one w p i k ok start.requires.2 one j n many number in
    let packets : packets_fit (packet_words p.queue.packets) ≡ true = rw one (fits_one w i k ok packet.k_value) in
    let written : all_fit16 p.numbers ≡ true = rw number (fits-number w j n ok (low (goal.at.returns c).Start).fits) in
    record {
      w_after = e;
      w_after_2 = rw e (primary-words-ok p many (numbers (goal.at.returns c).Start) (rw head.value at head.result_value) packets written);
      w_after_3 = rw e (primary-again p many);
    }
