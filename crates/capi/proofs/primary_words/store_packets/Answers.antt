use Prim.Native.Nat.{ℕ, ◌+◌, ◌*◌}
use mathlib.Core.Path.{◌≡◌, refl, sym, ap, ◌∙◌}
use mathlib.Core.List.{List, [], ◌∷◌}
use native.Mathlib.Omega.{arith}
use lib.ListN.{length, take, get_or}
use lib.Seq.{take_all}
use Rattle.lists.specs.Part.{put}
use Rattle.lists.proofs.PartLaws.{put-none, length-put}
use Rattle.queue.specs.declared.Packet.{Packet}
use Rattle.queue.specs.Held.{no_packet}
use Rattle.capi.specs.PrimaryWords.{packet_words, packets_at, packets_fit, primary_length}
use Rattle.capi.proofs.PrimaryWordLaws.{length-packet_words, store-more, fits-packets-more}
use borrow.Author.Rules.{rules}
use Rattle.capi.proofs.primary_words.store_packets.Goals as goal
use Rattle.capi.proofs.primary_words.store_packets.Goals.{Start}

-- the array's length, which the type gives
array : (c : Start) → length c.args.packets ≡ 64
array c = search rules

pub loop-i-init : goal.loop-i-init
unfolding packet_words packets_fit
loop-i-init c = (c.requires, sym (put-none _ packets_at), refl)

pub loop-i-preserved : goal.loop-i-preserved
loop-i-preserved c =
    let a = c.args in
    let s = c.loop-i in
    let w : List ℕ = a.w.now in
    let ks : List Packet = a.packets in
    let i : ℕ = s.i in
    let k : Packet = get_or ks i no_packet in
    let many : length ks ≡ 64 = array (goal.at.loop-i-preserved c).Start in
    let n : length s.w ≡ primary_length = s.invariant.0 in
    let m : length w ≡ primary_length = c.requires in
    let r = c.store_packet.ensures in
    let e : c.store_packet.new.w ≡ put s.w (packets_at + 3 * i) (packet_words (k ∷ [])) = r.w_after in (
      ap length e ∙ length-put s.w (packets_at + 3 * i) (packet_words (k ∷ [])) (rw (length-packet_words (k ∷ [])) (omega arith)) ∙ n,
      e ∙ ap (λ (x : List ℕ). put x (packets_at + 3 * i) (packet_words (k ∷ []))) s.invariant.1 ∙ store-more w ks no_packet packets_at i (omega arith) (omega arith),
      fits-packets-more ks no_packet i (omega arith) s.invariant.2 r.k_value,
    )

pub shape_of-w : goal.shape_of-w
shape_of-w c = c.loop-i.invariant.0 ∙ sym c.requires

pub returns : goal.returns
returns c =
    let ks : List Packet = c.args.packets in
    let l = c.loop-i in
    let many : length ks ≡ 64 = array (goal.at.returns c).Start in
    let whole : take l.i ks ≡ ks = take_all l.i ks (omega arith) in
    record {
      w_after = rw whole at l.invariant.1;
      packets_value = rw whole at l.invariant.2;
    }
