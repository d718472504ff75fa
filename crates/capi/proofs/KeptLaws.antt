-- What differs from the state lent is one packet and one block number at most: nothing where a call keeps both, a packet
-- where it stores one, a block number where it remembers one. Assumes nothing.
use Rattle.rules.specs.declared.Reply.{Reply}
use mathlib.Core.Path.{◌≡◌, refl, sym, ap, ap₂, ◌∙◌}
use mathlib.Core.List.{List}
use mathlib.Core.Bool.{cond}
use mathlib.Core.Logic.{⊎_elim}
use Prim.Native.Nat.{ℕ, ◌≤◌, ◌<◌}
use native.Mathlib.Omega.{arith}
use lib.Dec.{ltb}
use lib.ListN.{length, get_or, set}
use lib.Seq.{set-get_or, set_out, get_or-set_same}
use borrow.Author.Tests.{ltb-true, ltb-false, eq-eqb, ne_eqb}
use Rattle.lists.specs.Refusal.{pick}
use Rattle.lists.proofs.TestLaws.{by-test, eq-or-ne}
use Rattle.settings.specs.Range.{most_packets, most_allowance}
use Rattle.queue.specs.declared.Packet.{Packet}
use Rattle.queue.specs.Held.{no_packet, packet_at, added}
use Rattle.rules.specs.declared.Primary.{Primary}
use Rattle.rules.specs.PrimaryState.{is_written}
use Rattle.rules.specs.PrimaryWrites.{disk_write_refusal, with_block_appended, disk_write_state, disk_write_reply}
use Rattle.rules.specs.Packets.{packet_refusal, packet_reply}
use Rattle.rules.proofs.ReplyLaws.{pick-cases}
use Rattle.rules.proofs.PacketLaws.{packet-accepted}
use Rattle.rules.proofs.QueueLaws.{Kept, memory-write-kept, checkpoint-kept, drain_kept, tick-kept, ack-kept}

-- calls that keep the packets and the block numbers
pub ruleset kept = (memory-write-kept, checkpoint-kept, drain_kept, tick-kept, ack-kept)

-- the next state differs from the one lent in this packet and in this block number at most, as `store_one` asks
abbrev pub OneDiffers : (lent next : Primary) (i j : ℕ) → Type 0
OneDiffers lent next i j =
    (i < 64) × (next.queue.packets ≡ set lent.queue.packets i (packet_at next.queue i))
    × (j < 64) × (next.numbers ≡ set lent.numbers j (get_or next.numbers j 0))

-- by what the code has: the state read, and that of the reply
pub kept-stores : (lent p made next : Primary) → p ≡ lent → Kept p made → next ≡ made → OneDiffers lent next 0 0
kept-stores lent p made next is k e =
    let q : next.queue ≡ lent.queue = ap (λ (x : Primary). x.queue) e ∙ k.0 ∙ ap (λ (x : Primary). x.queue) is in
    let n : next.numbers ≡ lent.numbers = ap (λ (x : Primary). x.numbers) e ∙ k.1 ∙ ap (λ (x : Primary). x.numbers) is in
    (omega arith, rw q (sym (set-get_or lent.queue.packets 0 no_packet)), omega arith, rw n (sym (set-get_or lent.numbers 0 0)))

module _ (p : Primary) where
  -- ---- a disk write: one block number is new, at the place of the next one
  disk-write-one : (disk stream block n : ℕ) → length p.numbers ≡ most_allowance
      → OneDiffers p (disk_write_reply p disk stream block n).state 0 (cond (ltb p.blocks most_allowance) p.blocks 0)
  unfolding disk_write_reply disk_write_state
  disk-write-one disk stream block n array =
      let at = cond (ltb p.blocks most_allowance) p.blocks 0 in
      let same = kept-stores p p p p refl (refl, refl) refl in
      let low : at < 64 = ⊎_elim (λ e. rw e (ltb-true p.blocks most_allowance e)) (λ e. rw e (omega arith)) (by-test (ltb p.blocks most_allowance)) in
      let old : OneDiffers p p 0 at = (omega arith, same.1, low, sym (set-get_or p.numbers at 0)) in
      let new : OneDiffers p (with_block_appended p block) 0 at =
      (omega arith, same.1, low, ⊎_elim (λ e. rw e old.3) (λ e. rw e (set-differs p.numbers p.blocks block most_allowance array)) (by-test (is_written p block))) in
      pick-cases (λ (s : Primary). OneDiffers p s 0 at) (disk_write_refusal p disk stream block n) (disk_write_state p block) p
      (λ z. ⊎_elim (λ e. rw e old) (λ e. rw e new) (by-test p.alone)) (λ z. old)
    where
      set-differs : (l : List ℕ) (k x n : ℕ) → length l ≡ n → let j = cond (ltb k n) k 0 in set l k x ≡ set l j (get_or (set l k x) j 0)
      set-differs l k x n h =
          ⊎_elim
          (λ e. let low : k < n = ltb-true k n e in rw e (ap (set l k) (sym (get_or-set_same l k x 0 (omega arith)))))
          (λ e. let high : n ≤ k = ltb-false k n e in rw (e, set_out l k x (omega arith)) (sym (set-get_or l 0 0)))
          (by-test (ltb k n))

  -- ---- a packet: one entry is new
  packet-one : (held port n : ℕ) → length p.queue.packets ≡ most_packets
      → OneDiffers p (packet_reply p held port n).state (pick (packet_refusal p held port n) p.queue.count 0) 0
  unfolding packet_reply added
  packet-one held port n array =
      let new : Packet = record { epoch = p.epoch; length = n; port = port } in
      let number = packet_refusal p held port n in
      let zero = sym (set-get_or p.numbers 0 0) in
      ⊎_elim
      (λ (e : number ≡ 0).
      let low = (packet-accepted p held port n e).count_low in
      rw (eq-eqb number 0 e) (low, ap (set p.queue.packets p.queue.count) (sym (get_or-set_same p.queue.packets p.queue.count new no_packet (omega (arith, array, low)))), omega arith, zero))
      (λ (e : number ≡ 0 → ⊥). rw (ne_eqb number 0 e) (omega arith, sym (set-get_or p.queue.packets 0 no_packet), omega arith, zero))
      (eq-or-ne number 0)

-- by what the code has: the state read, the reply, and the place
pub disk-write-stores : (lent p : Primary) (r : Reply Primary) (disk stream block n j : ℕ) → p ≡ lent → length lent.numbers ≡ most_allowance → r ≡ disk_write_reply p disk stream block n
    → j ≡ cond (ltb p.blocks most_allowance) p.blocks 0 → OneDiffers lent r.state 0 j
disk-write-stores lent p r disk stream block n j is array e at = rw (at, e, is) (disk-write-one lent disk stream block n array)

pub packet-stores : (lent p : Primary) (r : Reply Primary) (held port n i : ℕ) → p ≡ lent → length lent.queue.packets ≡ most_packets → r ≡ packet_reply p held port n
    → i ≡ pick r.number p.queue.count 0 → OneDiffers lent r.state i 0
unfolding packet_reply
packet-stores lent p r held port n i is array e at =
    let e' : r ≡ packet_reply lent held port n = e ∙ ap (λ (x : Primary). packet_reply x held port n) is in
    let at' : i ≡ pick (packet_refusal lent held port n) lent.queue.count 0
    = at ∙ ap₂ (λ (m k : ℕ). pick m k 0) (ap (λ (x : Reply Primary). x.number) e') (ap (λ (x : Primary). x.queue.count) is) in
    rw (at', e') (packet-one lent held port n array)
