use Rattle.std.proofs.Common.{◌≡◌, ℕ, ◌+◌, ◌-◌, ◌<◌, ◌≤◌, true, Option, Some, None, is_some, List, length, sym, ap, ◌∙◌, arith, rules}
use Rattle.std.specs.Option.{UnwrapsOrElse}
use Rattle.std.specs.List.{copy_within}
use Rattle.std.proofs.lemmas.Bool.{false≢true}
use lib.ListN.{set}
use borrow.Author.Tests.{lt-ltb}
use Rattle.lists.specs.Part.{freed}
use Rattle.lists.proofs.TestLaws.{pick-accepted, pick-refused}
use Rattle.settings.specs.Range.{most_packets}
use Rattle.queue.specs.declared.Packet.{Packet}
use Rattle.queue.specs.declared.Place.{Place}
use Rattle.queue.specs.declared.Queue.{Queue}
use Rattle.queue.specs.Held.{no_packet, packet_at, is_of_port, oldest_at, oldest, queue_ok, bytes_before, without_packet, without_packet_bytes, packet_bytes}
use Rattle.queue.proofs.ArrayLaws.{closed}
use Rattle.queue.proofs.QueueLaws.{QueueTests, queue-tests, packet-within}
use Rattle.queue.proofs.SeenLaws.{seen-all}
use Rattle.queue.proofs.PlaceLaws.{Found, first-all}
use Rattle.rules.specs.declared.Primary.{Primary}
use Rattle.rules.specs.Packets.{take_refusal, take_reply, take_held, take_destination}
use Rattle.rules.proofs.ReplyLaws.{reply-accepts, reply-refuses}
use Rattle.rules.proofs.PrimaryFacts.{primary-facts}
use Rattle.rules.proofs.PacketLaws.{TakeFacts, take-accepted}
use Rattle.primary.proofs.packets.take.Goals as goal
use Rattle.primary.proofs.packets.take.Goals.{Then-number-eq0, then-number-eq0, else-number-eq0}

unwrapped : (s : Option Place) (P : Place → Type 0) (r : Place) → UnwrapsOrElse s P r → is_some s ≡ true → s ≡ Some r
unwrapped None P r u h = absurd (false≢true h)
unwrapped (Some x) P r u h = ap Some (sym u)

pub check_take-requires : goal.check_take-requires
check_take-requires c =
    let k = c.args.p.queue in
    let port = c.args.port in (
      rw c.seen_of-seen.ensures.value (seen-all k _ _ _ c.min.ensures),
      λ q.
          let few : k.count ≤ most_packets = (queue-tests _ _ _ q).count-high in
          let all : length k.packets ≡ most_packets = search rules in
          let f = first-all k port _ _ c.min.ensures (omega (arith, few, all)) c.first_of-place.ensures few in (
            c.is_some.ensures ∙ f.found-is,
            λ y.
                let at = f.at-is _ (unwrapped _ _ _ c.unwrap_or_default-at.ensures (sym c.is_some.ensures ∙ y)) in
                (ap (λ (i : ℕ). (packet_at k i).epoch) at, c.from-n.ensures ∙ ap (λ (i : ℕ). (packet_at k i).length) at),
          ),
    )

-- what acceptance says of the packet that leaves
record Leaving (p : Primary) (held port room : ℕ) (place : Place) : Type 0 where
  facts : TakeFacts p held port room
  queue : QueueTests p.queue p.epoch p.settings.q
  at-is : place.at ≡ oldest_at p.queue port
  before-is : place.before ≡ bytes_before p.queue (oldest_at p.queue port)
  length-is : (packet_at p.queue place.at).length ≡ (oldest p.queue port).length
  within : bytes_before p.queue (oldest_at p.queue port) + (oldest p.queue port).length ≤ p.queue.bytes
  at_low : place.at < p.queue.count
  array-fits : p.queue.count ≤ length p.queue.packets

module _ (p : Primary) (held port room : ℕ) (found : Option Place) (all : length p.queue.packets ≡ most_packets) (shown : p.queue.count ≤ most_packets → Found p.queue port found) (accepted : take_refusal p held port room ≡ 0) where
  leaving-of : (P : Place → Type 0) (place : Place) → UnwrapsOrElse found P place → Leaving p held port room place
  leaving-of P place unwraps =
      let facts : TakeFacts p held port room = take-accepted _ _ _ _ accepted in
      let in-range : queue_ok p.queue p.epoch p.settings.q ≡ true = (primary-facts _ facts.ok).queue in
      let queue : QueueTests p.queue p.epoch p.settings.q = queue-tests _ _ _ in-range in
      let there : Found p.queue port found = shown queue.count-high in
      let is : found ≡ Some place = unwrapped found P place unwraps (there.found-is ∙ lt-ltb _ _ facts.released.some) in
      record {
        facts = facts;
        queue = queue;
        at-is = there.at-is place is;
        before-is = there.before-is place is;
        length-is = ap (λ (i : ℕ). (packet_at p.queue i).length) (there.at-is place is);
        within = packet-within p.queue all p.epoch p.settings.q in-range (oldest_at p.queue port) facts.released.some;
        at_low = omega (arith, there.at-is place is, facts.released.some);
        array-fits = omega (arith, all, queue.count-high);
      }

leaving : (c : Then-number-eq0) → let a = c.args in Leaving a.p (length a.held.now) a.port (length a.destination.now) c.unwrap_or_default-at.result
leaving c =
    let a = c.args in
    let all : length a.p.queue.packets ≡ 64 = search rules in
    leaving-of a.p (length a.held.now) a.port (length a.destination.now) _ all (λ few. first-all a.p.queue a.port _ _ c.min.ensures (omega (arith, few, all)) c.first_of-place.ensures few) (sym (c.number_in-number.ensures ∙ c.check_take.ensures) ∙ c.if-number-eq0.true) _ _ c.unwrap_or_default-at.ensures

pub copy_within-requires : goal.copy_within-requires
copy_within-requires c =
    let t = leaving (goal.at.copy_within-requires c).Then-number-eq0 in
    record {
      start_le_end = omega (arith, t.at_low);
      in_bounds = t.array-fits;
      dest_in_bounds = omega (arith, t.at_low, t.array-fits);
      not_exhausted = search rules;
    }

pub overflow_sub-count : goal.overflow_sub-count
overflow_sub-count c = omega (arith, (leaving (goal.at.overflow_sub-count c).Then-number-eq0).at_low)

pub hand_out-requires : goal.hand_out-requires
hand_out-requires c =
    let t = leaving (goal.at.hand_out-requires c).Then-number-eq0 in
    let o : c.from-n.result ≡ (oldest c.args.p.queue c.args.port).length = c.from-n.ensures ∙ t.length-is in
    (omega (arith, o, t.before-is, t.within), omega (arith, t.queue.bytes_high, t.facts.held-is), omega (arith, o, t.facts.room))

pub overflow_sub-total : goal.overflow_sub-total
overflow_sub-total c =
    let t = leaving (goal.at.overflow_sub-total c).Then-number-eq0 in
    let o : c.from-n.result ≡ (oldest c.args.p.queue c.args.port).length = c.from-n.ensures ∙ t.length-is in
    omega (arith, t.within, o)

-- those behind it have moved up, and the freed entry is 0
moved : (k : Queue) (port at : ℕ) (ps : List Packet) → at < k.count → k.count ≤ length k.packets → at ≡ oldest_at k port → ps ≡ copy_within k.packets (at + 1) k.count at
    → set ps (k.count - 1) no_packet ≡ freed no_packet (oldest_at k port) 1 k.count k.packets
moved k port at ps low fits is up =
    ap (λ qs. set qs (k.count - 1) no_packet) up ∙ closed k.packets at k.count no_packet low fits ∙ ap (λ i. freed no_packet i 1 k.count k.packets) is

pub returns : goal.returns
unfolding take_reply take_held take_destination without_packet without_packet_bytes packet_bytes
returns c =
    let e = c.number_in-number.ensures ∙ c.check_take.ensures in
    let a = c.args in
    let k = a.p.queue in
    elim c.if-number-eq0.branch [
      | then-number-eq0 w ↦
          let z = w.if-number-eq0.true in
          let all : length k.packets ≡ 64 = search rules in
          let t = leaving-of a.p (length a.held.now) a.port (length a.destination.now) _ all (λ few. first-all k a.port _ _ c.min.ensures (omega (arith, few, all)) c.first_of-place.ensures few) (sym e ∙ z) _ _ c.unwrap_or_default-at.ensures in
          let o : c.from-n.result ≡ (oldest k a.port).length = c.from-n.ensures ∙ t.length-is in
          let b : c.unwrap_or_default-at.result.before ≡ bytes_before k (oldest_at k a.port) = t.before-is in
          let m = moved k a.port _ _ t.at_low t.array-fits t.at-is w.copy_within.ensures.after in
          record {
            value = rw (c.with_queue.ensures, w.packets-is, w.count-is, w.total-is ∙ ap (λ (x : ℕ). k.bytes - x) o, w.value-is ∙ o, z, m) (reply-accepts _ _ _ _ _ e z);
            held_after = rw w.held-is (rw (b, o) at w.hand_out.ensures.held_after ∙ sym (pick-accepted _ _ _ (sym e ∙ z)));
            destination_after = rw w.destination-is (rw (b, o) at w.hand_out.ensures.destination_after ∙ sym (pick-accepted _ _ _ (sym e ∙ z)));
          }
      | else-number-eq0 w ↦
          let z = w.if-number-eq0.false in
          record {
            value = rw (c.with_queue.ensures, w.packets-is, w.count-is, w.total-is, w.value-is) (reply-refuses _ _ _ _ _ e z);
            held_after = rw w.held-is (sym (pick-refused _ _ _ (λ x. z (e ∙ x))));
            destination_after = rw w.destination-is (sym (pick-refused _ _ _ (λ x. z (e ∙ x))));
          }
    ]
