use mathlib.Core.Path.{sym, ◌∙◌}
use native.Mathlib.Omega.{arith}
use lib.ListN.{length}
use Rattle.lists.proofs.TestLaws.{pick-accepted, pick-refused}
use Rattle.queue.specs.Held.{added, added_bytes}
use Rattle.queue.proofs.SeenLaws.{seen-all}
use Rattle.rules.specs.Packets.{packet_reply, packet_held}
use Rattle.rules.proofs.ReplyLaws.{reply-accepts, reply-refuses}
use Rattle.rules.proofs.PrimaryFacts.{primary-facts}
use Rattle.rules.proofs.PacketLaws.{PacketFacts, packet-accepted}
use Rattle.primary.proofs.packets.packet.Goals as goal
use Rattle.primary.proofs.packets.packet.Goals.{Then-number-eq0, then-number-eq0, else-number-eq0}

pub check_packet-requires : goal.check_packet-requires
check_packet-requires c = rw c.seen_of-seen.ensures.value (seen-all c.args.p.queue _ _ _ c.min.ensures)

-- what acceptance says
facts : (c : Then-number-eq0) → let a = c.args in PacketFacts a.p (length a.held.now) a.port (length a.bytes.now)
facts c = packet-accepted _ _ _ _ (sym (c.number_in-number.ensures ∙ c.check_packet.ensures) ∙ c.if-number-eq0.true)

pub overflow_cast-packets : goal.overflow_cast-packets
overflow_cast-packets c = let f = facts (goal.at.overflow_cast-packets c).Then-number-eq0 in omega (arith, f.length_high)

pub overflow_cast-packets-then-number-eq0 : goal.overflow_cast-packets-then-number-eq0
overflow_cast-packets-then-number-eq0 c = let f = facts (goal.at.overflow_cast-packets-then-number-eq0 c).Then-number-eq0 in omega (arith, f.port-high)

pub offset_bounds-packets-count : goal.offset_bounds-packets-count
offset_bounds-packets-count c = let f = facts (goal.at.offset_bounds-packets-count c).Then-number-eq0 in omega (arith, f.count_low)

pub bounds-packets-count : goal.bounds-packets-count
bounds-packets-count c = (facts (goal.at.bounds-packets-count c).Then-number-eq0).count_low

pub copy_into-requires : goal.copy_into-requires
copy_into-requires c = let f = facts (goal.at.copy_into-requires c).Then-number-eq0 in omega arith

pub overflow_add-count : goal.overflow_add-count
overflow_add-count c = let f = facts (goal.at.overflow_add-count c).Then-number-eq0 in omega (arith, f.count_low)

pub overflow_add-total : goal.overflow_add-total
overflow_add-total c =
    let f = facts (goal.at.overflow_add-total c).Then-number-eq0 in
    let q = (primary-facts _ f.ok).settings.stream.q-high in
    omega arith

pub returns : goal.returns
unfolding packet_reply packet_held added added_bytes
returns c =
    let e = c.number_in-number.ensures ∙ c.check_packet.ensures in
    elim c.if-number-eq0.branch [
      | then-number-eq0 w ↦
          let z = w.if-number-eq0.true in
          record {
            value = rw (c.with_queue.ensures, w.packets-is, w.count-is, w.total-is, w.value-is, z) (reply-accepts _ _ _ _ _ e z);
            held_after = rw w.held-is (w.copy_into.ensures ∙ sym (pick-accepted _ _ _ (sym e ∙ z)));
          }
      | else-number-eq0 w ↦
          let z = w.if-number-eq0.false in
          record {
            value = rw (c.with_queue.ensures, w.packets-is, w.count-is, w.total-is, w.value-is) (reply-refuses _ _ _ _ _ e z);
            held_after = rw w.held-is (sym (pick-refused _ _ _ (λ x. z (e ∙ x))));
          }
    ]
