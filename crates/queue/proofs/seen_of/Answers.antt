use Rattle.std.proofs.Common.{get_or, ap, ◌∙◌, arith}
use Rattle.std.proofs.lemmas.List.Sums.{fold_more}
use Rattle.queue.specs.Held.{no_packet}
use Rattle.queue.specs.Seen.{none_seen, seen_with}
use Rattle.queue.proofs.SeenLaws.{seen-more}
use Rattle.queue.proofs.seen_of.Goals as goal

pub loop-packet-preserved : goal.loop-packet-preserved
loop-packet-preserved c =
    let l = c.loop-packet in
    let p = get_or c.args.packets.now l.packet-index no_packet in
    record {
      seen-is = rw (c.packet_ok.ensures, c.from-bytes.ensures)
          (fold_more seen_with none_seen c.args.packets.now l.packet-index no_packet (omega arith) ∙ ap (λ s. seen_with s p) l.invariant.seen-is ∙ seen-more l.ok l.epoch l.bytes p);
      bytes_high = omega arith;
    }
