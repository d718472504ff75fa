-- `queue::seen_of` meets its contract. The loop's invariant: what is seen of the packets passed is the epoch and the bytes,
-- where the test holds. Assumes nothing.
use Rattle.std.proofs.Common.{◌≡◌, ◌*◌, ◌≤◌, cond, Some, None, take}
use Rattle.queue.specs.Seen.{seen_of}
use Rattle.queue.proofs.seen_of.Given as goal

abbrev pub invariant-loop-packet : goal.invariant-loop-packet
invariant-loop-packet l =
    record {
      seen-is : seen_of (take l.packet-index l.packets) ≡ cond l.ok (Some (record { epoch = l.epoch; bytes = l.bytes })) None;
      bytes_high : l.bytes ≤ l.packet-index * 65535;
    }
