-- `queue::first_of` meets its contract. The loop's invariant: no packet passed is of the port, and their bytes.
-- Assumes nothing.
use Rattle.std.proofs.Common.{◌≡◌, ◌+◌, ◌*◌, ◌≤◌, take, drop}
use Rattle.lists.specs.Select.{place_of}
use Rattle.queue.specs.Held.{is_of_port, sum_lengths}
use Rattle.queue.proofs.first_of.Given as goal

abbrev pub invariant-loop-at : goal.invariant-loop-at
invariant-loop-at l =
    record {
      passed : l.at + place_of (is_of_port l.port) (drop l.at l.packets) ≡ place_of (is_of_port l.port) l.packets;
      before-is : l.before ≡ sum_lengths (take l.at l.packets);
      bytes_high : l.before ≤ l.at * 65535;
    }
