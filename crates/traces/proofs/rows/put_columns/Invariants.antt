-- `traces::rows::put_columns` meets its contract. The loop's invariant: the columns so far are put, and take 20 bytes each at the most.
use Prim.Native.Nat.{◌+◌, ◌*◌, ◌≤◌}
use mathlib.Core.Path.{◌≡◌}
use lib.ListN.{length, take}
use Rattle.lists.specs.Part.{PutDone}
use Rattle.traces.specs.Row.{in_columns}
use Rattle.traces.proofs.rows.put_columns.Given as goal

abbrev pub invariant-loop-width : goal.invariant-loop-width
invariant-loop-width l = record {
  done : PutDone (in_columns (take l.width-index l.columns)) l.initial.out l.at l.out l.next;
  low : l.next ≤ l.at + 20 * l.width-index;
  size : length l.out ≡ length l.initial.out;
}
