-- `primary::stream::moved` meets its contract. Assumes nothing.
use mathlib.Core.Path.{sym, ◌∙◌}
use native.Mathlib.Omega.{arith}
use Rattle.lists.proofs.TestLaws.{pick-accepted, pick-refused}
use Rattle.primary.proofs.stream.moved.Goals as goal

pub returns-then-number-ne0 : goal.returns-then-number-ne0
returns-then-number-ne0 c =
    let z = c.if-number-ne0.true in
    record {
      value = sym (pick-refused _ _ _ z);
      stream_after = sym (pick-refused _ _ _ z);
      destination_after = sym (pick-refused _ _ _ z);
    }

pub move_out-requires : goal.move_out-requires
move_out-requires c =
    let h = c.requires c.if-number-ne0.false in
    let e = rw c.min.ensures at c.min-count.ensures in
    (omega arith, omega arith, omega arith)

pub returns : goal.returns
returns c =
    let z = c.if-number-ne0.false in
    let n = rw c.min.ensures at c.min-count.ensures in
    let m = c.move_out.ensures in
    record {
      value = n ∙ sym (pick-accepted _ _ _ z);
      stream_after = rw n at m.stream_after ∙ sym (pick-accepted _ _ _ z);
      destination_after = rw n at m.destination_after ∙ sym (pick-accepted _ _ _ z);
    }
