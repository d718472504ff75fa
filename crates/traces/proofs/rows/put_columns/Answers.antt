use mathlib.Core.Path.{refl}
use native.Mathlib.Omega.{arith}
use native.Mathlib.Numerals.{add-one}
use lib.ListN.{take, get_or}
use lib.Seq.{take-suc}
use Rattle.lists.proofs.PartLaws.{put-done-none, put-done-more}
use Rattle.traces.specs.Row.{in_columns}
use Rattle.traces.proofs.RowLaws.{columns-more}
use Rattle.traces.proofs.rows.put_columns.Goals as goal

pub loop-width-init : goal.loop-width-init
unfolding in_columns
loop-width-init c = record { done = put-done-none _ _; low = omega arith; size = refl }

pub loop-width-preserved : goal.loop-width-preserved
loop-width-preserved c =
    let at = c.loop-width in
    let i = at.width-index in
    let so_far = at.invariant in
    let put = c.put_right-next.ensures in
    record {
      done =
          rw (add-one i, take-suc c.args.columns.now i (0, 0) c.loop-width-test.true, columns-more (take i c.args.columns.now) (get_or c.args.columns.now i (0, 0)))
          (put-done-more _ _ _ _ _ _ _ _ (omega (arith, c.requires.1, so_far.done.position)) so_far.done put.put_done);
      low = omega (arith, put.lower_bound.1);
      size = omega arith;
    }
