use mathlib.Core.Path.{sym, ap, ◌∙◌}
use native.Mathlib.Omega.{arith}
use Rattle.records.specs.Read.{used_of}
use Rattle.plates.proofs.PlateLaws.{turned-first, turned-within, turned-length, turned-room, turned-again, turned-ends}
use Rattle.plates.proofs.turns.put_plates.Goals as goal

pub record_at-first-requires : goal.record_at-first-requires
record_at-first-requires c = omega arith

pub used_of-used-requires : goal.used_of-used-requires
used_of-used-requires c = tt

pub loop-used-init : goal.loop-used-init
loop-used-init c = turned-first _ _ _ _ _ (c.used_of-used.ensures ∙ ap used_of c.record_at-first.ensures)

pub record_at-r-requires : goal.record_at-r-requires
record_at-r-requires c = c.loop-used.invariant.inside

pub put_record-next-requires : goal.put_record-next-requires
put_record-next-requires c = let p = c.requires in turned-room c.loop-used.invariant p.0 p.1

pub overflow_add-place : goal.overflow_add-place
overflow_add-place c =
    let w = turned-within c.loop-used.invariant in
    let l = c.requires.0 in
    record { fits = omega arith }

pub record_at-s-requires : goal.record_at-s-requires
record_at-s-requires c = turned-within c.loop-used.invariant

pub used_of-used-requires-in-loop-used : goal.used_of-used-requires-in-loop-used
used_of-used-requires-in-loop-used c = tt

pub loop-used-smaller : goal.loop-used-smaller
loop-used-smaller c = let w = turned-within c.loop-used.invariant in let some = c.loop-used-test.true in omega arith

pub loop-used-preserved : goal.loop-used-preserved
loop-used-preserved c =
    let p = c.requires in
    let d = c.put_record-next.ensures in
    turned-again c.loop-used.invariant p.0 p.1 _ _ _ _ c.loop-used-test.true c.record_at-r.ensures d.put_done d.upper_bound
    (c.used_of-used-in-loop-used.ensures ∙ ap used_of c.record_at-s.ensures)

pub put_stop_at-requires : goal.put_stop_at-requires
put_stop_at-requires c =
    let p = c.requires in
    let i = c.loop-used.invariant in
    (turned-room i p.0 p.1, p.2, i.inside, sym i.uses ∙ c.loop-used-test.false)

pub shape_of-out : goal.shape_of-out
shape_of-out c =
    let p = c.requires in
    let e = turned-length c.loop-used.invariant p.0 p.1 in
    omega arith

pub returns : goal.returns
returns c =
    let p = c.requires in
    let d = c.put_stop_at.ensures in
    let told = turned-ends c.loop-used.invariant p.0 p.1 _ _ c.loop-used-test.false d.put_done d.upper_bound in
    record {
      put_done = told.0;
      upper_bound = told.1;
    }
