-- `traces::rows::put_remarks` meets its contract. Assumes nothing.
use Prim.Native.Nat.{◌+◌, ◌≤◌}
use native.Mathlib.Omega.{arith}
use lib.ListN.{length}
use Rattle.text.proofs.PrintLaws.{put-text, put_then}
use Rattle.script.specs.Site.{world_of}
use Rattle.traces.specs.Row.{remarks}
use Rattle.traces.proofs.RowLaws.{put_in}
use Rattle.traces.proofs.rows.put_remarks.Goals as goal

pub returns-clause-put_done : goal.returns-clause-put_done
unfolding remarks world_of
returns-clause-put_done c =
    let alone = c.shown-alone.ensures in
    let mode = c.mode_words-mode.ensures in
    let no_run = c.shown-no_run.ensures in
    let all = put_then (put_then (put-text c.put_text-a.ensures) (put-text c.put_text-b.ensures)) (put-text c.put_text.ensures) in
    let low : length c.shown-alone.result.now + length c.mode_words-mode.result.now + length c.shown-no_run.result.now ≤ 73 = omega (arith, alone.bound, mode.bound, no_run.bound) in
    rw (alone.value, mode.value, no_run.value) at (put_in all low c.requires).0
