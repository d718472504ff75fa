-- `script::link::drain_bytes` meets its contract. Assumes nothing.
use mathlib.Core.Path.{◌≡◌, sym}
use native.Mathlib.Omega.{arith}
use lib.ListN.{length}
use Rattle.script.proofs.LinkLaws.{drain-fits, drain-bytes}
use Rattle.script.proofs.SiteLaws.{lengths}
use Rattle.script.proofs.link.drain_bytes.Goals as goal
use Rattle.script.proofs.link.drain_bytes.Goals.{Start}

link-long : (c : Start) → length c.args.s.link ≡ 2048
link-long c = sym (lengths c.args.s _ c.well_formed.0).link

pub overflow_add-result : goal.overflow_add-result
overflow_add-result c =
    let a = c in
    let k = c.in_link-count in
    let r = c.drain_behind-r in
    let h = drain-fits a.args.s (link-long (goal.at.overflow_add-result c).Start) k.result k.ensures a.args.n r.result r.ensures.value in
    omega arith

pub returns : goal.returns
returns c =
    let a = c in
    let k = c.in_link-count in
    let r = c.drain_behind-r in
    drain-bytes a.args.s (link-long (goal.at.returns c).Start) k.result k.ensures a.args.n r.result r.ensures.value _ _ r.ensures.stream_after r.ensures.link_after
