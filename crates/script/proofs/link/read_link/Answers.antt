-- `script::link::read_link` meets its contract. Assumes nothing.
use Prim.Native.Nat.{◌≤◌}
use mathlib.Core.Path.{◌≡◌, sym, ◌∙◌}
use native.Mathlib.Omega.{arith}
use lib.ListN.{length}
use Rattle.script.proofs.LinkLaws.{used_low, read_done}
use Rattle.script.proofs.SiteLaws.{lengths}
use Rattle.script.proofs.link.read_link.Goals as goal
use Rattle.script.proofs.link.read_link.Goals.{After-used_of-used, Start}

link-long : (c : Start) → length c.args.s.link ≡ 2048
link-long c = sym (lengths c.args.s _ c.well_formed.0).link

-- what is used is in the link
used-inside : (c : After-used_of-used) → c.used_of-used.result ≤ c.in_link-count.result
used-inside c =
    let a = c in
    used_low a.args.s (sym (lengths a.args.s _ a.well_formed.0).link) _ c.in_link-count.ensures _ c.part_of.ensures c.read_reply-r.result c.read_reply-r.ensures.value c.used_of-used.result c.used_of-used.ensures

pub remove-requires : goal.remove-requires
remove-requires c =
    let l = used-inside (goal.at.remove-requires c).After-used_of-used in
    let h = link-long (goal.at.remove-requires c).Start in
    let e = c.in_link-count.ensures in
    (omega (arith, l), omega arith)

pub overflow_sub-next : goal.overflow_sub-next
overflow_sub-next c = used-inside (goal.at.overflow_sub-next c).After-used_of-used

pub returns : goal.returns
returns c =
    let a = c in
    let r = c.read_reply-r in
    c.answered.ensures
    ∙ read_done a.args.s (link-long (goal.at.returns c).Start) c.in_link-count.result c.in_link-count.ensures
    _ c.part_of.ensures r.result r.ensures.value c.used_of-used.result c.used_of-used.ensures
    _ c.first_unread.result c.remove.ensures c.first_unread.ensures
