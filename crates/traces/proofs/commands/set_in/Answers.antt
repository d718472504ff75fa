-- `traces::commands::set_in` meets its contract. Assumes nothing.
use Prim.Native.Nat.{◌≤◌, ◌<◌}
use mathlib.Core.Path.{◌≡◌, sym, ◌∙◌}
use native.Mathlib.Omega.{arith}
use lib.ListN.{length}
use borrow.Author.Tests.{lt-ltb, le-ltb}
use Rattle.lists.proofs.TestLaws.{cond-true, cond-false}
use Rattle.script.specs.Site.{world_of}
use Rattle.script.proofs.LinkLaws.{length-link}
use Rattle.script.proofs.SiteLaws.{lengths}
use Rattle.traces.proofs.CommandLaws.{set-done}
use Rattle.traces.proofs.commands.set_in.Goals as goal
use Rattle.traces.proofs.commands.set_in.Goals.{Start}

link-long : (c : Start) → length c.args.d.link ≡ 2048
link-long c = sym (lengths c.args.d _ c.well_formed.1.0).link

pub returns-then-count-place : goal.returns-then-count-place
returns-then-count-place c =
    let n = length-link c.args.d (link-long (goal.at.returns-then-count-place c).Start) in
    let h : length (world_of c.args.d).link ≤ c.args.at = omega (arith, n, c.in_link-count.ensures) in
    rw c.number.ensures (sym (cond-false _ _ _ (le-ltb _ _ h)))

pub returns : goal.returns
returns c =
    let n = length-link c.args.d (link-long (goal.at.returns c).Start) in
    let h : c.args.at < length (world_of c.args.d).link = omega (arith, n, c.in_link-count.ensures, c.if-count-place.false) in
    set-done c.args.d (link-long (goal.at.returns c).Start) c.args.at h c.args.byte ∙ sym (cond-true _ _ _ (lt-ltb _ _ h))
