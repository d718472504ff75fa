-- `script::link::drain_record` meets its contract. Assumes nothing.
use mathlib.Core.Path.{◌≡◌, sym, ◌∙◌}
use native.Mathlib.Omega.{arith}
use lib.ListN.{length}
use Rattle.lists.proofs.TestLaws.{cond-false}
use Rattle.script.specs.Site.{world_of}
use Rattle.script.proofs.LinkLaws.{full-link, drain-record}
use Rattle.script.proofs.SiteLaws.{lengths}
use Rattle.script.proofs.link.drain_record.Goals as goal
use Rattle.script.proofs.link.drain_record.Goals.{Start}

-- arrays of their sizes
stream-long : (c : Start) → length c.args.s.primary.stream ≡ 1024
stream-long c = sym (lengths c.args.s _ c.well_formed.0).stream

link-long : (c : Start) → length c.args.s.link ≡ 2048
link-long c = sym (lengths c.args.s _ c.well_formed.0).link

pub returns-then-s-ne0 : goal.returns-then-s-ne0
returns-then-s-ne0 c =
    let a = c in
    sym (cond-false _ _ _ (full-link a.args.s (link-long (goal.at.returns-then-s-ne0 c).Start) c.if-s-ne0.true))

pub first_length-requires : goal.first_length-requires
first_length-requires c = let h = stream-long (goal.at.first_length-requires c).Start in omega arith

pub returns : goal.returns
unfolding world_of
returns c =
    let a = c in
    rw c.first_length.ensures at c.drain_bytes.ensures ∙ drain-record a.args.s (link-long (goal.at.returns c).Start) c.if-s-ne0.false (stream-long (goal.at.returns c).Start)
