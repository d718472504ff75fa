-- `script::primary_commands::send` meets its contract. Assumes nothing.
use Prim.Native.Nat.{ℕ}
use native.Mathlib.Omega.{arith}
use Rattle.std.proofs.lemmas.List.{take-replicate}
use Rattle.rules.specs.Step.{step}
use Rattle.script.specs.Pair.{perform}
use Rattle.script.specs.Site.{world_of}
use Rattle.script.proofs.primary_commands.send.Goals as goal

pub returns : goal.returns
unfolding perform step world_of
returns c =
    let m = c.packet-r.ensures in
    let lent = c.min-lent in
    rw (c.replied.ensures, m.value, m.held_after, take-replicate {X = ℕ} lent.result 1515 0 (omega arith), lent.ensures)
