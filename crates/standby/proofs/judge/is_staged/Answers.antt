-- `standby::judge::is_staged` meets its contract. Assumes nothing.
use mathlib.Core.Path.{◌≡◌}
use lib.ListN.{length}
use borrow.Author.Rules.{rules}
use Rattle.staging.proofs.BlockLaws.{slot-tells}
use Rattle.standby.proofs.judge.is_staged.Goals as goal

pub returns : goal.returns
returns c =
    let a = c.args in
    let h : length a.k.numbers ≡ 64 = search rules in
    rw c.slot_for.ensures (slot-tells a.k a.block h c.requires.0 c.requires.1)
