-- `marks::mark` meets its contract: `w | (1 << k)` is the word with bit k.
use Prim.Native.Nat.{◌/◌, ◌%◌}
use mathlib.Core.Path.{sym}
use native.Mathlib.Omega.{arith}
use lib.ListN.{get_or}
use Rattle.marks.specs.Mark.{with_mark}
use Rattle.marks.proofs.BitLaws.{shifted_one, or-with}
use Rattle.marks.proofs.MarkLaws.{with_mark-past}
use Rattle.marks.proofs.mark.Goals as goal

pub returns-then-i-ws : goal.returns-then-i-ws
unfolding with_mark
returns-then-i-ws c =
    let a = c.args in
    rw (shifted_one (a.p % 64) (omega arith), or-with (get_or a.ws.now (a.p / 64) 0) (a.p % 64))

pub returns-else-i-ws : goal.returns-else-i-ws
returns-else-i-ws c = sym (with_mark-past c.args.ws.now c.args.p c.if-i-ws.false)
