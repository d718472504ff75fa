-- `marks::unmark` meets its contract: `w & !(1 << k)` is the word without bit k.
use Prim.Native.Nat.{◌/◌, ◌%◌}
use mathlib.Core.Path.{sym}
use native.Mathlib.Omega.{arith}
use borrow.Author.Rules.{rules}
use lib.ListN.{get_or}
use Rattle.marks.specs.Mark.{without_mark}
use Rattle.marks.proofs.SetBitLaws.{and-other-bits}
use Rattle.marks.proofs.SetLaws.{without-past}
use Rattle.marks.proofs.unmark.Goals as goal

pub returns-then-i-ws : goal.returns-then-i-ws
unfolding without_mark
returns-then-i-ws c =
    let a = c.args in
    rw (and-other-bits (get_or a.ws.now (a.p / 64) 0) (a.p % 64) (omega arith) (search rules))

pub returns-else-i-ws : goal.returns-else-i-ws
returns-else-i-ws c = sym (without-past c.args.ws.now c.args.p c.if-i-ws.false)
