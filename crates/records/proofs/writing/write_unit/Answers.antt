use mathlib.Core.Path.{refl}
use Prim.Native.Nat.{◌+◌}
use lib.ListN.{length}
use native.Mathlib.Omega.{arith}
use Rattle.records.specs.Kind.{number_width}
use Rattle.records.proofs.FrameLaws.{length-unit}
use Rattle.records.proofs.KindLaws.{width-range}
use Rattle.records.proofs.WriteLaws.{two-room, two-no-room, written_of, unwritten_of}
use borrow.Author.Rules.{rules}
use Rattle.records.proofs.writing.write_unit.Goals as goal
use Rattle.records.proofs.writing.write_unit.Goals.{then-most_number-number-via-then-most_number-number, then-most_number-number-via-else-most_number-number+then-head-n, then-most_number-number-via-else-most_number-number+else-head-n+then-out-n}

pub returns-then-most_number-number : goal.returns-then-most_number-number
returns-then-most_number-number c =
    let a = c.args in
    let w = width-range a.wide in
    let n = length-unit a.kind (number_width a.wide) a.epoch a.number a.body.now in
    unwritten_of
    (two-no-room (number_width a.wide) 2 a.number (length a.body.now + (4 + number_width a.wide)) _ _
    (λ p q h.
    elim c.then-most_number-number.branch [
      | then-most_number-number-via-then-most_number-number w ↦ omega arith
      | then-most_number-number-via-else-most_number-number+then-head-n w ↦ omega arith
      | then-most_number-number-via-else-most_number-number+else-head-n+then-out-n w ↦ omega arith
    ]))
    refl refl

pub overflow_sub-head : goal.overflow_sub-head
overflow_sub-head c = let w = width-range c.args.wide in omega arith

pub overflow_cast-number : goal.overflow_cast-number
overflow_cast-number c = let m = c.most_number.ensures in search rules

pub put_unit-requires : goal.put_unit-requires
put_unit-requires c =
    let w = width-range c.args.wide in
    (omega arith, omega arith)

pub returns : goal.returns
returns c =
    let a = c.args in
    let w = width-range a.wide in
    let k = number_width a.wide in
    let n = length-unit a.kind k a.epoch a.number a.body.now in
    written_of (two-room k 2 a.number (length a.body.now + (4 + k)) _ _ (omega arith) (omega arith) (omega arith)) c.put_unit.ensures (omega arith)
