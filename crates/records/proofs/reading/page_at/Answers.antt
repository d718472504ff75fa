use mathlib.Core.Path.{◌≡◌}
use Prim.Native.Nat.{◌+◌}
use native.Mathlib.Omega.{arith}
use Rattle.records.specs.Kind.{page_kind, record_length}
use Rattle.records.proofs.KindLaws.{page-length, width-range}
use borrow.Author.Rules.{rules}
use Rattle.records.proofs.reading.page_at.Goals as goal

pub get-requires : goal.get-requires
get-requires c = let a = c in omega (arith, page-length a.args.u a.args.wide, a.requires.1)

pub number_at-requires : goal.number_at-requires
number_at-requires c = let a = c in omega (arith, page-length a.args.u a.args.wide, a.requires.1)

pub overflow_add-result : goal.overflow_add-result
overflow_add-result c = let a = c in let w = width-range a.args.wide in let h = c.number_end-start.ensures in search rules

pub returns : goal.returns
returns c =
    let a = c.args in
    let h = c.number_end-start.ensures in
    let e : a.u + c.number_end-start.result ≡ record_length a.u (page_kind a.wide) = omega (arith, page-length a.u a.wide) in
    rw (e, h, c.get.ensures, c.number_at.ensures)
