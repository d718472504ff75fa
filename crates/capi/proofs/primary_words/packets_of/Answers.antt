use Prim.Native.Nat.{ℕ, ◌+◌, ◌*◌}
use mathlib.Core.Path.{◌≡◌, refl, sym}
use mathlib.Core.List.{List}
use native.Mathlib.Omega.{arith}
use Rattle.capi.specs.PrimaryWords.{packets_at, written_at}
use Rattle.capi.proofs.PrimaryWordLaws.{primary-word-facts, packet-fields, packet-cons, read_more, read_all}
use borrow.Author.Rules.{rules}
use Rattle.capi.proofs.primary_words.packets_of.Goals as goal

pub loop-i-init : goal.loop-i-init
loop-i-init c = let f = primary-word-facts _ c.requires in (f.many, search rules, f.packets, refl)

pub field-requires : goal.field-requires
field-requires c = let l = c.loop-i in (packet-fields c.args.w.now (packets_at + 3 * l.i) written_at (omega arith) (omega arith) l.invariant.2).0

pub field16-requires : goal.field16-requires
field16-requires c = let l = c.loop-i in (packet-fields c.args.w.now (packets_at + 3 * l.i) written_at (omega arith) (omega arith) l.invariant.2).1

pub field16-requires-in-loop-i : goal.field16-requires-in-loop-i
field16-requires-in-loop-i c = let l = c.loop-i in (packet-fields c.args.w.now (packets_at + 3 * l.i) written_at (omega arith) (omega arith) l.invariant.2).2

pub loop-i-preserved : goal.loop-i-preserved
loop-i-preserved c =
    let w : List ℕ = c.args.w.now in
    let l = c.loop-i in
    let at : ℕ = packets_at + 3 * l.i in
    let e : packets_at + 3 * (l.i + 1) ≡ at + 3 = omega arith in (
      l.invariant.0,
      search rules,
      rw e (packet-fields w at written_at (omega arith) (omega arith) l.invariant.2).3,
      rw (c.field.ensures, c.field16.ensures, c.field16-in-loop-i.ensures, e)
          (read_more w l.packets _ l.i at written_at (omega arith) (packet-cons w at written_at (omega arith) (omega arith)) l.invariant.3),
    )

pub returns : goal.returns
returns c =
    let w : List ℕ = c.args.w.now in
    let l = c.loop-i in
    let e : l.i ≡ 64 = omega arith in
    sym (read_all w l.packets 64 written_at l.invariant.1 (omega arith) (rw e at l.invariant.3))
