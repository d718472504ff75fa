use Prim.Native.Nat.{ℕ}
use mathlib.Core.Path.{◌≡◌, refl, ◌∙◌}
use mathlib.Core.List.{List}
use native.Mathlib.Omega.{arith}
use lib.ListN.{length}
use lib.Seq.{take_all}
use Rattle.lists.specs.Part.{part}
use Rattle.capi.specs.PrimaryWords.{written_at, written_in, primary_of}
use Rattle.capi.proofs.WordLaws.{part-turn, part_end}
use Rattle.capi.proofs.PrimaryWordLaws.{primary-many, numbers-many, written-field}
use borrow.Author.Rules.{rules}
use Rattle.capi.proofs.primary_words.numbers_of.Goals as goal

pub loop-i-init : goal.loop-i-init
loop-i-init c = (primary-many _ c.requires, search rules, refl)

pub field16-requires : goal.field16-requires
field16-requires c = written-field _ c.loop-i.i c.requires (omega arith)

pub loop-i-preserved : goal.loop-i-preserved
loop-i-preserved c =
    let w : List ℕ = c.args.w.now in
    let l = c.loop-i in (
      l.invariant.0,
      search rules,
      rw c.field16.ensures (part-turn w l.numbers written_at 64 l.i 0 (omega arith) (omega arith) (omega arith) l.invariant.2),
    )

pub returns : goal.returns
unfolding part primary_of
returns c =
    let w : List ℕ = c.args.w.now in
    let l = c.loop-i in
    let e : l.i ≡ 64 = omega arith in
    let n : length (written_in w) ≡ 64 = numbers-many w c.requires in
    part_end w l.numbers written_at 64 l.invariant.1 (rw e at l.invariant.2) ∙ take_all 64 (written_in w) (omega arith)
