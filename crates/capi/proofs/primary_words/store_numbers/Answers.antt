use Prim.Native.Nat.{ℕ, ◌+◌}
use mathlib.Core.Path.{◌≡◌, sym, ap, ◌∙◌}
use mathlib.Core.List.{List}
use native.Mathlib.Omega.{arith}
use lib.ListN.{length, take, set, get_or, length-set}
use lib.Seq.{take_all}
use mir.Syntax.{w16}
use mir.Val.{Fits}
use Rattle.capi.specs.Word.{most16}
use Rattle.capi.specs.PrimaryWords.{primary_length, written_at}
use Rattle.capi.proofs.WordLaws.{fits-none, fits-take-more, store-turn, store-none, store-end}
use borrow.Author.Rules.{rules}
use Rattle.capi.proofs.primary_words.store_numbers.Goals as goal

pub loop-i-init : goal.loop-i-init
loop-i-init c = (c.requires, store-none c.args.w.now c.args.numbers written_at, fits-none most16)

pub loop-i-preserved : goal.loop-i-preserved
loop-i-preserved c =
    let a = c.args in
    let l = c.loop-i in
    let ns : List ℕ = a.numbers in
    let n : length ns ≡ 64 = search rules in
    let m : length a.w.now ≡ primary_length = c.requires in
    let low : Fits w16 (get_or ns l.i 0) = search rules in (
      simp length-set l.invariant.0,
      ap (λ (x : List ℕ). set x (written_at + l.i) (get_or ns l.i 0)) l.invariant.1 ∙ store-turn a.w.now ns written_at l.i 0 (omega arith) (omega arith),
      fits-take-more most16 ns l.i (omega arith) l.invariant.2 low.fits,
    )

pub shape_of-w : goal.shape_of-w
shape_of-w c = c.loop-i.invariant.0 ∙ sym c.requires

pub returns : goal.returns
returns c =
    let a = c.args in
    let l = c.loop-i in
    let ns : List ℕ = a.numbers in
    let n : length ns ≡ 64 = search rules in
    let whole : take l.i ns ≡ ns = take_all l.i ns (omega arith) in
    record {
      w_after = l.invariant.1 ∙ store-end a.w.now ns written_at l.i (omega arith);
      numbers_value = rw whole at l.invariant.2;
    }
