use Prim.Native.Nat.{ℕ, ◌+◌}
use mathlib.Core.Path.{refl, sym, ap, ◌∙◌}
use mathlib.Core.List.{List}
use mathlib.Core.Bool.{Bool, ◌&&◌, and_assoc}
use native.Mathlib.Omega.{arith}
use lib.ListN.{get_or}
use Rattle.capi.specs.Word.{fits16, all_fit16, most16, between}
use Rattle.capi.specs.PrimaryWords.{written_at, primary_length}
use Rattle.capi.proofs.WordLaws.{fits_more, fits-end, fits_or, test-end, between-all}
use Rattle.capi.proofs.primary_words.numbers_fit.Goals as goal

pub loop-i-init : goal.loop-i-init
loop-i-init c = ap all_fit16 (between-all c.args.w.now written_at primary_length (omega arith))

pub loop-i-preserved : goal.loop-i-preserved
loop-i-preserved c =
    let w : List ℕ = c.args.w.now in
    let l = c.loop-i in
    let n : ℕ = get_or w l.i 0 in
    rw (fits_or 16 most16 l.numbers n refl)
    (and_assoc (fits16 l.numbers) (fits16 n) (all_fit16 (between (l.i + 1) primary_length w))
    ∙ ap (λ (x : Bool). fits16 l.numbers && x) (sym (fits_more most16 w l.i primary_length (omega arith) (omega arith))) ∙ l.invariant)

pub returns : goal.returns
returns c =
    let w : List ℕ = c.args.w.now in
    let l = c.loop-i in
    sym (test-end (fits16 l.numbers) (all_fit16 (between l.i primary_length w)) (fits-end most16 w l.i primary_length (omega arith) (omega arith))) ∙ l.invariant
