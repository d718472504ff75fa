use Prim.Native.Nat.{◌+◌}
use mathlib.Core.Path.{refl, sym, ap, ◌∙◌}
use mathlib.Core.Bool.{Bool, ◌&&◌, and_assoc}
use native.Mathlib.Omega.{arith}
use lib.ListN.{get_or}
use Rattle.capi.specs.Word.{most32, fits32, all_fit32, between}
use Rattle.capi.proofs.WordLaws.{fits_more, fits-end, test-end}
use Rattle.capi.proofs.word.all_fit32.Goals as goal

pub loop-i-init : goal.loop-i-init
loop-i-init c = refl

pub loop-i-preserved : goal.loop-i-preserved
loop-i-preserved c =
    let a = c.args in
    let l = c.loop-i in
    and_assoc l.low (fits32 (get_or a.w.now l.i 0)) (all_fit32 (between (l.i + 1) a.to a.w.now))
    ∙ ap (λ (x : Bool). l.low && x) (sym (fits_more most32 a.w.now l.i a.to (omega arith) (omega arith))) ∙ l.invariant

pub returns : goal.returns
returns c =
    let a = c.args in
    let l = c.loop-i in
    sym (test-end l.low (all_fit32 (between l.i a.to a.w.now)) (fits-end most32 a.w.now l.i a.to (omega arith) (omega arith))) ∙ l.invariant
