use Prim.Native.Nat.{ℕ, ◌+◌, ◌*◌}
use mathlib.Core.Path.{◌≡◌, refl, sym, ap, ◌∙◌}
use mathlib.Core.List.{List}
use mathlib.Core.Bool.{Bool, true, false, ◌&&◌}
use native.Mathlib.Omega.{arith}
use lib.ListN.{get_or}
use Rattle.capi.specs.Word.{fits32, fits16, most32, most16, between}
use Rattle.capi.specs.PrimaryWords.{packets_fit, packets_at, written_at}
use Rattle.capi.proofs.WordLaws.{fits_or, test-end}
use Rattle.capi.proofs.PrimaryWordLaws.{packets-fit-more, packets-fit-end}
use Rattle.capi.proofs.primary_words.packets_fit.Goals as goal

-- the tests of one packet more, each beside those of its kind
one_more : (epochs lengths ports epoch size port rest : Bool)
    → (epochs && epoch) && (lengths && size) && (ports && port) && rest ≡ (epochs && lengths && ports) && (epoch && size && port && rest)
one_more true true true epoch size port rest = refl
one_more false lengths ports epoch size port rest = refl
one_more true false ports true size port rest = refl
one_more true false ports false size port rest = refl
one_more true true false true true port rest = refl
one_more true true false true false port rest = refl
one_more true true false false size port rest = refl

pub loop-i-init : goal.loop-i-init
loop-i-init c = refl

pub loop-i-preserved : goal.loop-i-preserved
loop-i-preserved c =
    let w : List ℕ = c.args.w.now in
    let l = c.loop-i in
    let at : ℕ = packets_at + 3 * l.i in
    let a : ℕ = get_or w at 0 in
    let b : ℕ = get_or w (at + 1) 0 in
    let d : ℕ = get_or w (at + 2) 0 in
    let e : packets_at + 3 * (l.i + 1) ≡ at + 3 = omega arith in
    rw (e, fits_or 32 most32 l.epochs a refl, fits_or 16 most16 l.lengths b refl, fits_or 16 most16 l.ports d refl)
    (one_more (fits32 l.epochs) (fits16 l.lengths) (fits16 l.ports) (fits32 a) (fits16 b) (fits16 d) (packets_fit (between (at + 3) written_at w))
    ∙ ap (λ (x : Bool). (fits32 l.epochs && fits16 l.lengths && fits16 l.ports) && x) (sym (packets-fit-more w at written_at (omega arith) (omega arith))) ∙ l.invariant)

pub returns : goal.returns
returns c =
    let w : List ℕ = c.args.w.now in
    let l = c.loop-i in
    let at : ℕ = packets_at + 3 * l.i in
    sym (test-end (fits32 l.epochs && fits16 l.lengths && fits16 l.ports) (packets_fit (between at written_at w)) (packets-fit-end w at written_at (omega arith) (omega arith))) ∙ l.invariant
