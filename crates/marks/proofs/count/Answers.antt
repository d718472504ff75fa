use Prim.Native.Nat.{ℕ, ◌+◌, ◌*◌, ◌%◌, ◌^◌, ◌-◌}
use mathlib.Core.Path.{◌≡◌, sym, ap, ◌∙◌}
use native.Mathlib.Omega.{arith}
use lib.Bits.{bit_and}
use lib.Count.{ones}
use lib.Pow.{pow_pos}
use lib.ListN.{get_or, length, take}
use lib.Seq.{get_or-take, length-take-le}
use Rattle.marks.specs.Mark.{count_marks}
use Rattle.marks.proofs.BitLaws.{shifted_one, low_mask}
use Rattle.marks.proofs.MarkLaws.{count-zero, count-le}
use Rattle.marks.proofs.WordLaws.{count-whole, count-last, count-all}
use Rattle.marks.proofs.count.Goals as goal
use Rattle.marks.proofs.count.Goals.{In-loop-word}

pub loop-word-init : goal.loop-word-init
loop-word-init c = sym (count-zero _)

-- one word more
one_more : (c : In-loop-word) → let i = c.loop-word.word-index in
    c.loop-word.n + ones (get_or (take c.min-whole.result c.args.ws.now) i 0) ≡ count_marks c.args.ws.now (64 * (i + 1))
one_more c =
    let ws = c.args.ws.now in
    let i = c.loop-word.word-index in
    let whole = length-take-le c.min-whole.result ws (omega arith) in
    rw (c.loop-word.invariant, get_or-take c.min-whole.result ws i 0 (omega (arith, whole))) (sym (count-whole ws i (c.type_inv.ws i).fits))

pub overflow_add-n : goal.overflow_add-n
overflow_add-n c =
    let ws = c.args.ws.now in
    let more = one_more (goal.at.overflow_add-n c).In-loop-word in
    record { fits = omega (arith, more, count-le ws (64 * (c.loop-word.word-index + 1)), length-take-le c.min-whole.result ws (omega arith)) }

pub loop-word-preserved : goal.loop-word-preserved
loop-word-preserved c = one_more (goal.at.loop-word-preserved c).In-loop-word

pub overflow_sub-result : goal.overflow_sub-result
overflow_sub-result c = rw (shifted_one (c.args.m % 64) (omega arith)) (pow_pos _)

pub returns-in-Some : goal.returns-in-Some
returns-in-Some c =
    let a = c.args in
    let whole = c.min-whole.result in
    let there = c.in-Some.ensures.lookup.3 in
    let i : c.loop-word.word-index ≡ whole = omega (arith, length-take-le whole a.ws.now (omega arith)) in
    let low = ap ones (ap (λ (w : ℕ). bit_and w ((1 * 2 ^ (a.m % 64)) % 2 ^ 64 - 1)) (there.1 0) ∙ low_mask (get_or a.ws.now whole 0) (a.m % 64) (omega arith)) in
    omega (arith, rw i at c.loop-word.invariant, count-last a.ws.now whole a.m (omega (arith, there.0)), low)

pub overflow_add-result : goal.overflow_add-result
overflow_add-result c = record { fits = omega (arith, returns-in-Some c, count-le c.args.ws.now c.args.m) }

pub returns-in-None : goal.returns-in-None
returns-in-None c =
    let a = c.args in
    let i : c.loop-word.word-index ≡ length a.ws.now = omega (arith, length-take-le c.min-whole.result a.ws.now (omega arith), c.in-None.ensures.lookup.3) in
    rw i at c.loop-word.invariant ∙ count-all a.ws.now a.m (omega (arith, c.in-None.ensures.lookup.3))
