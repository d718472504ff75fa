-- `marks::set_first` meets its contract: the whole words are filled with ones, then the low bits of the next word are set.
use Prim.Native.Nat.{◌%◌, ◌*◌}
use mathlib.Core.Path.{◌≡◌, ap, ◌∙◌}
use mathlib.Core.List.{◌++◌}
use native.Mathlib.Omega.{arith}
use lib.Pow.{pow_pos}
use borrow.Author.Rules.{rules}
use lib.ListN.{length, drop}
use Rattle.marks.specs.Mark.{all_marked}
use Rattle.marks.proofs.BitLaws.{shifted_one}
use Rattle.marks.proofs.SetLaws.{length-all-marked}
use Rattle.marks.proofs.WordLaws.{set-words, set_last, set_all}
use Rattle.marks.proofs.set_first.Goals as goal
use Rattle.marks.proofs.set_first.Goals.{After-fill}

words : (c : After-fill) → c.fill.new.self ++ drop c.min-whole.result c.args.ws.now ≡ all_marked c.args.ws.now (64 * c.min-whole.result)
words c = set-words c.args.ws.now c.min-whole.result c.fill.new.self (omega arith) (λ j. search rules) (c.fill.ensures.after (λ y e. e))

pub overflow_sub-ws : goal.overflow_sub-ws
overflow_sub-ws c = rw (shifted_one (c.args.m % 64) (omega arith)) (pow_pos _)

pub returns-then-whole-ws : goal.returns-then-whole-ws
returns-then-whole-ws c =
    let ws = c.args.ws.now in
    let i = c.min-whole.result in
    let done = words (goal.at.returns-then-whole-ws c).After-fill in
    let size = ap length done ∙ length-all-marked ws (64 * i) in
    rw done (set_last ws i c.args.m (omega (arith, size)) (omega (arith, size)))

pub returns-else-whole-ws : goal.returns-else-whole-ws
returns-else-whole-ws c =
    let ws = c.args.ws.now in
    let i = c.min-whole.result in
    let done = words (goal.at.returns-else-whole-ws c).After-fill in
    let all : i ≡ length ws = omega (arith, ap length done ∙ length-all-marked ws (64 * i)) in
    done ∙ rw all (set_all ws c.args.m (omega arith))
