-- `marks::clear` meets its contract: the whole words are filled with 0, then the low bits of the next word are shifted out.
use Prim.Native.Nat.{◌*◌}
use mathlib.Core.Path.{◌≡◌, ap, ◌∙◌}
use mathlib.Core.List.{◌++◌}
use native.Mathlib.Omega.{arith}
use borrow.Author.Rules.{rules}
use lib.ListN.{length, drop}
use Rattle.marks.specs.Mark.{cleared}
use Rattle.marks.proofs.MarkLaws.{length-cleared}
use Rattle.marks.proofs.WordLaws.{clear-words, clear-last, clear-all}
use Rattle.marks.proofs.clear.Goals as goal
use Rattle.marks.proofs.clear.Goals.{After-fill}

words : (c : After-fill) → c.fill.new.self ++ drop c.min-whole.result c.args.ws.now ≡ cleared c.args.ws.now (64 * c.min-whole.result)
words c = clear-words c.args.ws.now c.min-whole.result c.fill.new.self (omega arith) (λ j. search rules) (c.fill.ensures.after (λ y e. e))

pub returns-then-whole-ws : goal.returns-then-whole-ws
returns-then-whole-ws c =
    let ws = c.args.ws.now in
    let i = c.min-whole.result in
    let done = words (goal.at.returns-then-whole-ws c).After-fill in
    rw done (clear-last ws i c.args.m (omega (arith, ap length done ∙ length-cleared ws (64 * i))) (λ j. search rules))

pub returns-else-whole-ws : goal.returns-else-whole-ws
returns-else-whole-ws c =
    let ws = c.args.ws.now in
    let i = c.min-whole.result in
    let done = words (goal.at.returns-else-whole-ws c).After-fill in
    let all : i ≡ length ws = omega (arith, ap length done ∙ length-cleared ws (64 * i)) in
    done ∙ rw all (clear-all ws c.args.m (omega arith) (λ j. search rules))
