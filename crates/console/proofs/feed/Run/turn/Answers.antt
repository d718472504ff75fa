-- `console::feed::Run::turn` meets its contract. Assumes nothing.
use Rattle.std.proofs.Common.{◌≡◌, [], ◌∙◌, ap, arith, length, length-take-le, not, refl, rules, take, tests, ◌<◌}
use Rattle.text.specs.Feed.{Reading}
use Rattle.text.proofs.TurnLaws.{end-next, end-put, end_more, part-put, part-more}
use Rattle.console.proofs.feed.Run.turn.Goals as goal

pub returns-then-is_empty-clause-run : goal.returns-then-is_empty-clause-run
returns-then-is_empty-clause-run g c = end-next g.P.LineProgram.program _ [] refl

pub returns-then-is_empty-clause-printed : goal.returns-then-is_empty-clause-printed
returns-then-is_empty-clause-printed g c = end-put g.P.LineProgram.program _ [] refl _ _ _ c.finish-written.ensures.printed

pub returns-then-is_empty-clause-more : goal.returns-then-is_empty-clause-more
returns-then-is_empty-clause-more g c = end_more g.P.LineProgram.program _ [] refl

pub returns-clause-printed : goal.returns-clause-printed
returns-clause-printed g c =
    let e = c.feed-step.ensures in
    let input = c.args.input.now in
    let any : 0 < length input = search (rules, tests) in
    let some : length (take c.feed-step.result.read input) ≡ 0 → ⊥ = λ z. omega (arith, z, length-take-le c.feed-step.result.read input e.bounds.0, e.bounds.1 any) in
    part-put g.P.LineProgram.program _ _ some _ _ _ e.printed

pub returns-clause-more : goal.returns-clause-more
returns-clause-more g c =
    let e = c.feed-step.ensures in
    let input = c.args.input.now in
    let any : 0 < length input = search (rules, tests) in
    let some : length (take c.feed-step.result.read input) ≡ 0 → ⊥ = λ z. omega (arith, z, length-take-le c.feed-step.result.read input e.bounds.0, e.bounds.1 any) in
    ap (λ (r : Reading g.P.LineProgram.State g.P.LineProgram.Kept). not r.over) e.run ∙ part-more g.P.LineProgram.program _ _ some
