-- `text::lines::part_end` meets its contract: the first place where the separator stands. Assumes nothing.
use Rattle.std.proofs.Common.{◌≡◌, ℕ, Bool, ◌+◌, ◌-◌, ◌≤◌, ◌∙◌, arith, length-drop, sym, ap, rules, tests, eqb, not, length, drop}
use Rattle.std.specs.List.{position_or_len}
use Rattle.std.proofs.lemmas.Iterator.{YieldsList-from_slice}
use Rattle.std.proofs.lemmas.Iterator.Search.{position_from_yields_List}
use lib.Seq.{take_all}
use Rattle.std.specs.Option.{unwrap_or}
use Rattle.std.proofs.lemmas.List.Sums.{prefix_len-le-length}
use Rattle.text.specs.Line.{first_part}
use Rattle.text.proofs.LineLaws.{part-behind, length-first, found-or}
use Rattle.text.proofs.lines.part_end.Goals as goal

pub returns : goal.returns
returns c =
    let xs = c.in-Some.behind.now in
    let p : ℕ → Bool = λ b. eqb b c.args.separator in
    let found = position_from_yields_List p _ _ c.position-found.result c.position-found.ensures.ran (YieldsList-from_slice xs c.iter.ensures.rest) (λ x b q k. search (rules, tests)) in
    let s = c.args.s.now in
    let is : xs ≡ drop c.args.from s = c.in-Some.ensures.lookup.0.2 ∙ take_all (length s - c.args.from) (drop c.args.from s) (omega (arith, length-drop c.args.from s)) in
    let last : c.unwrap_or.result ≡ position_or_len p xs = c.unwrap_or.ensures ∙ ap (λ o. unwrap_or o (length xs)) found ∙ found-or _ _ (prefix_len-le-length (λ x. not (p x)) xs) in
    ap (λ n. c.args.from + n) (last ∙ sym (length-first c.args.separator xs) ∙ ap (λ l. length (first_part c.args.separator l)) is)

pub returns-in_default : goal.returns-in_default
returns-in_default c =
    let s = c.args.s.now in
    let long : length s ≤ c.args.from = omega (arith, c.in_default.ensures.lookup.0) in
    omega (arith, ap length (part-behind c.args.separator s c.args.from long))
