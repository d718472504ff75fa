-- `console::input::Input::consume` meets its contract. Assumes nothing.
use Rattle.std.proofs.Common.{◌≡◌, ◌+◌, ◌-◌, ◌∙◌, sym, ap, arith, drop, take}
use Rattle.std.proofs.lemmas.List.{drop-drop}
use Rattle.lists.proofs.PartLaws.{drop-take}
use Rattle.console.proofs.input.Input.consume.Goals as goal

pub returns : goal.returns
returns g c =
    let i = c.self.inside in
    let n : i.to - (i.from + c.args.n) ≡ i.to - i.from - c.args.n = omega arith in
    let e = sym (drop-take c.args.n (i.to - i.from) (drop i.from i.bytes) ∙ ap (take (i.to - i.from - c.args.n)) (drop-drop c.args.n i.from i.bytes)) in
    rw (← c.self.view_is) (ap (λ k. take k (drop (i.from + c.args.n) i.bytes)) n ∙ e)
