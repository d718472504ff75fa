use mathlib.Core.Path.{◌∙◌}
use mathlib.Core.List.{append-nil}
use native.Mathlib.Omega.{arith}
use Rattle.lists.proofs.PageLaws.{page-end}
use Rattle.marks.proofs.WalkLaws.{page-of}
use Rattle.pages.proofs.InstallLaws.{copied-all}
use Rattle.pages.proofs.install.Goals as goal

pub install_one-requires : goal.install_one-requires
install_one-requires c =
    let a = c.args in
    let p = c.in-Some.page in
    let of = page-of a.marks.now a.m c.loop-page.yielded c.next.new.self p (rw c.in-Some.ensures.steps at c.loop-page.invariant.0) in
    let e = page-end p a.m a.u of.within in
    (omega (arith, e), omega (arith, e))

pub returns : goal.returns
returns c =
    let a = c.args in
    let all = rw (c.in-None.ensures.steps.0, append-nil) at c.loop-page.invariant.0 in
    c.loop-page.invariant.1 ∙ rw (← all) (copied-all a.memory.now a.staged.now a.marks.now a.u a.m c.requires.0 c.requires.1)
