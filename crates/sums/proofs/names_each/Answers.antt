use Prim.Native.Nat.{ℕ, ◌+◌}
use mathlib.Core.Path.{sym, subst, ◌∙◌}
use mathlib.Core.List.{List}
use mathlib.Core.Logic.{⊎_elim}
use borrow.Author.Tests.{eq-eqb, ne_eqb}
use Rattle.lists.proofs.TestLaws.{refuted, eq-or-ne}
use Rattle.marks.specs.Mark.{count_marks}
use Rattle.sums.proofs.OrderLaws.{names-facts}
use Rattle.sums.proofs.NamedLaws.{Named, named_none, named_more, named-names, named-not}
use Rattle.sums.proofs.names_each.Goals as goal

pub returns-then-order-m : goal.returns-then-order-m
returns-then-order-m c = refuted _ (λ e. c.if-order-m.true (names-facts _ _ e).count)

pub loop-p-init : goal.loop-p-init
loop-p-init c = named_none 1024 _

pub slice_bounds-mark-end : goal.slice_bounds-mark-end
slice_bounds-mark-end c = sym c.loop-p.invariant.size

pub loop-p-preserved : goal.loop-p-preserved
loop-p-preserved c =
    let a = c.args in
    let at = c.loop-p in
    subst (λ (ws : List ℕ). Named 1024 a.order.now ws (at.p-index + 1)) (sym c.mark.ensures)
    (named_more 1024 a.order.now at.named at.p-index at.invariant c.loop-p-test.true)

pub slice_bounds-count-end : goal.slice_bounds-count-end
slice_bounds-count-end c = sym c.loop-p.invariant.size

pub returns : goal.returns
returns c =
    let a = c.args in
    let at = c.loop-p in
    ⊎_elim
    (λ e. eq-eqb _ _ (c.count.ensures ∙ e) ∙ sym (named-names 1024 a.order.now at.named at.p-index at.invariant c.loop-p-test.false a.m c.if-order-m.false c.requires e))
    (λ ne. ne_eqb _ _ (λ e. ne (sym c.count.ensures ∙ e)) ∙ named-not 1024 a.order.now at.named at.p-index at.invariant c.loop-p-test.false a.m c.if-order-m.false c.requires ne)
    (eq-or-ne (count_marks at.named a.m) a.m)
