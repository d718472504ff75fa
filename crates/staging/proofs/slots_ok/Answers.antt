-- `staging::slots_ok` meets its contract. Assumes nothing.
use mathlib.Core.Path.{◌≡◌, ap, ◌∙◌}
use native.Mathlib.Omega.{arith}
use lib.ListN.{length}
use lib.Seq.{take_all}
use borrow.Author.Tests.{le-leb}
use borrow.Author.Rules.{rules}
use Rattle.lists.proofs.TestLaws.{refuted}
use Rattle.staging.specs.Slot.{numbers_ok, slots_ok}
use Rattle.staging.proofs.SlotLaws.{slots-tests}
use Rattle.staging.proofs.slots_ok.Goals as goal

pub returns-then-s-staged : goal.returns-then-s-staged
returns-then-s-staged c = refuted _ (λ e. let f = slots-tests _ _ _ e in omega arith)

pub returns-then-staged-k : goal.returns-then-staged-k
returns-then-staged-k c = refuted _ (λ e. let f = slots-tests _ _ _ e in omega arith)

pub returns-then-staged-gt-MOST_SLOTS : goal.returns-then-staged-gt-MOST_SLOTS
unfolding slots_ok
returns-then-staged-gt-MOST_SLOTS c =
    let a = c.args in
    let h : length a.k.numbers ≡ 64 = search rules in
    simp (le-leb a.k.staged a.s (omega arith), le-leb a.k.due a.k.staged (omega arith), take_all a.k.staged a.k.numbers (omega arith))
    (c.numbers_ok.ensures ∙ ap (numbers_ok a.d) (take_all 64 a.k.numbers (omega arith)))

pub returns : goal.returns
unfolding slots_ok
returns c =
    let a = c.args in
    simp (le-leb a.k.staged a.s (omega arith), le-leb a.k.due a.k.staged (omega arith)) c.numbers_ok-2.ensures
