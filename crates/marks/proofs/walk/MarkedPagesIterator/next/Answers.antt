use Prim.Native.Nat.{◌+◌, ◌-◌, ◌^◌, ◌<◌}
use mathlib.Core.Path.{◌≡◌, sym, ◌∙◌}
use mathlib.Core.List.{[], ◌∷◌}
use native.Mathlib.Omega.{arith}
use borrow.Author.Rules.{rules}
use Rattle.std.proofs.lemmas.List.{nil_from_length}
use Rattle.marks.specs.Next.{marked_from}
use Rattle.marks.proofs.WalkLaws.{ends-in-word, ends-below, steps, ends, from_behind}
use Rattle.marks.proofs.walk.MarkedPagesIterator.next.Goals as goal

pub returns-then-self-le64-clause-steps : goal.returns-then-self-le64-clause-steps
returns-then-self-le64-clause-steps c =
    let s = c.loop-self.self-inside in
    let none : marked_from s.base (s.word ∷ s.words.now) (s.m - s.base) ≡ [] = rw c.loop-self-test.true (ends-in-word s.base s.words.now (s.m - s.base) c.if-self-le64.true) in
    (sym c.loop-self.invariant.1 ∙ none, none)

pub returns-in_err-first-clause-steps : goal.returns-in_err-first-clause-steps
returns-in_err-first-clause-steps c =
    let s = c.loop-self.self-inside in
    let words : s.words.now ≡ [] = nil_from_length s.words.now c.in_err-first.ensures.cases in
    let none : marked_from s.base (s.word ∷ s.words.now) (s.m - s.base) ≡ [] = rw (c.loop-self-test.true, words) (ends s.base (s.m - s.base)) in
    rw c.from_residual.ensures (sym c.loop-self.invariant.1 ∙ none, none)

pub loop-self-preserved : goal.loop-self-preserved
loop-self-preserved c =
    let s = c.loop-self.self-inside in
    let behind = from_behind s.base s.words.now (s.m - s.base) (omega arith) in
    let rest : s.m - s.base - 64 ≡ s.m - (s.base + 64) = omega arith in
    (omega arith, rw (← rest, ← c.in_ok-first.ensures.cases.0, ← behind, ← c.loop-self-test.true) c.loop-self.invariant.1)

pub returns-then-self-below-clause-steps : goal.returns-then-self-below-clause-steps
returns-then-self-below-clause-steps c =
    let s = c.loop-self.self-inside in
    let none = ends-below s.base s.words.now (s.m - s.base) s.word (omega arith) in
    (sym c.loop-self.invariant.1 ∙ none, none)

pub returns-clause-steps : goal.returns-clause-steps
returns-clause-steps c =
    let s = c.loop-self.self-inside in
    let fits : s.word < 2 ^ 64 = search rules in
    sym c.loop-self.invariant.1 ∙ steps s.base s.words.now (s.m - s.base) s.word (omega arith) fits (omega arith)

pub returns-clause-goes : goal.returns-clause-goes
returns-clause-goes c =
    let e = returns-clause-steps c in
    rw e (search rules)
