use mathlib.Core.Path.{◌≡◌, sym, ◌∙◌}
use mathlib.Core.Bool.{false}
use Rattle.plates.specs.Read.{head_of}
use Rattle.plates.proofs.HeadLaws.{head-is, head_by, area-word, other-word}
use Rattle.plates.proofs.heads.head_of.Goals as goal
use Rattle.plates.proofs.heads.head_of.Goals.{After-is_unit, else-n-via-then-n+else-n-2, else-n-via-else-n}

pub returns-then-eq : goal.returns-then-eq
unfolding head_of
returns-then-eq c = rw (area-word c.args.word.now (c.if-eq.ensures ∙ rw c.as_slice.ensures))

-- what the word is by its number, where it is not the word area
head : (c : After-is_unit) → head_of c.args.word.now ≡ head_by false c.number_of-n.result
head c =
    head-is c.args.word.now c.number_of-n.result c.number_of-n.ensures
    ∙ rw (other-word c.args.word.now (c.if-eq.ensures ∙ rw c.as_slice.ensures))

pub returns-then-is_unit : goal.returns-then-is_unit
returns-then-is_unit c = sym (head (goal.at.returns-then-is_unit c).After-is_unit ∙ rw (sym c.if-is_unit.ensures))

pub returns-then-n-2 : goal.returns-then-n-2
returns-then-n-2 c = sym (head (goal.at.returns-then-n-2 c).After-is_unit ∙ rw (sym c.if-is_unit.ensures, c.if-n.true, c.if-n-2.true))

pub returns : goal.returns
returns c =
    let h = head (goal.at.returns c).After-is_unit in
    elim c.else-n.branch [
      | else-n-via-then-n+else-n-2 w ↦ sym (h ∙ rw (sym c.if-is_unit.ensures, w.if-n.true, w.if-n-2.false))
      | else-n-via-else-n w ↦ sym (h ∙ rw (sym c.if-is_unit.ensures, w.if-n.false))
    ]
