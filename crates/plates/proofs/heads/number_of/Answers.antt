use mathlib.Core.Path.{sym, ◌∙◌}
use native.Mathlib.Omega.{arith}
use native.Mathlib.Numerals.{add-one}
use Rattle.text.specs.Kept.{number_with}
use Rattle.text.proofs.KeptLaws.{kept_next, kept-done}
use Rattle.plates.proofs.heads.number_of.Goals as goal

pub loop-byte-preserved : goal.loop-byte-preserved
loop-byte-preserved c =
    let at = c.loop-byte in
    at.invariant ∙ kept_next number_with at.number c.args.word.now at.byte-index (omega arith) ∙ rw (c.number_with-number.ensures, add-one at.byte-index)

pub returns : goal.returns
returns c =
    let at = c.loop-byte in
    sym (at.invariant ∙ kept-done number_with at.number c.args.word.now at.byte-index (omega arith))
