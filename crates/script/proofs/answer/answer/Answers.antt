-- `script::answer::answer` meets its contract. Assumes nothing.
use mathlib.Core.Path.{refl}
use Rattle.script.specs.Site.{world_of}
use Rattle.script.proofs.AnswerLaws.{answer-is}
use Rattle.script.proofs.answer.answer.Goals as goal

pub returns : goal.returns
returns c =
    let p = c.print-length in
    let d = c in
    let start = c in
    let told = answer-is (world_of start.args.s) start.args.l _ _ _ _ _ _ d.command_of-c.ensures d.letter_of.ensures d.perform-done.ensures p.ensures.put_done p.ensures.upper_bound refl in
    record {
      site_value = told.0;
      last_value = told.1.0;
      bytes_value = told.1.1;
    }
