use Rattle.std.proofs.Common.{◌∙◌, rules}
use Rattle.std.proofs.lemmas.Iterator.{YieldsList-from_slice}
use Rattle.std.proofs.lemmas.Iterator.Consumers.{fold_from_yields_List}
use Rattle.text.specs.Kept.{line_with}
use Rattle.text.proofs.KeptLaws.{kept_fold}
use Rattle.text.proofs.kept.line_with_all.Goals as goal

pub returns : goal.returns
returns c = fold_from_yields_List _ line_with _ _ c.fold.ensures.ran (YieldsList-from_slice c.args.bytes.now c.iter.ensures.rest) (λ a x b q k. search rules) ∙ kept_fold line_with _ _
