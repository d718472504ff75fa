-- `checkpoints::judge::is_in` meets its contract. Assumes nothing.
use Rattle.std.proofs.Common.{rules, tests}
use Rattle.std.proofs.lemmas.Iterator.{YieldsList-from_slice}
use Rattle.std.proofs.lemmas.Iterator.Search.{any_from_yields_List}
use lib.Dec.{eqb}
use mathlib.Core.Path.{◌∙◌}
use Rattle.checkpoints.specs.declared.KeptBlock.{KeptBlock}
use Rattle.checkpoints.proofs.PlaceLaws.{any-in}
use Rattle.checkpoints.proofs.judge.is_in.Goals as goal

pub returns : goal.returns
returns c =
    any_from_yields_List (λ (b : KeptBlock). eqb b.number c.args.n) _ _ _ c.any.ensures.ran (YieldsList-from_slice c.args.blocks.now cc) (λ x b q k. search (rules, tests))
    ∙ any-in c.args.n c.args.blocks.now
