use Rattle.std.proofs.Common.{rules, tests}
use Rattle.std.proofs.lemmas.Iterator.{YieldsList-from_slice}
use Rattle.std.proofs.lemmas.Iterator.Search.{position_from_yields_List}
use Rattle.std.specs.List.{position}
use Rattle.std.specs.Option.{unwrap_or}
use Rattle.std.specs.Prelude.{Option, ℕ, ◌≡◌, length}
use lib.Dec.{eqb}
use mathlib.Core.Path.{ap, ◌∙◌}
use Rattle.checkpoints.specs.declared.KeptBlock.{KeptBlock}
use Rattle.checkpoints.proofs.PlaceLaws.{place-searched}
use Rattle.checkpoints.proofs.judge.place_in.Goals as goal
use Rattle.checkpoints.proofs.judge.place_in.Goals.{After-unwrap_or}

found : (c : After-unwrap_or) → c.position.result ≡ position (λ (b : KeptBlock). eqb b.number c.args.n) c.args.blocks.now
found c = position_from_yields_List (λ (b : KeptBlock). eqb b.number c.args.n) _ _ _ c.position.ensures.ran (YieldsList-from_slice c.args.blocks.now cc) (λ x b q k. search (rules, tests))

pub returns : goal.returns
returns c =
    let blocks = c.args.blocks.now in
    c.unwrap_or.ensures
    ∙ ap (λ (o : Option ℕ). unwrap_or o (length blocks)) (found c)
    ∙ place-searched c.args.n blocks
