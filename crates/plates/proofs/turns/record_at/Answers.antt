-- `plates::turns::record_at` meets its contract. Assumes nothing.
use mathlib.Core.Path.{ap, ◌∙◌}
use Rattle.records.specs.declared.Reader.TheVariants.{Test}
use Rattle.records.specs.Read.{read_record}
use Rattle.plates.proofs.PlateLaws.{lent-rest}
use Rattle.plates.proofs.turns.record_at.Goals as goal

pub returns : goal.returns
returns c = c.read.ensures ∙ ap (read_record Test _) (lent-rest c.args.place c.args.bytes.now)
