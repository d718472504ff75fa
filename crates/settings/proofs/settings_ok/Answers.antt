use Rattle.settings.proofs.RangeLaws.{settings-parts}
use Rattle.settings.proofs.settings_ok.Goals as goal

pub returns : goal.returns
returns c = cc (settings-parts c.args.g)
