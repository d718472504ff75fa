-- `script::commands::command_of` meets its contract. Assumes nothing.
use mathlib.Core.Path.{sym}
use Rattle.script.proofs.CommandLaws.{byte_fits}
use Rattle.script.proofs.commands.command_of.Goals as goal

pub overflow_cast-result-in-2-eq99 : goal.overflow_cast-result-in-2-eq99
overflow_cast-result-in-2-eq99 c = byte_fits c.args.l.first (sym c.if-number_is-2.ensures)
