-- Every definition of the step rules and of `pair` under one name, for the `unfolding` line of what is proved by computing. Assumes nothing.
use Rattle.rules.proofs.Compute.{all_rules}
use Rattle.text.specs.Line.{split}
use Rattle.text.specs.Decimal.{all_digits, value_from, is_number, digits_before}
use Rattle.text.specs.Feed.{printed_lines}
use Rattle.script.specs.Command.{command_of_words}
use Rattle.script.specs.Pair.{move_done, acknowledge_done, takeover_done, perform}
use Rattle.script.specs.Output.{printed, output_of}

unfoldable pub definitions : Unit {0}
unfolding all_rules split all_digits value_from is_number digits_before command_of_words move_done acknowledge_done takeover_done perform printed printed_lines output_of
definitions = tt
