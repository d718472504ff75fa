-- Every definition of the step rules and of the plain pair under one name, for the `unfolding` line of what is proved by computing. Assumes nothing.
use Rattle.rules.proofs.Compute.{all_rules}
use Rattle.runs.specs.Plain.{plain_accepted, plain_step}

unfoldable pub all_steps : Unit {0}
unfolding all_rules plain_accepted plain_step
all_steps = tt
