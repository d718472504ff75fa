-- `trials::printing::put_last` meets its contract. Assumes nothing.
use Rattle.trials.proofs.PrintLaws.{last-put}
use Rattle.trials.proofs.printing.put_last.Goals as goal

pub returns : goal.returns
returns c =
    let told = last-put _ _ _ _ _ _ _ c.requires c.put_number-a.ensures.lower_bound.1 c.put_number-a.ensures.put_done c.put_byte.ensures in
    record {
      put_done = told.0;
      upper_bound = told.1;
    }
