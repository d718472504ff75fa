-- `trials::printing::put_tick` meets its contract. Assumes nothing.
use Rattle.trials.proofs.PrintLaws.{tick-put}
use Rattle.trials.proofs.printing.put_tick.Goals as goal

pub returns : goal.returns
returns c =
    let told = tick-put c.args.s _ _ _ _ _ _ _ _ _ _ _ _ _ _ c.requires c.put_number-a.ensures.lower_bound.1 c.put_number-c.ensures.lower_bound.1
    c.put_number-e.ensures.lower_bound.1 c.put_number-a.ensures.put_done c.put_byte-b.ensures c.put_number-c.ensures.put_done c.put_byte-d.ensures
    c.put_number-e.ensures.put_done c.put_byte.ensures in
    record {
      put_done = told.0;
      upper_bound = told.1;
    }
