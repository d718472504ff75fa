-- `script::link::drain_behind` meets its contract. Assumes nothing.
use Rattle.script.proofs.LinkLaws.{drain-behind}
use Rattle.script.proofs.link.drain_behind.Goals as goal

pub returns : goal.returns
returns c =
    let d = c in
    let told = drain-behind _ _ _ _ _ d.requires _ _ _ (d.drain.ensures.value, (d.drain.ensures.stream_after, d.drain.ensures.destination_after)) in
    record {
      value = told.0;
      stream_after = told.1.0;
      link_after = told.1.1;
    }
