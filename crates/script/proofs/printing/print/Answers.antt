-- `script::printing::print` meets its contract. Assumes nothing.
use Rattle.script.proofs.PrintLaws.{printed-put}
use Rattle.script.proofs.printing.print.Goals as goal

pub returns : goal.returns
returns c =
    let f = c in
    let e = c in
    let d = c in
    let n = c in
    let b = c in
    let a = c in
    let told = printed-put _ _ _ _ _ _ _ _ _ _ _ _ _ _ _ _ _ a.requires n.put_number-c.ensures.lower_bound.1 e.put_number-e.ensures.lower_bound.1
    a.put_byte-a.ensures b.put_byte-b.ensures n.put_number-c.ensures.put_done d.put_byte-d.ensures e.put_number-e.ensures.put_done f.put_byte.ensures in
    record {
      put_done = told.0;
      upper_bound = told.1;
    }
