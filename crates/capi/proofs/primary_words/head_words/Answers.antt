-- `primary_words::head_words` meets its contract. That the fields of 32 bits fit, their type gives. Assumes nothing.
use Prim.Native.Nat.{◌<◌}
use mathlib.Core.Path.{◌≡◌}
use mathlib.Core.Bool.{true}
use Rattle.capi.specs.Word.{most32, all_fit32, between}
use Rattle.capi.specs.PrimaryWords.{head_words}
use Rattle.capi.proofs.WordLaws.{fits-none, fits-cons, flag_is}
use borrow.Author.Rules.{rules}
use Rattle.capi.proofs.primary_words.head_words.Goals as goal
use Rattle.capi.proofs.primary_words.head_words.Goals.{Start}

low : (c : Start) → all_fit32 (between 6 10 (head_words c.args.p)) ≡ true
unfolding head_words
low c =
    let p = c.args.p in
    let patience : p.detector.patience < 4294967296 = search rules in
    let count : p.detector.count < 4294967296 = search rules in
    let epoch : p.epoch < 4294967296 = search rules in
    let acknowledged : p.acknowledged < 4294967296 = search rules in
    fits-cons most32 _ _ patience (fits-cons most32 _ _ count (fits-cons most32 _ _ epoch (fits-cons most32 _ _ acknowledged (fits-none most32))))

pub returns : goal.returns
unfolding head_words
returns c =
    record {
      value = rw (c.from.ensures, flag_is c.args.p.alone);
      result_value = low (goal.at.returns c).Start;
    }
