-- `standby_words::first_words` meets its contract. That the fields of 32 bits fit, their type gives. Assumes nothing.
use Prim.Native.Nat.{◌<◌}
use mathlib.Core.Path.{◌≡◌}
use mathlib.Core.Bool.{true, ◌&&◌}
use native.Mathlib.Omega.{arith}
use lib.ListN.{get_or}
use borrow.Author.Tests.{le-leb}
use Rattle.lists.proofs.TestLaws.{join}
use Rattle.capi.specs.Word.{fits32, all_fit32, between, most32}
use Rattle.capi.specs.StandbyWords.{first_words}
use Rattle.capi.proofs.WordLaws.{fits-none, fits-cons}
use borrow.Author.Rules.{rules}
use Rattle.capi.proofs.standby_words.first_words.Goals as goal
use Rattle.capi.proofs.standby_words.first_words.Goals.{Start}

low : (c : Start) → (all_fit32 (between 5 7 (first_words c.args.s)) && fits32 (get_or (first_words c.args.s) 8 0)) ≡ true
unfolding first_words
low c =
    let s = c.args.s in
    let patience : s.detector.patience < 4294967296 = search rules in
    let count : s.detector.count < 4294967296 = search rules in
    let received : s.received < 4294967296 = search rules in
    join _ _ (fits-cons most32 _ _ patience (fits-cons most32 _ _ count (fits-none most32))) (le-leb s.received most32 (omega arith))

pub returns : goal.returns
unfolding first_words
returns c =
    record {
      value = rw c.mode_word.ensures;
      result_value = low (goal.at.returns c).Start;
    }
