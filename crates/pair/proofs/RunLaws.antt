-- What all turns come to, from the first state on and whatever parts are read: the laws of text/proofs/TurnLaws.antt at `pair`. Assumes nothing.
use Prim.Native.Nat.{ℕ}
use mathlib.Core.Path.{ap, ◌∙◌}
use mathlib.Core.Bool.{not}
use mathlib.Core.List.{List, flatten}
use Rattle.text.specs.Feed.{ended_lines}
use Rattle.text.proofs.TurnLaws as turns
use Rattle.script.specs.Pair.{pair_start}
use Rattle.script.specs.Output.{pair_program, output_of}
use Rattle.script.proofs.FeedLaws.{kept-right, any-last-is}
use Rattle.pair.specs.Run.{RunRight}

pub run-right : (parts : List (List ℕ)) → RunRight parts
unfolding output_of
run-right parts =
    let r = turns.run-right pair_program kept-right parts in
    record {
      ended = r.ended;
      whole = r.whole;
      more = λ e. r.more e ∙ ap not (any-last-is (ended_lines (flatten parts)) pair_start);
    }
