-- `primary_words::store_packet` meets its contract. That the packet's fields fit, their type gives. Assumes nothing.
use Prim.Native.Nat.{◌<◌}
use mathlib.Core.Path.{◌≡◌}
use mathlib.Core.List.{[], ◌∷◌}
use mathlib.Core.Bool.{true}
use Rattle.capi.specs.PrimaryWords.{packet_words, packets_fit}
use Rattle.capi.proofs.WordLaws.{three-put}
use Rattle.capi.proofs.PrimaryWordLaws.{fits-packet}
use native.Mathlib.Omega.{arith}
use lib.ListN.{length-set}
use borrow.Author.Rules.{rules}
use Rattle.capi.proofs.primary_words.store_packet.Goals as goal
use Rattle.capi.proofs.primary_words.store_packet.Goals.{Start}

low : (c : Start) → packets_fit (packet_words (c.args.k ∷ [])) ≡ true
low c =
    let k = c.args.k in
    let epoch : k.epoch < 4294967296 = search rules in
    let size : k.length < 65536 = search rules in
    let port : k.port < 65536 = search rules in
    fits-packet k epoch size port

pub bounds-w-at-2 : goal.bounds-w-at-2
bounds-w-at-2 c = simp length-set (omega arith)

pub bounds-w-at-3 : goal.bounds-w-at-3
bounds-w-at-3 c = simp length-set (omega arith)

pub returns : goal.returns
unfolding packet_words
returns c =
    let s = c in
    let k = s.args.k in
    record {
      w_after = three-put s.args.w.now s.args.at k.epoch k.length k.port (search rules);
      k_value = low (goal.at.returns c).Start;
    }
