-- `primary_words::store_packets` meets its contract. The loop's invariant: the packets passed are stored.
-- Assumes nothing.
use mathlib.Core.Path.{◌≡◌}
use mathlib.Core.Bool.{true}
use lib.ListN.{length, take}
use Rattle.lists.specs.Part.{put}
use Rattle.capi.specs.PrimaryWords.{packet_words, packets_at, packets_fit, primary_length}
use Rattle.capi.proofs.primary_words.store_packets.Given as goal

abbrev pub invariant-loop-i : goal.invariant-loop-i
invariant-loop-i l = (length l.w ≡ primary_length) × (l.w ≡ put l.initial.w packets_at (packet_words (take l.i l.packets))) × (packets_fit (packet_words (take l.i l.packets)) ≡ true)
