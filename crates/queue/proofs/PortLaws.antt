-- Two queues in range that hold the same packets of a port: both have its oldest or neither, the same one with the same
-- bytes. Assumes nothing.
use mathlib.Core.Path.{◌≡◌, sym, ap, ◌∙◌}
use mathlib.Core.Bool.{true}
use mathlib.Core.List.{List}
use Prim.Native.Nat.{ℕ, ◌<◌}
use native.Mathlib.Omega.{arith}
use lib.ListN.{length, get_or}
use borrow.Author.Tests.{ltb-true, lt-ltb}
use Rattle.lists.proofs.TestLaws.{agree}
use Rattle.settings.specs.Range.{most_packets}
use Rattle.queue.specs.declared.Queue.{Queue}
use Rattle.queue.specs.Held.{oldest_at, has_packet, oldest, queue_ok, packet_bytes}
use Rattle.queue.specs.HeldList.{Held, held_list, held_of}
use Rattle.queue.proofs.HeldLaws.{length-packet-bytes, port-some, oldest-first}

-- a queue in range, and the bytes held
pub record Holding (epoch q : ℕ) (k : Queue) (held : List ℕ) : Type 0 where
  pub array : length k.packets ≡ most_packets
  pub ok : queue_ok k epoch q ≡ true
  pub size : length held ≡ q

module _ (epoch q port : ℕ) where
  -- where the port has an oldest, one of its packets is held
  some-held : (k : Queue) (held : List ℕ) → Holding epoch q k held → oldest_at k port < k.count → 0 < length (held_of port (held_list k held))
  some-held k held h some = omega (arith, ap length (oldest-first k h.array epoch q h.ok held h.size port some))

  has-also : (k k' : Queue) (held held' : List ℕ) → Holding epoch q k held → Holding epoch q k' held'
      → held_of port (held_list k' held') ≡ held_of port (held_list k held) → has_packet k port ≡ true → has_packet k' port ≡ true
  has-also k k' held held' h h' same e =
      let some = some-held k held h (ltb-true (oldest_at k port) k.count e) in
      lt-ltb (oldest_at k' port) k'.count (port-some k' h'.array epoch q h'.ok held' h'.size port (omega (arith, some, ap length same)))

  module _ (k k' : Queue) (held held' : List ℕ) (h : Holding epoch q k held) (h' : Holding epoch q k' held') (same : held_of port (held_list k' held') ≡ held_of port (held_list k held)) where
    pub same_some : has_packet k' port ≡ has_packet k port
    same_some = agree (has_packet k' port) (has_packet k port) (has-also k' k held' held h' h (sym same)) (has-also k k' held held' h h' same)

    module _ (e : has_packet k port ≡ true) where
      some : oldest_at k port < k.count
      some = ltb-true (oldest_at k port) k.count e

      some' : oldest_at k' port < k'.count
      some' = ltb-true (oldest_at k' port) k'.count (same_some ∙ e)

      abbrev held_first : Queue → List ℕ → Held
      held_first x bytes = record { epoch = (oldest x port).epoch; port = (oldest x port).port; bytes = packet_bytes x (oldest_at x port) bytes }

      both_first : held_first k' held' ≡ held_first k held
      both_first =
          ap (λ (l : List Held). get_or l 0 (held_first k held))
          (sym (oldest-first k' h'.array epoch q h'.ok held' h'.size port some') ∙ same ∙ oldest-first k h.array epoch q h.ok held h.size port some)

      pub same_bytes : packet_bytes k' (oldest_at k' port) held' ≡ packet_bytes k (oldest_at k port) held
      same_bytes = ap (λ (x : Held). x.bytes) both_first

      same_length : (oldest k' port).length ≡ (oldest k port).length
      same_length =
          sym (length-packet-bytes k' h'.array epoch q h'.ok held' h'.size (oldest_at k' port) some')
          ∙ ap length same_bytes
          ∙ length-packet-bytes k h.array epoch q h.ok held h.size (oldest_at k port) some

      pub same-oldest : oldest k' port ≡ oldest k port
      same-oldest = λ i. record { epoch = (both_first i).epoch; length = same_length i; port = (both_first i).port }
