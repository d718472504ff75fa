-- Laws of the queue: what its range test says, and that the range is kept by one packet more, by one fewer, and as the open epoch grows.
-- The array's length is no part of the range: it comes from the type. Assumes nothing.
use mathlib.Core.Path.{◌≡◌, refl, sym, ap, ◌∙◌}
use mathlib.Core.Bool.{true}
use mathlib.Core.List.{List, [], ◌∷◌, ◌++◌}
use Prim.Native.Nat.{ℕ, ◌+◌, ◌≤◌, ◌<◌}
use native.Mathlib.Nat.{le_refl}
use native.Mathlib.Numerals.{add-one}
use native.Mathlib.Omega.{arith}
use lib.Dec.{leb, ltb, eqb}
use lib.ListN.{length, take, drop, get_or, length-set}
use lib.Seq.{take-suc-set, take-take, get_or-take, length-take-le}
use borrow.Author.Tests.{leb-true, le-leb, ltb-true, lt-ltb, eqb-true, eq-eqb}
use Rattle.lists.proofs.TestLaws.{both, join}
use Rattle.lists.specs.Select.{without}
use Rattle.lists.proofs.ArrayLaws.{kept-freed, length-freed}
use Rattle.lists.proofs.SelectLaws.{without-parts}
use Rattle.settings.specs.Range.{most_packets}
use Rattle.queue.specs.declared.Packet.{Packet}
use Rattle.queue.specs.declared.Queue.{Queue}
use Rattle.queue.specs.Held.{no_packet, empty_queue, held_packets, packet_at, packet_ok, packets_ok, sum_lengths, epochs_ok, queue_ok, bytes_before, has_space, added, without_packet}
use Rattle.queue.proofs.PacketLaws.{packets-more, packets-without, packets-at, sum_more, sum-without, sum-before, epochs-more, epochs-wider, epochs-without}

-- ---- the range, test by test
pub record QueueTests (k : Queue) (epoch q : ℕ) : Type 0 where
  pub count-high : k.count ≤ most_packets
  pub packets-ok : packets_ok (held_packets k) ≡ true
  pub sum_is : sum_lengths (held_packets k) ≡ k.bytes
  pub bytes_high : k.bytes ≤ q
  pub epochs-ok : epochs_ok 0 epoch (held_packets k) ≡ true

module _ (k : Queue) (epoch q : ℕ) where
  pub queue-tests : queue_ok k epoch q ≡ true → QueueTests k epoch q
  unfolding queue_ok
  queue-tests x =
      let e = both _ (epochs_ok 0 epoch (held_packets k)) x in
      let b = both _ (leb k.bytes q) e.0 in
      let s = both _ (eqb (sum_lengths (held_packets k)) k.bytes) b.0 in
      let l = both _ (packets_ok (held_packets k)) s.0 in
      record {
        count-high = leb-true k.count most_packets l.0;
        packets-ok = l.1;
        sum_is = eqb-true (sum_lengths (held_packets k)) k.bytes s.1;
        bytes_high = leb-true k.bytes q b.1;
        epochs-ok = e.1;
      }

  pub queue-tested : QueueTests k epoch q → queue_ok k epoch q ≡ true
  unfolding queue_ok
  queue-tested f =
      simp (le-leb k.count most_packets f.count-high, f.packets-ok, eq-eqb (sum_lengths (held_packets k)) k.bytes f.sum_is, le-leb k.bytes q f.bytes_high, f.epochs-ok)

-- ---- room for one packet more
module _ (k : Queue) (q n : ℕ) where
  pub space-facts : has_space k q n ≡ true → (k.count < most_packets) × (k.bytes + n ≤ q)
  space-facts e =
      let b = both (ltb k.count most_packets) (leb (k.bytes + n) q) e in
      (ltb-true k.count most_packets b.0, leb-true (k.bytes + n) q b.1)

  pub space-of : k.count < most_packets → k.bytes + n ≤ q → has_space k q n ≡ true
  space-of h g = join (ltb k.count most_packets) (leb (k.bytes + n) q) (lt-ltb k.count most_packets h) (le-leb (k.bytes + n) q g)

-- ---- a queue whose array has its 64 entries
module _ (k : Queue) (array : length k.packets ≡ most_packets) where
  -- ---- one packet more
  module _ (epoch port n : ℕ) where
    abbrev new : Packet
    new = record { epoch = epoch; length = n; port = port }

    pub held_more : k.count < most_packets → held_packets (added k epoch port n) ≡ held_packets k ++ (record { epoch = epoch; length = n; port = port } ∷ [])
    unfolding added
    held_more h = rw add-one (take-suc-set k.packets k.count new (omega arith))

    pub array-added : length (added k epoch port n).packets ≡ most_packets
    unfolding added
    array-added = length-set k.packets k.count new ∙ array

    pub queue-added : (q : ℕ) → queue_ok k epoch q ≡ true → has_space k q n ≡ true → packet_ok n port ≡ true → queue_ok (added k epoch port n) epoch q ≡ true
    unfolding added
    queue-added q ok space own =
        let t = queue-tests k epoch q ok in
        let s = space-facts k q n space in
        let m = held_more s.0 in
        queue-tested (added k epoch port n) epoch q
        (record {
          count-high = omega arith;
          packets-ok = rw m (packets-more (held_packets k) new t.packets-ok own);
          sum_is = ap sum_lengths m ∙ omega (arith, sum_more (held_packets k) new, t.sum_is);
          bytes_high = s.1;
          epochs-ok = rw m (epochs-more (held_packets k) 0 epoch new refl t.epochs-ok);
        })

  -- ---- the i-th
  module _ (epoch q : ℕ) (ok : queue_ok k epoch q ≡ true) (i : ℕ) (some : i < k.count) where
    tests : QueueTests k epoch q
    tests = queue-tests k epoch q ok

    -- it is the i-th of those held
    pub below-held : i < length (held_packets k)
    below-held = omega (arith, tests.count-high, length-take-le k.count k.packets (omega (arith, tests.count-high)))

    pub held_at : get_or (held_packets k) i no_packet ≡ packet_at k i
    held_at = get_or-take k.count k.packets i no_packet some

    -- those before it
    pub before-it : take i (held_packets k) ≡ take i k.packets
    before-it = take-take i k.count k.packets (omega arith)

    -- the others stay
    pub held-without : held_packets (without_packet k i) ≡ without i (held_packets k)
    unfolding without_packet
    held-without =
        kept-freed no_packet i 1 k.count k.packets (omega arith) (omega (arith, tests.count-high))
        ∙ ap (λ (ps : List Packet). ps ++ drop (i + 1) (held_packets k)) (sym before-it)
        ∙ sym (without-parts i (held_packets k) below-held)

    pub own-numbers : packet_ok (packet_at k i).length (packet_at k i).port ≡ true
    own-numbers = rw held_at at (packets-at i (held_packets k) no_packet below-held tests.packets-ok)

    pub packet-within : bytes_before k i + (packet_at k i).length ≤ k.bytes
    packet-within =
        omega (arith, tests.sum_is, sum-before i (held_packets k) no_packet below-held, ap (λ (p : Packet). p.length) held_at, ap sum_lengths before-it)

    pub array-removed : length (without_packet k i).packets ≡ most_packets
    unfolding without_packet
    array-removed = length-freed no_packet i 1 k.count k.packets (omega arith) (omega (arith, tests.count-high)) ∙ array

    pub queue-removed : queue_ok (without_packet k i) epoch q ≡ true
    unfolding without_packet
    queue-removed =
        let ps = held_packets k in
        let e = sum-without i ps no_packet below-held in
        queue-tested (without_packet k i) epoch q
        (record {
          count-high = omega (arith, tests.count-high);
          packets-ok = rw held-without (packets-without i ps tests.packets-ok);
          sum_is = ap sum_lengths held-without ∙ omega (arith, tests.sum_is, e, ap (λ (p : Packet). p.length) held_at);
          bytes_high = omega (arith, tests.bytes_high);
          epochs-ok = rw held-without (epochs-without i ps 0 epoch tests.epochs-ok);
        })

-- ---- the open epoch grows
pub queue-later : (k : Queue) (e e' q : ℕ) → e ≤ e' → queue_ok k e q ≡ true → queue_ok k e' q ≡ true
queue-later k e e' q h ok =
    let t = queue-tests k e q ok in
    queue-tested k e' q
    (record {
      count-high = t.count-high;
      packets-ok = t.packets-ok;
      sum_is = t.sum_is;
      bytes_high = t.bytes_high;
      epochs-ok = epochs-wider (held_packets k) 0 0 e e' (le_refl 0) h t.epochs-ok;
    })

-- ---- the empty queue
pub queue-empty : (epoch q : ℕ) → queue_ok empty_queue epoch q ≡ true
unfolding packets_ok sum_lengths epochs_ok
queue-empty epoch q =
    queue-tested empty_queue epoch q
    (record { count-high = omega arith; packets-ok = refl; sum_is = refl; bytes_high = omega arith; epochs-ok = le-leb 0 epoch (omega arith) })
