-- Laws of packet and take: what acceptance says, the release rule, and that the ranges are kept. Assumes nothing.
use mathlib.Core.Path.{◌≡◌, refl, sym}
use mathlib.Core.Bool.{Bool, true, false, ◌||◌}
use mathlib.Core.Logic.{◌⊎◌, inl, inr, ⊎_elim}
use Prim.Native.Nat.{ℕ, ◌+◌, ◌≤◌, ◌<◌}
use lib.Dec.{leb, eqb}
use lib.ListN.{length}
use borrow.Author.Tests.{leb-true, ltb-true, eqb-true, le-leb, lt-ltb, eq-eqb}
use Rattle.lists.proofs.TestLaws.{both, join, refuted, within-facts, within_of, accepted, accepts}
use Rattle.records.specs.Number.{nothing_free}
use Rattle.settings.specs.Range.{most_packets, most_packet_bytes, packet_length_ok, most_port, port_ok}
use Rattle.queue.specs.declared.Queue.{Queue}
use Rattle.queue.specs.Held.{oldest_at, has_packet, oldest, queue_ok, added, without_packet}
use Rattle.queue.proofs.QueueLaws.{space-facts, space-of, array-added, queue-added, array-removed, queue-removed}
use Rattle.rules.specs.declared.Primary.{Primary}
use Rattle.rules.specs.PrimaryState.{primary_ok, with_queue}
use Rattle.rules.specs.Packets.{packet_tests, take_tests, packet_refusal, may_leave, take_refusal}
use Rattle.rules.specs.Reached.{PrimaryInRange, PrimaryReached}
use Rattle.rules.proofs.PrimaryFacts.{primary-facts, primary-of}

-- ---- packet
pub record PacketFacts (p : Primary) (held port n : ℕ) : Type 0 where
  pub ok : primary_ok p ≡ true
  pub held-is : held ≡ p.settings.q
  pub length-low : 1 ≤ n
  pub length_high : n ≤ most_packet_bytes
  pub port-high : port ≤ most_port
  pub count_low : p.queue.count < most_packets
  pub bytes_fit : p.queue.bytes + n ≤ p.settings.q

module _ (p : Primary) (held port n : ℕ) where
  pub packet-accepted : packet_refusal p held port n ≡ 0 → PacketFacts p held port n
  unfolding packet_refusal
  packet-accepted e =
      let h = accepted (packet_tests p held port n) refl e in
      let r = both (primary_ok p) (eqb held p.settings.q) h.0 in
      let l = within-facts 1 most_packet_bytes n h.1.0 in
      let s = space-facts p.queue p.settings.q n h.1.1.1.0 in
      record {
        ok = r.0;
        held-is = eqb-true held p.settings.q r.1;
        length-low = l.0;
        length_high = l.1;
        port-high = leb-true port most_port h.1.1.0;
        count_low = s.0;
        bytes_fit = s.1;
      }

  pub packet-accepts : PacketFacts p held port n → packet_refusal p held port n ≡ 0
  unfolding packet_refusal
  packet-accepts f =
      accepts (packet_tests p held port n) (
        join (primary_ok p) (eqb held p.settings.q) f.ok (eq-eqb held p.settings.q f.held-is),
        (within_of 1 most_packet_bytes n f.length-low f.length_high, (le-leb port most_port f.port-high, (space-of p.queue p.settings.q n f.count_low f.bytes_fit, tt))),
      )

-- ---- take

-- the release rule as a fact: the port has an oldest packet, and its epoch is acknowledged or the primary is alone
pub record Released (p : Primary) (port : ℕ) : Type 0 where
  pub some : oldest_at p.queue port < p.queue.count
  pub free : (p.alone ≡ true) ⊎ ((oldest p.queue port).epoch ≤ p.acknowledged)

pub record TakeFacts (p : Primary) (held port destination : ℕ) : Type 0 where
  pub ok : primary_ok p ≡ true
  pub held-is : held ≡ p.settings.q
  pub port-high : port ≤ most_port
  pub released : Released p port
  pub room : (oldest p.queue port).length ≤ destination

either : (a b : Bool) → (a || b) ≡ true → (a ≡ true) ⊎ (b ≡ true)
either true b e = inl refl
either false b e = inr e

left_or : (a b : Bool) → a ≡ true → (a || b) ≡ true
left_or a b e = rw e

right_or : (a b : Bool) → b ≡ true → (a || b) ≡ true
right_or true b e = refl
right_or false b e = e

module _ (p : Primary) (port : ℕ) where
  pub may-leave : may_leave p port ≡ true → Released p port
  may-leave e =
      let t = leb (oldest p.queue port).epoch p.acknowledged in
      let h = both (has_packet p.queue port) (p.alone || t) e in
      record {
        some = ltb-true (oldest_at p.queue port) p.queue.count h.0;
        free = ⊎_elim (λ a. inl a) (λ a. inr (leb-true (oldest p.queue port).epoch p.acknowledged a)) (either p.alone t h.1);
      }

  pub may-leave-of : Released p port → may_leave p port ≡ true
  may-leave-of f =
      let t = leb (oldest p.queue port).epoch p.acknowledged in
      join (has_packet p.queue port) (p.alone || t) (lt-ltb (oldest_at p.queue port) p.queue.count f.some)
      (⊎_elim (λ a. left_or p.alone t a) (λ a. right_or p.alone t (le-leb (oldest p.queue port).epoch p.acknowledged a)) f.free)

module _ (p : Primary) (held port destination : ℕ) where
  pub take-accepted : take_refusal p held port destination ≡ 0 → TakeFacts p held port destination
  unfolding take_refusal
  take-accepted e =
      let h = accepted (take_tests p held port destination) refl e in
      let r = both (primary_ok p) (eqb held p.settings.q) h.0 in
      record {
        ok = r.0;
        held-is = eqb-true held p.settings.q r.1;
        port-high = leb-true port most_port h.1.0;
        released = may-leave p port h.1.1.0;
        room = leb-true (oldest p.queue port).length destination h.1.1.1.0;
      }

  pub take-accepts : TakeFacts p held port destination → take_refusal p held port destination ≡ 0
  unfolding take_refusal
  take-accepts f =
      accepts (take_tests p held port destination) (
        join (primary_ok p) (eqb held p.settings.q) f.ok (eq-eqb held p.settings.q f.held-is),
        (le-leb port most_port f.port-high, (may-leave-of p port f.released, (le-leb (oldest p.queue port).length destination f.room, tt))),
      )

  module _ (ok : primary_ok p ≡ true) (held-is : held ≡ p.settings.q) (port-high : port ≤ most_port) where
    -- "hands out the oldest packet if its epoch is acknowledged or the primary is alone", of the port, and only then
    pub release-rule : (oldest p.queue port).length ≤ destination
        → (take_refusal p held port destination ≡ 0 → Released p port) × (Released p port → take_refusal p held port destination ≡ 0)
    release-rule room =
        (λ e. (take-accepted e).released, λ f. take-accepts (record { ok = ok; held-is = held-is; port-high = port-high; released = f; room = room }))

    -- otherwise it is 18, whatever the destination
    pub not-released : (Released p port → ⊥) → take_refusal p held port destination ≡ nothing_free
    unfolding take_refusal
    not-released f =
        rw (ok, eq-eqb held p.settings.q held-is, le-leb port most_port port-high, sym (refuted (may_leave p port) (λ e. f (may-leave p port e))))

-- ---- what a call leaves is in range, and reached

-- another queue that is in its ranges
module _ (p : Primary) (k : Queue) (queue : queue_ok k p.epoch p.settings.q ≡ true) where
  pub queue-ok : primary_ok p ≡ true → primary_ok (with_queue p k) ≡ true
  queue-ok ok =
      let f = primary-facts p ok in
      primary-of (with_queue p k)
      (record { settings = f.settings; queue = queue; acknowledged = f.acknowledged; waiting = f.waiting; blocks = f.blocks; records = f.records; detector = f.detector })

  queue-in-range : PrimaryInRange p → length k.packets ≡ most_packets → PrimaryInRange (with_queue p k)
  queue-in-range r packets = record { in_range = queue-ok r.in_range; packets = packets; numbers = r.numbers }

module _ (p : Primary) (held port n : ℕ) (f : PacketFacts p held port n) where
  -- its own queue after a packet
  pub packet-queue : length p.queue.packets ≡ most_packets → queue_ok (added p.queue p.epoch port n) p.epoch p.settings.q ≡ true
  packet-queue array =
      let q = (primary-facts p f.ok).queue in
      let own = join (packet_length_ok n) (port_ok port) (within_of 1 most_packet_bytes n f.length-low f.length_high) (le-leb port most_port f.port-high) in
      queue-added p.queue array p.epoch port n p.settings.q q (space-of p.queue p.settings.q n f.count_low f.bytes_fit) own

  pub packet-in-range : PrimaryInRange p → PrimaryInRange (with_queue p (added p.queue p.epoch port n))
  packet-in-range r = queue-in-range p (added p.queue p.epoch port n) (packet-queue r.packets) r (array-added p.queue r.packets p.epoch port n)

  pub packet-reached : PrimaryReached p → PrimaryReached (with_queue p (added p.queue p.epoch port n))
  packet-reached r = record { range = packet-in-range r.range; different = r.different; records_high = r.records_high }

module _ (p : Primary) (held port destination : ℕ) (f : TakeFacts p held port destination) where
  pub take-queue : length p.queue.packets ≡ most_packets → queue_ok (without_packet p.queue (oldest_at p.queue port)) p.epoch p.settings.q ≡ true
  take-queue array = queue-removed p.queue array p.epoch p.settings.q (primary-facts p f.ok).queue (oldest_at p.queue port) f.released.some

  pub take-in-range : PrimaryInRange p → PrimaryInRange (with_queue p (without_packet p.queue (oldest_at p.queue port)))
  take-in-range r =
      let i = oldest_at p.queue port in
      queue-in-range p (without_packet p.queue i) (take-queue r.packets) r
      (array-removed p.queue r.packets p.epoch p.settings.q (primary-facts p f.ok).queue i f.released.some)

  pub take-reached : PrimaryReached p → PrimaryReached (with_queue p (without_packet p.queue (oldest_at p.queue port)))
  take-reached r = record { range = take-in-range r.range; different = r.different; records_high = r.records_high }
