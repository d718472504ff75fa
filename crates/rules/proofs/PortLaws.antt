-- Ports are apart: a packet or a take of one port leaves every other port as it was. Assumes nothing.
use mathlib.Core.Path.{◌≡◌, refl, sym, ap, ◌∙◌}
use mathlib.Core.Bool.{true, false}
use mathlib.Core.Logic.{⊎_elim}
use mathlib.Core.List.{List}
use Prim.Native.Nat.{ℕ}
use lib.ListN.{length}
use borrow.Author.Tests.{eq-eqb, ne_eqb}
use Rattle.lists.specs.Refusal.{pick}
use Rattle.lists.proofs.TestLaws.{by-test, eq-or-ne}
use Rattle.lists.proofs.SelectLaws.{selected-same}
use Rattle.queue.specs.declared.Queue.{Queue}
use Rattle.queue.specs.Held.{oldest_at, has_packet, oldest, added, added_bytes, without_packet, without_packet_bytes}
use Rattle.queue.specs.HeldList.{Held, held_list, is_held_of, held_of}
use Rattle.queue.proofs.QueueLaws.{space-of, array-added, array-removed}
use Rattle.queue.proofs.HeldLaws.{length-added-bytes, held-added, length-without-bytes, others-stay}
use Rattle.queue.proofs.PortLaws.{Holding, same_some, same-oldest, same_bytes}
use Rattle.rules.specs.declared.Primary.{Primary}
use Rattle.rules.specs.PrimaryState.{primary_ok, with_queue}
use Rattle.rules.specs.Packets.{packet_refusal, packet_reply, packet_held, may_leave, take_refusal, take_reply, take_held}
use Rattle.rules.specs.Ports.{PortAsBefore, PacketApart, TakeApart}
use Rattle.rules.proofs.PrimaryFacts.{primary-facts}
use Rattle.rules.proofs.PacketLaws.{queue-ok, packet-accepted, packet-queue, take-accepted, take-queue}

-- nothing has changed
as_before : (p : Primary) (held : List ℕ) (port : ℕ) → PortAsBefore p p held held port
as_before p held port = record { packets = refl; some = refl; oldest_is = λ e. refl; bytes = λ e. refl; freedom = refl; number = λ d. refl }

-- another queue with the same packets of the port
module _ (p : Primary) (k : Queue) (held held' : List ℕ) (port : ℕ) (h : Holding p.epoch p.settings.q p.queue held) (h' : Holding p.epoch p.settings.q k held')
    (same : held_of port (held_list k held') ≡ held_of port (held_list p.queue held)) where
  some : has_packet k port ≡ has_packet p.queue port
  some = same_some p.epoch p.settings.q port p.queue k held held' h h' same

  first : has_packet p.queue port ≡ true → oldest k port ≡ oldest p.queue port
  first = same-oldest p.epoch p.settings.q port p.queue k held held' h h' same

  freedom : may_leave (with_queue p k) port ≡ may_leave p port
  freedom =
      ⊎_elim
      (λ (e : has_packet p.queue port ≡ true). rw (some, first e))
      (λ (e : has_packet p.queue port ≡ false). rw (some, e))
      (by-test (has_packet p.queue port))

  -- both states are in range, and both buffers are exact
  number : primary_ok p ≡ true → primary_ok (with_queue p k) ≡ true → (destination : ℕ)
      → take_refusal (with_queue p k) (length held') port destination ≡ take_refusal p (length held) port destination
  unfolding take_refusal
  number ok ok' destination =
      ⊎_elim
      (λ (e : has_packet p.queue port ≡ true). rw (ok, ok', eq-eqb (length held) p.settings.q h.size, eq-eqb (length held') p.settings.q h'.size, some, first e))
      (λ (e : has_packet p.queue port ≡ false). rw (ok, ok', eq-eqb (length held) p.settings.q h.size, eq-eqb (length held') p.settings.q h'.size, some, e))
      (by-test (has_packet p.queue port))

  queue-as-before : primary_ok p ≡ true → primary_ok (with_queue p k) ≡ true → PortAsBefore p (with_queue p k) held held' port
  queue-as-before ok ok' =
      record {
        packets = same;
        some = some;
        oldest_is = first;
        bytes = same_bytes p.epoch p.settings.q port p.queue k held held' h h' same;
        freedom = freedom;
        number = number ok ok';
      }

-- accepted or refused
by_number : (P : Primary → List ℕ → Type 0) (n : ℕ) (p p' : Primary) (held held' : List ℕ) → (n ≡ 0 → P p' held') → P p held → P (pick n p' p) (pick n held' held)
by_number P n p p' held held' f g = ⊎_elim (λ e. rw (eq-eqb n 0 e) (f e)) (λ e. rw (ne_eqb n 0 e) g) (eq-or-ne n 0)

pub packet-apart : PacketApart
unfolding packet_reply packet_held
packet-apart p held port bytes other array ne =
    let n = length bytes in
    let k = added p.queue p.epoch port n in
    let held' = added_bytes p.queue held bytes in
    by_number (λ (x : Primary) (y : List ℕ). PortAsBefore p x held y other) (packet_refusal p (length held) port n) p (with_queue p k) held held'
    (λ e.
    let f = packet-accepted p (length held) port n e in
    let ok = (primary-facts p f.ok).queue in
    let space = space-of p.queue p.settings.q n f.count_low f.bytes_fit in
    let size = length-added-bytes p.queue array p.epoch p.settings.q ok held f.held-is port bytes space ∙ f.held-is in
    let new : Held = record { epoch = p.epoch; port = port; bytes = bytes } in
    let ok' = packet-queue p (length held) port n f array in
    queue-as-before p k held held' other (record { array = array; ok = ok; size = f.held-is }) (record { array = array-added p.queue array p.epoch port n; ok = ok'; size = size })
    (ap (held_of other) (held-added p.queue array p.epoch p.settings.q ok held f.held-is port bytes space)
    ∙ selected-same (is_held_of other) (held_list p.queue held) new (ne_eqb _ _ (λ x. ne (sym x))))
    f.ok (queue-ok p k ok' f.ok))
    (as_before p held other)

pub take-apart : TakeApart
unfolding take_reply take_held
take-apart p held port destination other array ne =
    let i = oldest_at p.queue port in
    let k = without_packet p.queue i in
    let held' = without_packet_bytes p.queue i held in
    by_number (λ (x : Primary) (y : List ℕ). PortAsBefore p x held y other) (take_refusal p (length held) port (length destination)) p (with_queue p k) held held'
    (λ e.
    let f = take-accepted p (length held) port (length destination) e in
    let ok = (primary-facts p f.ok).queue in
    let some = f.released.some in
    let size = length-without-bytes p.queue array p.epoch p.settings.q ok held f.held-is i some ∙ f.held-is in
    let ok' = take-queue p (length held) port (length destination) f array in
    queue-as-before p k held held' other (record { array = array; ok = ok; size = f.held-is })
    (record { array = array-removed p.queue array p.epoch p.settings.q ok i some; ok = ok'; size = size })
    (others-stay p.queue array p.epoch p.settings.q ok held f.held-is port some other ne) f.ok (queue-ok p k ok' f.ok))
    (as_before p held other)
