-- Where the last checkpoint is acknowledged, its packets that have not left can be taken, in any order of the ports.
-- Assumes nothing.
use Prim.Native.Nat.{ℕ, zero, suc, ◌+◌, ◌-◌, ◌≤◌, ◌<◌}
use mathlib.Core.Path.{◌≡◌, refl, sym, ◌∙◌, subst}
use mathlib.Core.Bool.{true}
use mathlib.Core.Logic.{inr, ⊎_elim}
use mathlib.Core.List.{List, [], ◌∷◌, map}
use native.Mathlib.Omega.{arith}
use lib.ListN.{length, replicate}
use borrow.Author.Tests.{leb-true}
use Rattle.lists.specs.Select.{times_in}
use Rattle.lists.proofs.TestLaws.{both, within-facts, eq-or-ne}
use Rattle.lists.proofs.SelectLaws.{times_more, times-same}
use Rattle.settings.specs.declared.Settings.{Settings}
use Rattle.settings.specs.Range.{most_packet_bytes, packet_length_ok, most_port, port_ok}
use Rattle.queue.specs.Held.{oldest_at, oldest, queue_ok}
use Rattle.queue.specs.HeldList.{Held}
use Rattle.queue.proofs.QueueLaws.{own-numbers}
use Rattle.queue.proofs.HeldLaws.{port-some, oldest-port, oldest-first}
use Rattle.rules.specs.Packets.{take_reply}
use Rattle.rules.specs.World.{Call}
use Rattle.rules.specs.World as call
use Rattle.rules.specs.Step.{step}
use Rattle.rules.proofs.PacketLaws.{take-accepts}
use Rattle.rules.proofs.PrimaryFacts.{primary-facts}
use Rattle.rules.proofs.ReplyLaws.{pick-cases}
use Rattle.runs.specs.Plain.{Plain, of_port, taken_of, plain_accepted, plain_step}
use Rattle.runs.specs.Run.{Both, steps, run_call, run}
use Rattle.runs.specs.Demand3.{AllAccepted}
use Rattle.runs.specs.Progress.{rounds, last_checkpoint, not_taken}
use Rattle.runs.proofs.FirstLaws.{first-length}
use Rattle.runs.proofs.Invariant.{Packets, Inv}
use Rattle.runs.proofs.KeptLaws.{lent-held}
use Rattle.runs.proofs.Frame.{Accepted}
use Rattle.runs.proofs.Take as take-call

-- ---- drain, flush, read and ACK make no checkpoint and take no packet
module _ (u : ℕ) (b : Both) where
  abbrev AsMany : Plain → Type 0
  AsMany p = (port : ℕ) → not_taken p port ≡ not_taken b.plain port

  as_many : (c : Call) → ((value : ℕ) → AsMany (plain_accepted u c value b.plain)) → AsMany (run_call steps u b c).plain
  unfolding plain_step
  as_many c f =
      let o = (step b.world c).outcome in
      pick-cases AsMany o.number (plain_accepted u c o.value b.plain) b.plain (λ e. f o.value) (λ e port. refl)

  pub drain-as-many : (n : ℕ) (destination : List ℕ) → AsMany (run_call steps u b (call.drain n destination)).plain
  unfolding plain_accepted
  drain-as-many n destination = as_many (call.drain n destination) (λ v port. refl)

  flush-as-many : (n : ℕ) → AsMany (run_call steps u b (call.flush n)).plain
  unfolding plain_accepted
  flush-as-many n = as_many (call.flush n) (λ v port. refl)

  read-as-many : (n : ℕ) (reply : List ℕ) → AsMany (run_call steps u b (call.read n reply)).plain
  unfolding plain_accepted
  read-as-many n reply = as_many (call.read n reply) (λ v port. refl)

  ack-as-many : (n : ℕ) → AsMany (run_call steps u b (call.ack n)).plain
  unfolding plain_accepted
  ack-as-many n = as_many (call.ack n) (λ v port. refl)

pub rounds-as-many : (u k budget given : ℕ) (reply : List ℕ) (b : Both) → AsMany u b (run steps u b (rounds k budget given reply)).plain
rounds-as-many u zero budget given reply b port = refl
rounds-as-many u (suc k) budget given reply b port =
    let f = run_call steps u b (call.flush budget) in
    rounds-as-many u k budget given reply (run_call steps u f (call.read given reply)) port ∙ read-as-many u f given reply port ∙ flush-as-many u b budget port

pub acks-as-many : (u k given : ℕ) (b : Both) → AsMany u b (run steps u b (replicate k (call.ack given))).plain
acks-as-many u zero given b port = refl
acks-as-many u (suc k) given b port = acks-as-many u k given (run_call steps u b (call.ack given)) port ∙ ack-as-many u b given port

-- ---- takes, one after the other
module _ (g : Settings) (destination : List ℕ) (room : most_packet_bytes ≤ length destination) where
  -- one of a port that has not left
  module _ (b : Both) (i : Inv g b) (a : b.world.primary.state.acknowledged + 1 ≡ b.world.primary.state.epoch) (port : ℕ) (l : 0 < not_taken b.plain port) where
    -- the last checkpoint exists
    count : b.world.primary.state.acknowledged + 1 ≡ length b.plain.checkpoints
    count = a ∙ i.holds.history.count

    ok : queue_ok b.world.primary.state.queue b.world.primary.state.epoch b.world.primary.state.settings.q ≡ true
    ok = (primary-facts b.world.primary.state i.holds.primary_kept.reached.range.in_range).queue

    some : oldest_at b.world.primary.state.queue port < b.world.primary.state.queue.count
    some =
        let p = b.world.primary in
        let k = i.holds.packets port in
        let f = k.first (length b.plain.checkpoints - 1) (omega (arith, count)) in
        port-some p.state.queue i.holds.primary_kept.reached.range.packets p.state.epoch p.state.settings.q ok p.held (lent-held g p i.holds.primary_kept) port
        (omega (arith, l, k.sum, first-length (of_port port (last_checkpoint b.plain).packets) (of_port port b.plain.accepted) f))

    take-made : Accepted b (call.take port destination)
    unfolding step take_reply
    take-made =
        let p = b.world.primary in
        let k = i.holds.primary_kept in
        let array = k.reached.range.packets in
        let queue = p.state.queue in
        let held = lent-held g p k in
        let packets = subst (λ (x : List Held). Packets port x (of_port port b.plain.accepted) (taken_of b.plain port) b.plain.checkpoints)
        (oldest-first queue array p.state.epoch p.state.settings.q ok p.held held port some) (i.holds.packets port) in
        let closed = packets.unreleased.1 (length b.plain.checkpoints - 1) (omega (arith, count)) (omega (arith, l)) in
        let own = both (packet_length_ok (oldest queue port).length) (port_ok (oldest queue port).port) (own-numbers queue array p.state.epoch p.state.settings.q ok (oldest_at queue port) some) in
        let short = (within-facts 1 most_packet_bytes (oldest queue port).length own.0).1 in
        let is = oldest-port queue array p.state.epoch p.state.settings.q ok p.held held port some in
        take-accepts p.state (length p.held) port (length destination)
        (record {
          ok = k.reached.range.in_range;
          held-is = held;
          port-high = rw is at (leb-true (oldest queue port).port most_port own.1);
          released = record { some = some; free = inr (omega (arith, closed, count)) };
          room = omega (arith, short);
        })

  abbrev takes : List ℕ → List Call
  takes ports = map (λ (port : ℕ). call.take port destination) ports

  pub takes-made : (ports : List ℕ) (b : Both) → Inv g b → b.world.primary.state.acknowledged + 1 ≡ b.world.primary.state.epoch
      → ((port : ℕ) → times_in port ports ≤ not_taken b.plain port) → AllAccepted steps b.world (takes ports)
  takes-made [] b i a few = tt
  takes-made (q ∷ ports) b i a few =
      let made = take-made b i a q (omega (arith, few q, times_more q q ports refl)) in
      let is = take-call.after_is q destination g.u b made in
      let c = run_call steps g.u b (call.take q destination) in
      let left : (port : ℕ) → times_in port ports ≤ length (of_port port (last_checkpoint b.plain).packets) - times_in port (q ∷ b.plain.taken)
      = λ port.
      ⊎_elim
      (λ (e : q ≡ port). omega (arith, few port, times_more port q ports e, times_more port q b.plain.taken e))
      (λ (ne : q ≡ port → ⊥). omega (arith, few port, times-same port q ports ne, times-same port q b.plain.taken ne))
      (eq-or-ne q port) in (
        made,
        takes-made ports c (take-call.take-keeps g q destination b i made) (subst (λ (x : Both). x.world.primary.state.acknowledged + 1 ≡ x.world.primary.state.epoch) (sym is) a)
            (subst (λ (x : Both). (port : ℕ) → times_in port ports ≤ not_taken x.plain port) (sym is) left),
      )
