-- An accepted take keeps the invariant, and every take hands out what demand 3 says. Assumes nothing.
use Prim.Native.Nat.{ℕ, ◌≤◌}
use mathlib.Core.Path.{◌≡◌, sym, ◌∙◌, subst}
use mathlib.Core.Bool.{true, true≢false}
use mathlib.Core.Logic.{⊎_elim}
use mathlib.Core.List.{List, [], ◌∷◌}
use native.Mathlib.Omega.{arith}
use lib.ListN.{length, take}
use borrow.Author.Tests.{eq-eqb, ne_eqb}
use Rattle.lists.specs.Part.{put}
use Rattle.settings.specs.declared.Settings.{Settings}
use Rattle.queue.specs.Held.{oldest_at, oldest, queue_ok, packet_bytes, without_packet, without_packet_bytes}
use Rattle.queue.specs.HeldList.{Held, held_list, held_of}
use Rattle.queue.proofs.HeldLaws.{handed_out, length-without-bytes, oldest-first, others-stay}
use Rattle.rules.specs.PrimaryState.{with_queue}
use Rattle.rules.specs.Packets.{take_reply, take_held, take_destination}
use Rattle.rules.specs.World as call
use Rattle.rules.specs.Step.{at_primary, step}
use Rattle.rules.proofs.PacketLaws.{TakeFacts, take-accepted, take-reached}
use Rattle.rules.proofs.PrimaryFacts.{primary-facts}
use Rattle.runs.specs.Plain.{of_port, taken_of, with_packets, plain_accepted, plain_step}
use Rattle.runs.specs.Run.{Both, steps, run_call}
use Rattle.runs.specs.Demand3.{under_protection, Saved, HandedRight}
use Rattle.runs.proofs.Invariant.{Packets, Inv}
use Rattle.runs.proofs.Conclusions.{received-exists, acknowledged-received}
use Rattle.runs.proofs.PacketsLaws.{packets-taken, oldest-queued, oldest-is, oldest-below, oldest-saved}
use Rattle.runs.proofs.Frame.{Accepted, KeepsAccepted, TakeLaw}

module _ (port : ℕ) where
  abbrev Facts : Both → List ℕ → Type 0
  Facts b destination = TakeFacts b.world.primary.state (length b.world.primary.held) port (length destination)

  -- the place of the port's oldest packet, that packet, and all others
  abbrev place : Both → ℕ
  place b = oldest_at b.world.primary.state.queue port

  abbrev first : Both → Held
  first b =
      let p = b.world.primary in
      let k = oldest p.state.queue port in
      record { epoch = k.epoch; port = k.port; bytes = packet_bytes p.state.queue (place b) p.held }

  abbrev rest : Both → List Held
  rest b = let p = b.world.primary in held_list (without_packet p.state.queue (place b)) (without_packet_bytes p.state.queue (place b) p.held)

module _ (port : ℕ) (destination : List ℕ) where
  abbrev pub after : Both → Both
  after b =
      let p = b.world.primary in
      record {
        world = at_primary b.world (record {
          state = with_queue p.state (without_packet p.state.queue (place port b));
          memory = p.memory;
          disk = p.disk;
          dirty = p.dirty;
          held = without_packet_bytes p.state.queue (place port b) p.held;
          stream = p.stream;
        });
        plain = with_packets b.plain b.plain.accepted (port ∷ b.plain.taken);
      }

  pub after_is : (u : ℕ) (b : Both) → Accepted b (call.take port destination) → run_call steps u b (call.take port destination) ≡ after b
  unfolding step take_reply take_held plain_step plain_accepted
  after_is u b e = rw (eq-eqb _ _ e)

  facts : (b : Both) → Accepted b (call.take port destination) → Facts port b destination
  unfolding step take_reply
  facts b e = take-accepted b.world.primary.state (length b.world.primary.held) port (length destination) e

  -- what it hands out
  handed-accepted : (b : Both) → Accepted b (call.take port destination)
      → (step b.world (call.take port destination)).handed
      ≡ take (oldest b.world.primary.state.queue port).length (put destination 0 (first port b).bytes)
  unfolding step take_reply take_destination
  handed-accepted b e = rw (eq-eqb _ _ e)

  handed-refused : (b : Both) → (Accepted b (call.take port destination) → ⊥) → (step b.world (call.take port destination)).handed ≡ []
  unfolding step take_reply
  handed-refused b ne = rw (ne_eqb _ _ ne)

  module _ (g : Settings) (b : Both) (i : Inv g b) (f : Facts port b destination) where
    ok : queue_ok b.world.primary.state.queue b.world.primary.state.epoch b.world.primary.state.settings.q ≡ true
    ok = (primary-facts b.world.primary.state f.ok).queue

    split : held_of port (held_list b.world.primary.state.queue b.world.primary.held) ≡ first port b ∷ held_of port (rest port b)
    split =
        let p = b.world.primary in
        oldest-first p.state.queue i.holds.primary_kept.reached.range.packets p.state.epoch p.state.settings.q ok p.held f.held-is port f.released.some

    packets : Packets port (first port b ∷ held_of port (rest port b)) (of_port port b.plain.accepted) (taken_of b.plain port) b.plain.checkpoints
    packets =
        subst (λ (l : List Held). Packets port l (of_port port b.plain.accepted) (taken_of b.plain port) b.plain.checkpoints) split (i.holds.packets port)

    after-inv : Inv g (after b)
    after-inv =
        let p = b.world.primary in
        let v = i.holds in
        let k = v.primary_kept in
        let queue = p.state.queue in
        let q = p.state.settings.q in
        let epoch = p.state.epoch in
        let array = k.reached.range.packets in
        let some = f.released.some in
        let stay = others-stay queue array epoch q ok p.held f.held-is port some in
        record {
          ghost = i.ghost;
          holds = record {
            history = v.history;
            link = v.link;
            images = v.images;
            detector = v.detector;
            packets = packets-taken (held_list queue p.held) b.plain.accepted b.plain.taken b.plain.checkpoints v.packets port (first port b) (rest port b) split stay;
            taker = v.taker;
            primary_kept = record {
              settings = k.settings;
              patience = k.patience;
              reached = take-reached p.state (length p.held) port (length destination) f k.reached;
              memory = k.memory;
              disk = k.disk;
              dirty = k.dirty;
              held = length-without-bytes queue array epoch q ok p.held f.held-is (place port b) some ∙ k.held;
              stream = k.stream;
            };
            standby_kept = v.standby_kept;
          };
        }

    -- under protection its epoch is acknowledged, so it is at most r
    saved : under_protection g.t b.plain → (first port b).epoch ≤ b.plain.r
    saved a =
        let d = i.holds.detector in
        let l = acknowledged-received g b i in
        ⊎_elim (λ (z : b.world.primary.state.alone ≡ true). absurd (true≢false (sym z ∙ d.alone_is ∙ a))) (λ z. omega (arith, d.acknowledged_is)) f.released.free

    handed-right : (handed : List ℕ) → handed ≡ (first port b).bytes → HandedRight g.t port b.plain b.plain handed
    handed-right handed e =
        let l = held_of port (rest port b) in
        let a = of_port port b.plain.accepted in
        let n = taken_of b.plain port in
        let c = b.plain.checkpoints in
        let here : under_protection g.t b.plain → Saved handed port n b.plain = λ z. record {
          below = oldest-below port l a n c (first port b) packets b.plain.r (saved z) (received-exists g b i);
          same = e ∙ oldest-saved port l a n c (first port b) packets b.plain.r (saved z) (received-exists g b i);
        } in
        record { queued = oldest-queued port l a n c (first port b) packets; oldest = e ∙ oldest-is port l a n c (first port b) packets; saved = here; at_end = here }

    handed-is : Accepted b (call.take port destination) → (step b.world (call.take port destination)).handed ≡ (first port b).bytes
    handed-is e =
        let p = b.world.primary in
        let k = i.holds.primary_kept.reached in
        handed-accepted b e
        ∙ handed_out p.state.queue k.range.packets p.state.epoch p.state.settings.q ok p.held f.held-is (place port b) f.released.some destination

pub take-keeps : (g : Settings) (port : ℕ) (destination : List ℕ) → KeepsAccepted g (call.take port destination)
take-keeps g port destination b i e = subst (Inv g) (sym (after_is port destination g.u b e)) (after-inv port destination g b i (facts port destination b e))

pub take-right : (g : Settings) → TakeLaw g
take-right g b i port destination =
    record {
      accepted = λ e. let f = facts port destination b e in handed-right port destination g b i f _ (handed-is port destination g b i f e);
      refused = λ ne. handed-refused port destination b ne;
    }
