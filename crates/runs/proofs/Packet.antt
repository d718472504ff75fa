-- An accepted packet keeps the invariant. Assumes nothing.
use Prim.Native.Nat.{ℕ}
use mathlib.Core.Path.{◌≡◌, sym, ◌∙◌, subst}
use mathlib.Core.List.{List, [], ◌∷◌, ◌++◌}
use lib.ListN.{length}
use borrow.Author.Tests.{eq-eqb}
use Rattle.settings.specs.declared.Settings.{Settings}
use Rattle.queue.specs.Held.{added, added_bytes}
use Rattle.queue.specs.HeldList.{Held, held_list}
use Rattle.queue.proofs.QueueLaws.{space-of}
use Rattle.queue.proofs.HeldLaws.{length-added-bytes, held-added}
use Rattle.rules.specs.PrimaryState.{with_queue}
use Rattle.rules.specs.Packets.{packet_reply, packet_held}
use Rattle.rules.specs.World as call
use Rattle.rules.specs.Step.{at_primary, step}
use Rattle.rules.proofs.PacketLaws.{PacketFacts, packet-accepted, packet-reached}
use Rattle.rules.proofs.PrimaryFacts.{primary-facts}
use Rattle.runs.specs.Plain.{with_packets, plain_accepted, plain_step}
use Rattle.runs.specs.Run.{Both, steps, run_call}
use Rattle.runs.proofs.Invariant.{PortPackets, Inv}
use Rattle.runs.proofs.PacketsLaws.{packets-sent}
use Rattle.runs.proofs.Frame.{Accepted, KeepsAccepted}

module _ (port : ℕ) (bytes : List ℕ) where
  abbrev pub after : Both → Both
  after b =
      let p = b.world.primary in
      record {
        world = at_primary b.world (record {
          state = with_queue p.state (added p.state.queue p.state.epoch port (length bytes));
          memory = p.memory;
          disk = p.disk;
          dirty = p.dirty;
          held = added_bytes p.state.queue p.held bytes;
          stream = p.stream;
        });
        plain = with_packets b.plain (b.plain.accepted ++ (record { port = port; bytes = bytes } ∷ [])) b.plain.taken;
      }

  pub after_is : (u : ℕ) (b : Both) → Accepted b (call.packet port bytes) → run_call steps u b (call.packet port bytes) ≡ after b
  unfolding step packet_reply packet_held plain_step plain_accepted
  after_is u b e = rw (eq-eqb _ _ e)

  facts : (b : Both) → Accepted b (call.packet port bytes) → PacketFacts b.world.primary.state (length b.world.primary.held) port (length bytes)
  unfolding step packet_reply
  facts b e = packet-accepted b.world.primary.state (length b.world.primary.held) port (length bytes) e

  after-inv : (g : Settings) (b : Both) → Inv g b → PacketFacts b.world.primary.state (length b.world.primary.held) port (length bytes) → Inv g (after b)
  after-inv g b i f =
      let p = b.world.primary in
      let v = i.holds in
      let k = v.primary_kept in
      let queue = p.state.queue in
      let q = p.state.settings.q in
      let epoch = p.state.epoch in
      let n = length bytes in
      let array = k.reached.range.packets in
      let ok = (primary-facts p.state f.ok).queue in
      let space = space-of queue q n f.count_low f.bytes_fit in
      let h : Held = record { epoch = epoch; port = port; bytes = bytes } in
      record {
        ghost = i.ghost;
        holds = record {
          history = v.history;
          link = v.link;
          images = v.images;
          detector = v.detector;
          packets = subst (λ (l : List Held). (q : ℕ) → PortPackets l (b.plain.accepted ++ (record { port = port; bytes = bytes } ∷ [])) b.plain.taken b.plain.checkpoints q)
              (sym (held-added queue array epoch q ok p.held f.held-is port bytes space))
              (packets-sent (held_list queue p.held) b.plain.accepted b.plain.taken b.plain.checkpoints v.packets h v.history.count);
          taker = v.taker;
          primary_kept = record {
            settings = k.settings;
            patience = k.patience;
            reached = packet-reached p.state (length p.held) port n f k.reached;
            memory = k.memory;
            disk = k.disk;
            dirty = k.dirty;
            held = length-added-bytes queue array epoch q ok p.held f.held-is port bytes space ∙ k.held;
            stream = k.stream;
          };
          standby_kept = v.standby_kept;
        };
      }

pub packet-keeps : (g : Settings) (port : ℕ) (bytes : List ℕ) → KeepsAccepted g (call.packet port bytes)
packet-keeps g port bytes b i e = subst (Inv g) (sym (after_is port bytes g.u b e)) (after-inv port bytes g b i (facts port bytes b e))
