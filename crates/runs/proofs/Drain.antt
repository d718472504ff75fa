-- An accepted drain keeps the invariant. Assumes nothing.
use Prim.Native.Nat.{ℕ, ◌-◌, ◌≤◌}
use mathlib.Core.Path.{◌≡◌, sym, ap, ap₂, ◌∙◌, subst}
use mathlib.Core.List.{List, ◌++◌, append_assoc}
use native.Mathlib.Omega.{arith}
use lib.ListN.{length, take, drop, take-append-drop}
use lib.Seq.{length-take-le, take-take}
use borrow.Author.Tests.{eq-eqb}
use Rattle.lists.specs.Part.{put, removed}
use Rattle.lists.proofs.PartLaws.{take-put-front, length_removed, take-removed}
use Rattle.settings.specs.declared.Settings.{Settings}
use Rattle.rules.specs.PrimaryState.{with_waiting}
use Rattle.rules.specs.Stream.{drain_count, drain_reply, drain_stream, drain_destination}
use Rattle.rules.specs.World as call
use Rattle.rules.specs.Step.{step}
use Rattle.rules.proofs.StreamLaws.{DrainFacts, drain-accepted, drain-reached}
use Rattle.rules.proofs.PrimaryFacts.{primary-facts}
use Rattle.runs.specs.Plain.{plain_accepted, plain_step}
use Rattle.runs.specs.Run.{Both, steps, run_call}
use Rattle.runs.proofs.Invariant.{Inv}
use Rattle.runs.proofs.LinkLaws.{bytes-moved}
use Rattle.runs.proofs.Frame.{Accepted, KeepsAccepted}

module _ (n : ℕ) (destination : List ℕ) where
  abbrev pub count_of : Both → ℕ
  count_of b = drain_count b.world.primary.state n (length destination)

  abbrev pub after : Both → Both
  after b =
      let w = b.world in
      let p = w.primary in
      let c = count_of b in
      record {
        world = record {
          primary = record {
            state = with_waiting p.state (p.state.waiting - c);
            memory = p.memory;
            disk = p.disk;
            dirty = p.dirty;
            held = p.held;
            stream = removed 0 c p.state.waiting p.stream;
          };
          standby = w.standby;
          link = w.link ++ take c (put destination 0 (take c p.stream));
          acks = w.acks;
        };
        plain = b.plain;
      }

  pub after_is : (u : ℕ) (b : Both) → Accepted b (call.drain n destination) → run_call steps u b (call.drain n destination) ≡ after b
  unfolding step drain_reply drain_stream drain_destination plain_step plain_accepted
  after_is u b e = rw (eq-eqb _ _ e)

  pub facts : (b : Both) → Accepted b (call.drain n destination) → DrainFacts b.world.primary.state (length b.world.primary.stream)
  unfolding step drain_reply
  facts b e = drain-accepted b.world.primary.state (length b.world.primary.stream) e

  module _ (g : Settings) (b : Both) (i : Inv g b) (f : DrainFacts b.world.primary.state (length b.world.primary.stream)) where
    pub waits : b.world.primary.state.waiting ≤ length b.world.primary.stream
    waits = omega (arith, (primary-facts b.world.primary.state f.ok).waiting, f.stream-is)

    -- what reaches the link
    given : take (count_of b) (put destination 0 (take (count_of b) b.world.primary.stream)) ≡ take (count_of b) (take b.world.primary.state.waiting b.world.primary.stream)
    given =
        let s = b.world.primary.stream in
        let c = count_of b in
        let l : length (take c s) ≡ c = length-take-le c s (omega (arith, waits)) in
        take-put-front destination (take c s) c l
        ∙ sym (take-take c b.world.primary.state.waiting s (omega arith))

    -- the bytes on the link and those waiting are as before
    pub drained : (after b).world.link ++ take (after b).world.primary.state.waiting (after b).world.primary.stream ≡ b.world.link ++ take b.world.primary.state.waiting b.world.primary.stream
    drained =
        let w = b.world in
        let p = w.primary in
        let c = count_of b in
        let waiting = p.state.waiting in
        let out = take waiting p.stream in
        ap₂ (λ (x y : List ℕ). (w.link ++ x) ++ y) given (take-removed c waiting p.stream (omega arith) waits)
        ∙ append_assoc w.link (take c out) (drop c out)
        ∙ ap (λ (l : List ℕ). w.link ++ l) (take-append-drop c out)

    after-inv : Inv g (after b)
    after-inv =
        let w = b.world in
        let p = w.primary in
        let c = count_of b in
        let v = i.holds in
        let k = v.primary_kept in
        let waiting = p.state.waiting in
        record {
          ghost = i.ghost;
          holds = record {
            history = v.history;
            link = record {
              records = v.link.records;
              bytes =
                  bytes-moved w.link (take waiting p.stream) (after b).world.link (take (waiting - c) (removed 0 c waiting p.stream)) i.ghost.lost drained ∙ v.link.bytes;
              lossless = v.link.lossless;
              readable = v.link.readable;
              consumed_before = v.link.consumed_before;
              ahead_before = v.link.ahead_before;
              opened_before = v.link.opened_before;
            };
            images = v.images;
            detector = v.detector;
            packets = v.packets;
            taker = v.taker;
            primary_kept = record {
              settings = k.settings;
              patience = k.patience;
              reached = drain-reached p.state n (length destination) k.reached;
              memory = k.memory;
              disk = k.disk;
              dirty = k.dirty;
              held = k.held;
              stream = length_removed 0 c waiting p.stream (omega arith) waits ∙ k.stream;
            };
            standby_kept = v.standby_kept;
          };
        }

pub drain-keeps : (g : Settings) (n : ℕ) (destination : List ℕ) → KeepsAccepted g (call.drain n destination)
drain-keeps g n destination b i e = subst (Inv g) (sym (after_is n destination g.u b e)) (after-inv n destination g b i (facts n destination b e))
