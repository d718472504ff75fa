-- What the calls of an exchange leave as it was, one by one. Assumes nothing.
use Rattle.std.specs.Prelude.{Result, Ok, Err}
use Prim.Native.Nat.{ℕ, ◌+◌, ◌-◌, ◌≤◌, min}
use mathlib.Core.Path.{◌≡◌, refl, ap, ◌∙◌}
use mathlib.Core.Bool.{Bool}
use mathlib.Core.List.{List, []}
use native.Mathlib.Omega.{arith}
use lib.ListN.{length, take, length-append, length-take, length-drop}
use borrow.Author.Tests.{eq-eqb}
use Rattle.lists.specs.Part.{removed}
use Rattle.lists.proofs.TestLaws.{join, accepts}
use Rattle.records.specs.declared.Record.{Record}
use Rattle.records.specs.declared.Unread.{Unread}
use Rattle.records.specs.declared.Record.TheVariants as record_of
use Rattle.records.specs.declared.Unread.TheVariants as unread
use Rattle.settings.specs.declared.Settings.{Settings}
use Rattle.rules.specs.StandbyState.{is_receiving}
use Rattle.rules.specs.Stream.{drain_tests, drain_refusal, drain_reply}
use Rattle.rules.specs.World.{World}
use Rattle.rules.specs.World as call
use Rattle.rules.specs.Step.{Stepped, step}
use Rattle.runs.specs.Run.{Both, steps, run_call}
use Rattle.runs.proofs.KeptLaws.{lent-stream}
use Rattle.runs.proofs.RecordSteps.{ack_seen, ack_by, ack-step, read_seen, read_by, read_step}
use Rattle.runs.proofs.Drain as drain
use Rattle.runs.proofs.Flush as flush
use Rattle.runs.proofs.Pending.{Agree}
use Rattle.runs.proofs.FlushFrees.{flush-made}

-- the bytes waiting, whether both ends take part, the open epoch
pub record Still : Type 0 where
  pub out : List ℕ
  pub alone : Bool
  pub receiving : Bool
  pub epoch : ℕ

abbrev pub still_of : World → Still
still_of w =
    let p = w.primary.state in
    record { out = take p.waiting w.primary.stream; alone = p.alone; receiving = is_receiving w.standby.state.mode; epoch = p.epoch }

-- ---- read: whatever is judged; the link grows no longer
module _ (w : World) where
  read-by : (bytes reply : List ℕ) (r : Result Record Unread) → still_of (read_by w bytes reply r).next ≡ still_of w
  read-by bytes reply (Ok (record_of.Page w e p c)) = refl
  read-by bytes reply (Ok (record_of.Block e n c)) = refl
  read-by bytes reply (Ok (record_of.State e c)) = refl
  read-by bytes reply (Ok (record_of.Commit w e p b c)) = refl
  read-by bytes reply (Ok (record_of.Ack e c)) = refl
  read-by bytes reply (Err (unread.Short n)) = refl
  read-by bytes reply (Err (unread.Refused n)) = refl

  pub read-still : (n : ℕ) (reply : List ℕ) → still_of (step w (call.read n reply)).next ≡ still_of w
  read-still n reply = ap (λ (t : Stepped). still_of t.next) (read_step w n reply) ∙ read-by (take n w.link) reply (read_seen w n reply)

  pub read-primary : (n : ℕ) (reply : List ℕ) → (step w (call.read n reply)).next.primary ≡ w.primary
  read-primary n reply = ap (λ (t : Stepped). t.next.primary) (read_step w n reply)

  pub read-less : (n : ℕ) (reply : List ℕ) → length (step w (call.read n reply)).next.link ≤ length w.link
  read-less n reply = rw (read_step w n reply) (simp length-drop (omega arith))

  -- ---- ACK
  ack-by : (r : Result Record Unread) → still_of (ack_by w r).next ≡ still_of w
  ack-by (Ok (record_of.Page w e p c)) = refl
  ack-by (Ok (record_of.Block e n c)) = refl
  ack-by (Ok (record_of.State e c)) = refl
  ack-by (Ok (record_of.Commit w e p b c)) = refl
  ack-by (Ok (record_of.Ack e c)) = refl
  ack-by (Err (unread.Short n)) = refl
  ack-by (Err (unread.Refused n)) = refl

  pub ack-still : (n : ℕ) → still_of (step w (call.ack n)).next ≡ still_of w
  ack-still n = ap (λ (t : Stepped). still_of t.next) (ack-step w n) ∙ ack-by (ack_seen w n)

  pub ack-link : (n : ℕ) → (step w (call.ack n)).next.link ≡ w.link
  ack-link n = ap (λ (t : Stepped). t.next.link) (ack-step w n)

module _ (g : Settings) (b : Both) (a : Agree g b) where
  -- ---- flush
  pub flush-still : (k : ℕ) → still_of (step b.world (call.flush k)).next ≡ still_of b.world
  flush-still k = ap (λ (x : Both). still_of x.world) (flush.after_is k g.u b (flush-made g b a k))

  pub flush-primary : (k : ℕ) → (step b.world (call.flush k)).next.primary ≡ b.world.primary
  flush-primary k = ap (λ (x : Both). x.world.primary) (flush.after_is k g.u b (flush-made g b a k))

  -- ---- drain: every one is accepted, and one of all leaves nothing waiting
  module _ (n : ℕ) (destination : List ℕ) where
    drain-made : (step b.world (call.drain n destination)).outcome.number ≡ 0
    unfolding step drain_reply drain_refusal
    drain-made =
        let p = b.world.primary in
        let k = a.inv.holds.primary_kept in
        accepts (drain_tests p.state (length p.stream)) (join _ _ k.reached.range.in_range (eq-eqb _ _ (lent-stream g p k)), tt)

    is : run_call steps g.u b (call.drain n destination) ≡ drain.after n destination b
    is = drain.after_is n destination g.u b drain-made

    module _ (all : b.world.primary.state.waiting ≤ min n (length destination)) where
      abbrev drained_all : World → Still
      drained_all w = let p = w.primary.state in record { out = []; alone = p.alone; receiving = is_receiving w.standby.state.mode; epoch = p.epoch }

      pub drain-still : still_of (step b.world (call.drain n destination)).next ≡ drained_all b.world
      drain-still =
          let p = b.world.primary.state in
          let c = drain.count_of n destination b in
          let none : p.waiting - c ≡ 0 = omega arith in
          ap (λ (x : Both). still_of x.world) is
          ∙ ap (λ (m : ℕ). record { out = take m (removed 0 c p.waiting b.world.primary.stream); alone = p.alone; receiving = is_receiving b.world.standby.state.mode; epoch = p.epoch }) none

      pub drain-link : length (step b.world (call.drain n destination)).next.link ≤ length b.world.link + b.world.primary.state.waiting
      drain-link = rw (ap (λ (x : Both). x.world.link) is) (simp (length-append, length-take) (omega arith))

    -- the acknowledged epoch stays
    pub drain-acknowledged : (step b.world (call.drain n destination)).next.primary.state.acknowledged ≡ b.world.primary.state.acknowledged
    drain-acknowledged = ap (λ (x : Both). x.world.primary.state.acknowledged) is
