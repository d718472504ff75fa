-- The claims of specs/Corollaries.antt but the fifth and the seventh: the first four from demand 3, the sixth from the
-- invariant. Assumes nothing.
use Rattle.std.specs.Prelude.{Result, Ok}
use Prim.Native.Nat.{ℕ, ◌≤◌}
use mathlib.Core.Path.{◌≡◌, refl, sym, ap, ◌∙◌, subst}
use mathlib.Core.Bool.{true, cond}
use mathlib.Core.List.{List, [], ◌∷◌, ◌++◌}
use native.Mathlib.Omega.{arith}
use borrow.Author.Tests.{eq-eqb}
use Rattle.settings.specs.declared.Settings.{Settings}
use Rattle.records.specs.declared.refusal.Refusal.{Refusal}
use Rattle.rules.specs.declared.Disk.{Disk}
use Rattle.rules.specs.declared.Disk.TheVariants.{PrimaryDisk, StandbyDisk}
use Rattle.rules.specs.Choose.{chosen}
use Rattle.rules.specs.World.{Processor, Call, Buffers, start_number}
use Rattle.rules.specs.World as call
use Rattle.rules.specs.Step.{step}
use Rattle.runs.specs.Plain.{Checkpoint, received_checkpoint, plain_accepted, plain_step}
use Rattle.runs.specs.Run.{Both, steps, run_call, run, start_both}
use Rattle.runs.specs.Cut.{counted_calls}
use Rattle.runs.specs.Demand3.{active, Holds, WholeRun}
use Rattle.runs.specs.Corollaries.{IsCheckpoint, pair_after, PacketSaved, AcknowledgedReceived, AcknowledgedKept, OneCheckpoint, PrimaryDiskUntilActivation, DiskAtCheckpoint, AfterStart}
use Rattle.runs.proofs.CutLaws.{no_cut, counted-uncut}
use Rattle.runs.proofs.PlainLaws.{run-append, Later, run-later, activation-plain}
use Rattle.runs.proofs.Conclusions.{received_is}
use Rattle.runs.proofs.Frame.{Accepted, run-inv}
use Rattle.runs.proofs.StartCall.{start-law}
use Rattle.runs.proofs.Proved.{per-call, demand-3}

-- what the plain pair does with an accepted ACK
ack-plain : (u : ℕ) (n : ℕ) (b : Both) → Accepted b (call.ack n) → (run_call steps u b (call.ack n)).plain.a ≡ (step b.world (call.ack n)).outcome.value
unfolding plain_step plain_accepted
ack-plain u n b e = rw (eq-eqb _ _ e)

module _ (g : Settings) (processor : Processor) (buffers : Buffers) (started : start_number g buffers ≡ 0) where
  -- demand 3 of a list, with no cut
  pub whole : (calls : List Call) → WholeRun steps g (start_both g processor buffers) calls
  whole calls = subst (WholeRun steps g (start_both g processor buffers)) (counted-uncut calls) (demand-3 g processor buffers started calls no_cut)

  -- after a list and one call more, and to a later point
  pub after_call : (before : List Call) (c : Call) (later : List Call)
      → pair_after g processor buffers (before ++ (c ∷ later)) ≡ run steps g.u (run_call steps g.u (pair_after g processor buffers before) c) later
  after_call before c later = run-append steps g.u before (c ∷ later) (start_both g processor buffers)

  packet-saved : PacketSaved g processor buffers
  packet-saved before port destination later e protected = (((whole (before ++ (call.take port destination ∷ later))).takes before port destination later refl).accepted e).at_end protected

  acknowledged-kept : AcknowledgedKept g processor buffers
  acknowledged-kept before n later e =
      let b = pair_after g processor buffers before in
      let b₁ = run_call steps g.u b (call.ack n) in
      let end = pair_after g processor buffers (before ++ (call.ack n ∷ later)) in
      let a : b₁.plain.a ≤ b₁.plain.r
      = subst (λ (x : Both). x.plain.a ≤ x.plain.r) (after_call before (call.ack n) []) (whole (before ++ (call.ack n ∷ []))).end.acknowledged_received in
      let l : Later b₁.plain end.plain = subst (λ (x : Both). Later b₁.plain x.plain) (sym (after_call before (call.ack n) later)) (run-later g.u later b₁) in
      record {
        received = omega (arith, a, ack-plain g.u n b e, l.received);
        takeover = (whole (before ++ (call.ack n ∷ later))).end.takeover;
      }

  one-checkpoint : OneCheckpoint g processor buffers
  one-checkpoint before e =
      let b = pair_after g processor buffers before in
      let b₁ = run_call steps g.u b call.activation in
      let s = (subst (λ (x : Both). Holds steps g x) (after_call before call.activation []) (whole (before ++ (call.activation ∷ []))).end).standby in
      let t = activation-plain g.u b e in
      let on : active b₁.world ≡ true = s.same ∙ t.activated in
      subst (λ (x : Both). IsCheckpoint x.world.standby (received_checkpoint b.plain)) (sym (after_call before call.activation []))
      (record {
        memory = s.memory on ∙ t.memory;
        disk = s.disk on ∙ t.disk;
        processor = s.processor on ∙ ap (λ (c : Checkpoint). c.processor) t.checkpoint;
      })

  primary-disk : PrimaryDiskUntilActivation g processor buffers
  primary-disk calls cut off =
      let b = pair_after g processor buffers (counted_calls cut calls) in
      let d = (demand-3 g processor buffers started calls cut).end.disks in
      let choice = d.choice ∙ ap (λ x. cond x (Ok StandbyDisk) (Ok PrimaryDisk)) off in
      let same = ap (λ (c : Result Disk Refusal). chosen c b.world.primary.disk b.world.standby.disk []) choice in
      record { choice = choice; chosen = same; plain = sym same ∙ d.bytes ∙ ap (λ x. cond x b.plain.standby_disk b.plain.disk) off }

-- ---- the claims
pub packet-never-lost : AfterStart PacketSaved
packet-never-lost = packet-saved

pub acknowledged-received : AfterStart AcknowledgedReceived
acknowledged-received g processor buffers started calls cut = (demand-3 g processor buffers started calls cut).end.acknowledged_received

pub acknowledged-never-lost : AfterStart AcknowledgedKept
acknowledged-never-lost = acknowledged-kept

pub never-a-mixture : AfterStart OneCheckpoint
never-a-mixture = one-checkpoint

pub primary-disk-until-activation : AfterStart PrimaryDiskUntilActivation
primary-disk-until-activation = primary-disk

pub disk-at-checkpoint : AfterStart DiskAtCheckpoint
disk-at-checkpoint g processor buffers started calls cut off =
    let v = (run-inv g (per-call g) (counted_calls cut calls) (start_both g processor buffers) (start-law g processor buffers started)).holds in
    v.taker.disk_is (sym v.taker.mode_is ∙ off) ∙ ap (λ (c : Checkpoint). c.disk) (sym (received_is v.history))
