-- From the invariant to what demand 3 claims at every cut, but for the takeover. Assumes nothing.
use Rattle.std.specs.Prelude.{Result, Ok}
use Prim.Native.Nat.{ℕ, suc, ◌+◌, ◌≤◌, ◌<◌}
use mathlib.Core.Path.{◌≡◌, refl, sym, ap, ◌∙◌}
use mathlib.Core.Bool.{Bool, true, false, cond}
use mathlib.Core.List.{List, [], ◌∷◌}
use native.Mathlib.Nat.{add-zero}
use native.Mathlib.Omega.{arith}
use lib.ListN.{length, drop, get_or, length-drop}
use lib.Seq.{get_or-drop}
use borrow.Author.Tests.{eq-eqb}
use Rattle.settings.specs.declared.Settings.{Settings}
use Rattle.records.specs.declared.refusal.Refusal.{Refusal}
use Rattle.rules.specs.declared.Disk.{Disk}
use Rattle.rules.specs.declared.Disk.TheVariants.{PrimaryDisk, StandbyDisk}
use Rattle.rules.specs.Choose.{choice_of, chosen}
use Rattle.runs.specs.Plain.{Checkpoint, no_checkpoint}
use Rattle.runs.specs.Run.{Both}
use Rattle.runs.specs.Demand3.{StandbyRight, DisksRight}
use Rattle.runs.proofs.Effects.{Epoch, checkpoints_after, length-checkpoints}
use Rattle.runs.proofs.Invariant.{History, Rising, InvAt, Inv}

-- ---- History
module _ {u : ℕ} {checkpoints : List Checkpoint} {r epoch : ℕ} {base : Checkpoint} {ahead : List Epoch} (h : History u checkpoints r epoch base ahead) where
  -- the open epoch's number
  pub epoch-number : epoch ≡ suc r + length ahead
  epoch-number =
      let n : length (drop r checkpoints) ≡ suc (length (checkpoints_after u base ahead)) = ap length h.from in
      omega (arith, h.count, length-drop r checkpoints, length-checkpoints u base ahead)

  pub received-below : r < length checkpoints
  received-below = omega (arith, epoch-number, h.count)

  pub received_is : get_or checkpoints r no_checkpoint ≡ base
  received_is =
      sym (get_or-drop r checkpoints 0 no_checkpoint ∙ ap (λ (n : ℕ). get_or checkpoints n no_checkpoint) (add-zero r))
      ∙ ap (λ (l : List Checkpoint). get_or l 0 no_checkpoint) h.from

-- ---- Detector
pub rising_le : (a r : ℕ) (es : List ℕ) → Rising a r es → a ≤ r
rising_le a r [] h = h
rising_le a r (e ∷ es) h = omega (arith, h.0, rising_le e r es h.1)

-- ---- the claims
chosen-disk : (b : Bool) (primary standby primary' standby' : List ℕ) → primary ≡ primary' → (b ≡ true → standby ≡ standby')
    → chosen (cond b (Ok StandbyDisk) (Ok PrimaryDisk)) primary standby [] ≡ cond b standby' primary'
chosen-disk true primary standby primary' standby' p s = s refl
chosen-disk false primary standby primary' standby' p s = p

module _ (g : Settings) (b : Both) (i : Inv g b) where
  v : InvAt g i.ghost b
  v = i.holds

  pub standby-right : StandbyRight b
  standby-right =
      let t = v.taker in
      record {
        same = t.mode_is;
        memory = λ a. t.active_memory (sym t.mode_is ∙ a);
        disk = λ a. t.active_disk (sym t.mode_is ∙ a);
        processor = λ a. t.processor_is ∙ ap (λ (c : Checkpoint). c.processor) (sym (received_is v.history));
      }

  choice : choice_of (length b.world.primary.disk) (length b.world.standby.disk) b.world.standby.area ≡ cond b.plain.activated (Ok StandbyDisk) (Ok PrimaryDisk)
  unfolding choice_of
  choice =
      let e : length b.world.primary.disk ≡ length b.world.standby.disk = v.primary_kept.disk ∙ sym v.standby_kept.disk in
      rw (eq-eqb _ _ e, eq-eqb _ _ v.standby_kept.area) v.taker.area_is

  pub disks-right : DisksRight b
  disks-right =
      record {
        choice = choice;
        bytes = ap (λ (c : Result Disk Refusal). chosen c b.world.primary.disk b.world.standby.disk []) choice
            ∙ chosen-disk b.plain.activated b.world.primary.disk b.world.standby.disk b.plain.disk b.plain.standby_disk v.images.disk_is v.taker.active_disk;
      }

  pub received-exists : b.plain.r < length b.plain.checkpoints
  received-exists = received-below v.history

  pub acknowledged-received : b.plain.a ≤ b.plain.r
  acknowledged-received = rising_le b.plain.a b.plain.r i.ghost.acks v.detector.rising
