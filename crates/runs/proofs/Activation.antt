-- An accepted activation keeps the invariant. Assumes nothing.
use Prim.Native.Nat.{ℕ, ◌<◌, ◌^◌}
use mathlib.Core.Path.{◌≡◌, refl, sym, ap, ◌∙◌, subst}
use mathlib.Core.Bool.{true, false, true≢false, false≢true}
use mathlib.Core.List.{List}
use native.Mathlib.Omega.{arith}
use lib.ListN.{length}
use borrow.Author.Tests.{eq-eqb}
use Rattle.lists.specs.Part.{put}
use Rattle.lists.proofs.PartLaws.{put_whole}
use Rattle.records.specs.Kind.{ACTIVATION}
use Rattle.records.specs.Area.{area_of}
use Rattle.records.specs.Write.{activation_record}
use Rattle.records.proofs.FrameLaws.{length-epoch}
use Rattle.records.proofs.AreaLaws.{area-activation}
use Rattle.settings.specs.declared.Settings.{Settings}
use Rattle.staging.specs.SlotList.{due_list, store_all}
use Rattle.rules.specs.declared.Mode.TheVariants.{Active}
use Rattle.rules.specs.declared.Standby.{Standby}
use Rattle.rules.specs.Choose.{area_choice}
use Rattle.rules.specs.StandbyState.{with_mode}
use Rattle.rules.specs.Takeover.{activation_reply, activation_area}
use Rattle.rules.specs.World as call
use Rattle.rules.specs.Step.{at_standby, step}
use Rattle.rules.proofs.TakeoverLaws.{ActivationAccepted, activation-accepted, activated-reached}
use Rattle.runs.specs.Plain.{Checkpoint, received_checkpoint, with_activated_standby_images, plain_accepted, plain_step}
use Rattle.runs.specs.Run.{Both, steps, run_call}
use Rattle.runs.proofs.Invariant.{Inv}
use Rattle.runs.proofs.Conclusions.{received_is, received-exists}
use Rattle.runs.proofs.ModeLaws.{taking-not-active}
use Rattle.runs.proofs.KeptLaws.{standby-inv}
use Rattle.runs.proofs.Frame.{Accepted, KeepsAccepted}

abbrev pub after : Both → Both
after b =
    let e = b.world.standby in
    record {
      world = at_standby b.world (record {
        state = with_mode e.state Active;
        memory = e.memory;
        disk = e.disk;
        staged_pages = e.staged_pages;
        staged_marks = e.staged_marks;
        staged_blocks = e.staged_blocks;
        area = put e.area 0 (activation_record e.state.received);
      });
      plain = with_activated_standby_images b.plain true (received_checkpoint b.plain).memory (received_checkpoint b.plain).disk;
    }

pub after_is : (u : ℕ) (b : Both) → Accepted b call.activation → run_call steps u b call.activation ≡ after b
unfolding step activation_reply activation_area plain_step plain_accepted
after_is u b e = rw (eq-eqb _ _ e)

facts : (b : Both) → Accepted b call.activation → ActivationAccepted b.world.standby.state (length b.world.standby.area)
unfolding step activation_reply
facts b e = activation-accepted b.world.standby.state (length b.world.standby.area) e

-- nothing due, nothing to store
none-due : (u : ℕ) (s : Standby) (slots disk : List ℕ) → s.slots.due ≡ 0 → store_all u disk (due_list u s.slots slots) ≡ disk
unfolding due_list store_all
none-due u s slots disk z = rw z

module _ (g : Settings) (b : Both) (i : Inv g b) (f : ActivationAccepted b.world.standby.state (length b.world.standby.area)) where
  area-whole : put b.world.standby.area 0 (activation_record b.world.standby.state.received) ≡ activation_record b.world.standby.state.received
  area-whole =
      let e = b.world.standby in
      put_whole e.area (activation_record e.state.received) (length-epoch ACTIVATION e.state.received ∙ sym i.holds.standby_kept.area)

  low : b.world.standby.state.received < 2 ^ 32
  low = let h = i.holds.history in omega (arith, received-exists g b i, h.count, h.high, i.holds.taker.received_is)

  after-inv : Inv g (after b)
  after-inv =
      let e = b.world.standby in
      let k = i.holds.standby_kept in
      let t = i.holds.taker in
      let s = e.state in
      let off : b.plain.activated ≡ false = sym t.mode_is ∙ taking-not-active s.mode f.taking_over in
      let c = received_is i.holds.history in
      standby-inv g b i (after b).world.standby true (received_checkpoint b.plain).memory (received_checkpoint b.plain).disk
      (record {
        received_is = t.received_is;
        mode_is = refl;
        processor_is = t.processor_is;
        memory_is = λ z. absurd (true≢false z);
        disk_is = λ z. absurd (true≢false z);
        staged_memory = λ z. absurd (false≢true z);
        staged_disk = λ z. absurd (false≢true z);
        staged_processor = λ z. absurd (false≢true z);
        active_memory = λ z. t.memory_is off ∙ ap (λ (x : Checkpoint). x.memory) (sym c);
        active_disk = λ z. sym (none-due g.u s e.staged_blocks e.disk f.none_due) ∙ t.disk_is off ∙ ap (λ (x : Checkpoint). x.disk) (sym c);
        settled = λ z. f.none_due;
        area_is = ap (λ (l : List ℕ). area_choice (area_of l)) area-whole ∙ ap area_choice (area-activation s.received low);
      })
      (record {
        settings = k.settings;
        patience = k.patience;
        reached = activated-reached s k.reached;
        memory = k.memory;
        disk = k.disk;
        staged_pages = k.staged_pages;
        staged_marks = k.staged_marks;
        staged_blocks = k.staged_blocks;
        area = ap length area-whole ∙ length-epoch ACTIVATION s.received;
      })

pub activation-keeps : (g : Settings) → KeepsAccepted g call.activation
activation-keeps g b i e = subst (Inv g) (sym (after_is g.u b e)) (after-inv g b i (facts b e))
