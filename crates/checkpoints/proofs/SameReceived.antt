-- The same content received from the same start gives the same memory, processor state and disk. Assumes nothing.
use Prim.Native.Nat.{ℕ, ◌*◌}
use mathlib.Core.Path.{◌≡◌, refl, sym, ap, ◌∙◌}
use mathlib.Core.List.{List, []}
use native.Mathlib.Omega.{arith}
use lib.ListN.{length}
use Rattle.records.specs.Message.{Message}
use Rattle.settings.specs.declared.StandbySettings.{StandbySettings}
use Rattle.pages.proofs.InstallLaws.{length-installed}
use Rattle.staging.specs.declared.Slots.{Slots}
use Rattle.staging.specs.SlotList.{staged_from, slot_list, store_all}
use Rattle.staging.specs.Slot.{flushed}
use Rattle.rules.specs.World.{StandbyEnd, World}
use Rattle.rules.specs.World as call
use Rattle.rules.specs.Step.{step}
use Rattle.checkpoints.specs.declared.FileSettings.{FileSettings}
use Rattle.checkpoints.specs.Content.{SameContent}
use Rattle.checkpoints.specs.Judge.{none_known}
use Rattle.checkpoints.specs.Received.{Awaits, SameReceived}
use Rattle.checkpoints.proofs.Standing.{Standing, Taken, base_of, awaits-standing}
use Rattle.checkpoints.proofs.StandingFlush.{flush_end, flush-none-refused, flush-standing, flush-step}
use Rattle.checkpoints.proofs.SameEffects.{same_memory, same-disk, same-processor}

-- no slot: nothing to store
store-none : (u : ℕ) (k : Slots) (slots disk : List ℕ) → k.staged ≡ 0 → store_all u disk (slot_list u k slots) ≡ disk
unfolding slot_list staged_from store_all
store-none u k slots disk e = rw e

module _ (g : FileSettings) (e : StandbyEnd) (a : Awaits g e) where
  abbrev x : StandbySettings
  x = e.state.settings

  abbrev start : Standing e.state.settings (base_of e) e.state.received none_known [] e
  start = awaits-standing g e a

  -- the images before the first record have their lengths
  base-memory : length (base_of e).memory ≡ x.m * x.u
  base-memory = length-installed e.memory e.staged_pages e.staged_marks x.u x.m a.memory a.staged_pages

  base-disk : length (base_of e).disk ≡ x.d * x.u
  unfolding flushed
  base-disk =
      let h = flush-standing (base_of e) e.state.received none_known [] e start e.state.slots.due in
      let t = flush_end e e.state.slots.due in
      let none : t.state.slots.staged ≡ 0 = omega (arith, a.all_due) in
      ap length (sym h.disk_is ∙ store-none x.u t.state.slots t.staged_blocks t.disk none) ∙ h.disk

  -- the same content from the same start
  pub same_received : (xs ys : List Message) (b c : StandbyEnd) → SameContent xs ys → Taken e.state.settings (base_of e) e.state.received xs b
      → Taken e.state.settings (base_of e) e.state.received ys c → SameReceived b c
  same_received xs ys b c same s t =
      record {
        received = s.received ∙ sym t.received;
        memory = s.memory_is ∙ same_memory x (base_of e) xs ys same s.inside t.inside base-memory ∙ sym t.memory_is;
        processor = s.processor_is ∙ same-processor x (base_of e) xs ys same s.inside t.inside refl ∙ sym t.processor_is;
        disk = s.disk_is ∙ same-disk x (base_of e) xs ys same s.inside t.inside base-disk ∙ sym t.disk_is;
      }

-- a flush of all that is due leaves none due
pub flush-due : (g : FileSettings) (w : World) → Awaits g w.standby → (step w (call.flush w.standby.state.slots.due)).next.standby.state.slots.due ≡ 0
unfolding flushed
flush-due g w a =
    let e = w.standby in
    let n = e.state.slots.due in
    ap (λ (v : World). v.standby.state.slots.due) (flush-step w n (flush-none-refused (base_of e) e.state.received none_known [] e (awaits-standing g e a) n)) ∙ omega arith
