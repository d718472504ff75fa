-- A read waits for a slot only until a flush of one block or more. Assumes nothing.
use Prim.Native.Nat.{ℕ, ◌-◌, ◌<◌}
use mathlib.Core.Path.{◌≡◌, sym, ap, ◌∙◌}
use mathlib.Core.Bool.{true}
use mathlib.Core.List.{List}
use native.Mathlib.Omega.{arith}
use lib.ListN.{take}
use Rattle.records.specs.Number.{slots_full}
use Rattle.settings.specs.declared.Settings.{Settings}
use Rattle.settings.specs.declared.StandbySettings.{StandbySettings}
use Rattle.staging.specs.Slot.{flush_count, flushed}
use Rattle.rules.specs.StandbyState.{is_receiving}
use Rattle.rules.specs.World as call
use Rattle.rules.specs.Step.{step}
use Rattle.runs.specs.Run.{Both, steps, run_call}
use Rattle.runs.specs.Progress.{whole_record, read_number, WaitsForFlush}
use Rattle.runs.proofs.ReadTests.{room_for, read-waits, read-accepts}
use Rattle.runs.proofs.KeptLaws.{standby-ranges, standby-settings}
use Rattle.runs.proofs.Flush as flush
use Rattle.runs.proofs.TakeoverCalls.{flush-accepted}
use Rattle.runs.proofs.Pending.{View, view_of, Agree}
use Rattle.runs.proofs.PendingCalls.{flush-view, flush-pending}
use Rattle.runs.proofs.PendingRead.{read_number_lem, read-full}

module _ (g : Settings) (b : Both) (a : Agree g b) where
  -- every flush is accepted
  pub flush-made : (k : ℕ) → (step b.world (call.flush k)).outcome.number ≡ 0
  flush-made k = flush-accepted g b a.inv.holds.standby_kept k

  abbrev pub flushed_both : ℕ → Both
  flushed_both k = run_call steps g.u b (call.flush k)

  is : (k : ℕ) → flushed_both k ≡ flush.after k b.world.standby.state.settings.u b
  is k = flush.after_is k g.u b (flush-made k)

  pub same_view : (k : ℕ) → view_of (step b.world (call.flush k)).next ≡ view_of b.world
  same_view k = ap (λ (x : Both). view_of x.world) (is k) ∙ flush-view g b a.inv k

  pub flush-agree : (k : ℕ) → Agree g (flushed_both k)
  flush-agree k = record { inv = flush.flush-keeps g k b a.inv (flush-made k); pending = flush-pending g k b a.inv (flush-made k) a.pending }

  -- it frees as many slots as it stores
  slots-after : (k : ℕ) → ((flushed_both k).world.standby.state.slots.staged ≡ b.world.standby.state.slots.staged - flush_count b.world.standby.state.slots k)
      × ((flushed_both k).world.standby.state.slots.due ≡ b.world.standby.state.slots.due - flush_count b.world.standby.state.slots k)
  unfolding flushed
  slots-after k = (ap (λ (x : Both). x.world.standby.state.slots.staged) (is k), ap (λ (x : Both). x.world.standby.state.slots.due) (is k))

  module _ (on : is_receiving b.world.standby.state.mode ≡ true) (n : ℕ) (reply : List ℕ) where
    -- where all slots are staged and the epoch may have a block more, some are due: S is at least B
    due-some : read_number g b.world n reply ≡ slots_full → (b.world.standby.state.slots.staged ≡ g.s) × (0 < b.world.standby.state.slots.due)
    due-some e =
        let k = a.inv.holds.standby_kept in
        let f = read-full g b.world k a.pending on n reply e in
        let t = standby-ranges g b.world.standby k in
        let size = ap (λ (x : StandbySettings). x.s) k.settings in
        let least = (standby-settings g b.world.standby k).slots.s-low in
        (omega (arith, t.slots.staged-high), omega (arith, k.reached.not_due))

module _ (g : Settings) (b : Both) (a : Agree g b) (on : is_receiving b.world.standby.state.mode ≡ true) (n : ℕ) (reply : List ℕ) where
  -- after a flush of one or more no read waits
  pub none-waits : (k : ℕ) → 0 < k → read_number g (flushed_both g b a k).world n reply ≡ slots_full → ⊥
  none-waits k some e =
      let c = flushed_both g b a k in
      let on' : is_receiving c.world.standby.state.mode ≡ true = ap (λ (v : View). v.receiver.receiving) (same_view g b a k) ∙ on in
      let d = due-some g c (flush-agree g b a k) on' n reply e in
      let t = standby-ranges g b.world.standby a.inv.holds.standby_kept in
      let size = ap (λ (x : StandbySettings). x.s) a.inv.holds.standby_kept.settings in
      omega (arith, (slots-after g b a k).0, (slots-after g b a k).1, t.slots.staged-high)

  -- so one that is given a whole record, with room, is accepted
  pub read-flushed : (k : ℕ) → 0 < k → whole_record (take n b.world.link) ≡ true → room_for g (take n b.world.link) reply ≡ true
      → (step (flushed_both g b a k).world (call.read n reply)).outcome.number ≡ 0
  read-flushed k some whole room =
      let c = flushed_both g b a k in
      let same = same_view g b a k in
      let on' : is_receiving c.world.standby.state.mode ≡ true = ap (λ (v : View). v.receiver.receiving) same ∙ on in
      let agree = flush-agree g b a k in
      let link = ap (λ (v : View). v.link) same in
      read_number_lem g c.world agree.inv.holds.standby_kept agree.pending on' n reply
      ∙ read-accepts g c.world n reply (ap (λ (l : List ℕ). whole_record (take n l)) link ∙ whole) (ap (λ (l : List ℕ). room_for g (take n l) reply) link ∙ room) (none-waits k some)

  pub waits : (step b.world (call.read n reply)).outcome.number ≡ slots_full → WaitsForFlush steps g b.world n reply
  waits e =
      let w = b.world in
      let full : read_number g b.world n reply ≡ slots_full = sym (read_number_lem g w a.inv.holds.standby_kept a.pending on n reply) ∙ e in
      let d = due-some g b a on n reply full in
      let t = read-waits g w n reply full in
      record { staged = d.0; due = d.1; flushed = λ k some. (flush-made g b a k, (read-flushed k some t.0 t.1, tt)) }
