-- The calls that append nothing and read no record keep the second invariant. Assumes nothing.
use Prim.Native.Nat.{ℕ, ◌+◌}
use mathlib.Core.Path.{◌≡◌, refl, sym, ap, subst}
use mathlib.Core.Bool.{Bool, true, false}
use mathlib.Core.List.{List}
use native.Mathlib.Omega.{arith}
use Rattle.settings.specs.declared.Settings.{Settings}
use Rattle.staging.specs.Slot.{flush_count}
use Rattle.staging.proofs.BlockLaws.{fresh-flushed}
use Rattle.detector.specs.Tick.{ticked, expired}
use Rattle.rules.specs.declared.Primary.{Primary}
use Rattle.rules.specs.StandbyState.{is_receiving}
use Rattle.rules.specs.PrimaryTick.{outstanding, alone_at, primary_tick_state}
use Rattle.rules.specs.Takeover.{standby_tick_state}
use Rattle.rules.specs.World.{Call}
use Rattle.rules.specs.World as call
use Rattle.rules.specs.Step.{step}
use Rattle.rules.proofs.PrimaryTickLaws.{tick-alone, tick-protected}
use Rattle.rules.proofs.TakeoverLaws.{tick-rests, tick-counts, tick-takes-over}
use Rattle.runs.specs.Run.{Both, steps, run_call}
use Rattle.runs.proofs.Invariant.{Inv}
use Rattle.runs.proofs.KeptLaws.{standby-ranges, staged-few}
use Rattle.runs.proofs.MemoryWrite as memory-write
use Rattle.runs.proofs.Packet as packet
use Rattle.runs.proofs.Take as take-call
use Rattle.runs.proofs.Flush as flush
use Rattle.runs.proofs.Activation as activation
use Rattle.runs.proofs.ActiveWrites as active
use Rattle.runs.proofs.StandbyTick as standby-tick
use Rattle.runs.proofs.PrimaryTick as primary-tick
use Rattle.runs.proofs.Drain as drain
use Rattle.runs.proofs.Walk.{counts_of}
use Rattle.runs.proofs.Pending.{sender_of, receiver_of, view_of, Pending, KeepsPending, with_sender, with_receiver, pending-stopped, pending-dropped, pending-moved}

-- ---- what is shown of the pair after a call
pub pending-after : (g : Settings) (c : Call) (b next : Both) → run_call steps g.u b c ≡ next → Pending g (view_of next.world) → Pending g (view_of (step b.world c).next)
pending-after g c b next is p = subst (λ (x : Both). Pending g (view_of x.world)) (sym is) p

-- a flush leaves the blocks of the epoch under way, which are not due
pub flush-view : (g : Settings) (b : Both) → Inv g b → (n : ℕ) → view_of (flush.after n b.world.standby.state.settings.u b).world ≡ view_of b.world
flush-view g b i n =
    let e = b.world.standby in
    let k = i.holds.standby_kept in
    let t = standby-ranges g e k in
    ap (λ (ns : List ℕ). with_receiver (view_of b.world) (record { receiving = is_receiving e.state.mode; counts = record { epoch = e.state.received + 1; numbers = ns; records = e.state.records; pages = e.state.pages; next = e.state.next; seen = e.state.seen } }))
    (fresh-flushed e.state.slots (flush_count e.state.slots n) k.reached.range.numbers t.slots.due_high (staged-few g e k) (omega arith))

module _ (g : Settings) where
  -- ---- the view is as before
  pub memory-write-pending : (page offset : ℕ) (bytes : List ℕ) → KeepsPending g (call.memory_write page offset bytes)
  memory-write-pending page offset bytes b i e p = pending-after g (call.memory_write page offset bytes) b _ (memory-write.after_is page offset bytes g.u b e) p

  pub packet-pending : (port : ℕ) (bytes : List ℕ) → KeepsPending g (call.packet port bytes)
  packet-pending port bytes b i e p = pending-after g (call.packet port bytes) b _ (packet.after_is port bytes g.u b e) p

  pub take-pending : (port : ℕ) (destination : List ℕ) → KeepsPending g (call.take port destination)
  take-pending port destination b i e p = pending-after g (call.take port destination) b _ (take-call.after_is port destination g.u b e) p

  pub flush-pending : (n : ℕ) → KeepsPending g (call.flush n)
  flush-pending n b i e p = pending-after g (call.flush n) b _ (flush.after_is n g.u b e) (subst (Pending g) (sym (flush-view g b i n)) p)

  pub active-memory-write-pending : (page offset : ℕ) (bytes : List ℕ) → KeepsPending g (call.active_memory_write page offset bytes)
  active-memory-write-pending page offset bytes b i e p = pending-after g (call.active_memory_write page offset bytes) b _ (active.after-memory page offset bytes g.u b e) p

  pub active-disk-write-pending : (block : ℕ) (bytes : List ℕ) → KeepsPending g (call.active_disk_write block bytes)
  active-disk-write-pending block bytes b i e p = pending-after g (call.active_disk_write block bytes) b _ (active.after-disk block bytes g.u b e) p

  -- ---- the standby stops receiving
  pub activation-pending : KeepsPending g call.activation
  activation-pending b i e p =
      pending-after g call.activation b _ (activation.after_is g.u b e) (pending-stopped g (view_of b.world) p (counts_of b.world.standby.state) refl)

  standby-tick-by : (b : Both) → Pending g (view_of b.world) → (on full : Bool) → is_receiving b.world.standby.state.mode ≡ on → expired (ticked b.world.standby.state.detector true) ≡ full
      → Pending g (with_receiver (view_of b.world) (receiver_of (standby_tick_state b.world.standby.state)))
  standby-tick-by b p false full x y = rw (tick-rests b.world.standby.state x).0 p
  standby-tick-by b p true false x y = rw (tick-counts b.world.standby.state x y).0 p
  standby-tick-by b p true true x y = rw (tick-takes-over b.world.standby.state x y).0 (pending-stopped g (view_of b.world) p _ refl)

  pub standby-tick-pending : KeepsPending g call.standby_tick
  standby-tick-pending b i e p =
      let s = b.world.standby.state in
      pending-after g call.standby_tick b _ (standby-tick.after_is g.u b e) (standby-tick-by b p (is_receiving s.mode) (expired (ticked s.detector true)) refl refl)

  -- ---- the primary may become alone
  module _ (b : Both) (p : Pending g (view_of b.world)) where
    abbrev Told : Primary → Type 0
    Told s = let e = b.world.primary in Pending g (with_sender (view_of b.world) (sender_of (record { state = s; memory = e.memory; disk = e.disk; dirty = e.dirty; held = e.held; stream = e.stream })))

    alone_at_lem : (full : Bool) → expired (ticked b.world.primary.state.detector (outstanding b.world.primary.state)) ≡ full → b.world.primary.state.alone ≡ false
        → Told (alone_at b.world.primary.state (ticked b.world.primary.state.detector (outstanding b.world.primary.state)))
    alone_at_lem true x a = rw x (pending-dropped g (view_of b.world) p)
    alone_at_lem false x a = rw (x, sym a) p

    primary-tick-by : (alone : Bool) → b.world.primary.state.alone ≡ alone → Told (primary_tick_state b.world.primary.state)
    primary-tick-by true a = rw (tick-alone b.world.primary.state a) p
    primary-tick-by false a =
        let s = b.world.primary.state in
        rw (tick-protected s a) (alone_at_lem (expired (ticked s.detector (outstanding s))) refl a)

  pub primary-tick-pending : KeepsPending g call.primary_tick
  primary-tick-pending b i e p = pending-after g call.primary_tick b _ (primary-tick.after_is g.u b e) (primary-tick-by b p b.world.primary.state.alone refl)

  -- ---- bytes move to the link
  pub drain-pending : (n : ℕ) (destination : List ℕ) → KeepsPending g (call.drain n destination)
  drain-pending n destination b i e p =
      pending-after g (call.drain n destination) b _ (drain.after_is n destination g.u b e)
      (pending-moved g (view_of b.world) p _ _ (drain.drained n destination g b i (drain.facts n destination b e)))
