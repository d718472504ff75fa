-- The slips seen in the trade (document 01), a drain and a plain pair, at which demand 3 is false, by computing. Assumes nothing.
use Prim.Native.Nat.{ℕ, ◌+◌, ◌<◌}
use mathlib.Core.Path.{◌≡◌, refl, ap}
use mathlib.Core.Bool.{true, cond}
use mathlib.Core.List.{List, [], ◌∷◌, ◌++◌, map}
use native.Mathlib.Omega.{arith}
use lib.Dec.{eqb, lit≤}
use lib.ListN.{length, drop, get_or, replicate}
use Rattle.lists.specs.Refusal.{pick}
use Rattle.lists.specs.Page.{page, with_page}
use Rattle.records.specs.Kind.{BLOCK, STATE}
use Rattle.records.specs.Write.{ack_record}
use Rattle.marks.specs.Mark.{cleared}
use Rattle.staging.specs.Slot.{empty_slots, all_due}
use Rattle.rules.specs.PrimaryState.{with_detector_alone_waiting}
use Rattle.rules.specs.StandbyState.{with_slots_blocks}
use Rattle.rules.specs.World.{World, Call}
use Rattle.rules.specs.World as call
use Rattle.rules.specs.Step.{Outcome, Stepped, step}
use Rattle.runs.specs.Plain.{Plain, with_counts, plain_step}
use Rattle.runs.specs.Demand3.{Demand3Of}
use Rattle.runs.proofs.Compute.{all_steps}
use Rattle.runs.proofs.Small.{processor_of, unit, zeros, reads, block_came, state_came, commit_came, holds_after, take_of}
use Rattle.runs.proofs.Wrong.{same_kind, instead_of, wrongly, accepts_kind, leaving, primary_with, standby_with, travelling}

-- ---- acknowledging at STATE already
-- not "An accepted COMMIT .. writes the ACK ..; only then is the checkpoint wholly received"
abbrev pub acknowledges_at_state : World → Call → Stepped → Stepped
acknowledges_at_state w c s =
    cond (accepts_kind s STATE) (leaving s (travelling s.next s.next.link (s.next.acks ++ ack_record (w.standby.state.received + 1)))) s

-- a packet leaves of which the standby knows nothing
pub refutes-ack-at-state : Demand3Of (wrongly (instead_of (call.read 0 []) acknowledges_at_state)) → ⊥
unfolding all_steps
refutes-ack-at-state d =
    let z : 0 < 0 = (((take_of _ d (state_came ++ (call.ack 8 ∷ [])) 0 (zeros 1) []).accepted refl).saved refl).below in omega arith

-- ---- releasing up to the open epoch, as if the primary were alone
-- not "hands out the oldest packet if its epoch is acknowledged"
abbrev pub releases_open : World → Call → Stepped → Stepped
releases_open w c s =
    let p = w.primary in
    let t = step (primary_with w (with_detector_alone_waiting p.state p.state.detector true p.state.waiting) p.dirty p.stream) c in
    leaving t (primary_with t.next (with_detector_alone_waiting t.next.primary.state p.state.detector p.state.alone p.state.waiting) p.dirty p.stream)

pub refutes-release-open : Demand3Of (wrongly (instead_of (call.take 0 []) releases_open)) → ⊥
unfolding all_steps
refutes-release-open d =
    let z : 0 < 0 = (((take_of _ d (call.packet 0 (99 ∷ []) ∷ []) 0 (zeros 1) []).accepted refl).saved refl).below in omega arith

-- ---- storing a BLOCK on arrival
-- not "No block reaches the disk before it is due"
abbrev pub stores_on_arrival : World → Call → Stepped → Stepped
stores_on_arrival w c s =
    let n = s.next.standby in
    let u = n.state.settings.u in
    let slot = w.standby.state.slots.staged in
    cond (accepts_kind s BLOCK)
    (leaving s (standby_with s.next n.state n.memory (with_page u n.disk (get_or n.state.slots.numbers slot 0) (page u n.staged_blocks slot))))
    s

pub refutes-stored-on-arrival : Demand3Of (wrongly (instead_of (call.read 0 []) stores_on_arrival)) → ⊥
unfolding all_steps
refutes-stored-on-arrival d =
    let e = ((holds_after _ d block_came).takeover refl 0 (lit≤ tt)).disk in
    let z : ◌≡◌ {A = ℕ} 88 22 = ap (λ l. get_or l 64 0) e in omega arith

-- ---- a BLOCK due on arrival
-- not "An accepted COMMIT .. makes the epoch's staged blocks due"
abbrev pub due_on_arrival : World → Call → Stepped → Stepped
due_on_arrival w c s =
    let n = s.next.standby in
    cond (accepts_kind s BLOCK) (leaving s (standby_with s.next (with_slots_blocks n.state (all_due n.state.slots) n.state.blocks n.state.records) n.memory n.disk)) s

pub refutes-due-on-arrival : Demand3Of (wrongly (instead_of (call.read 0 []) due_on_arrival)) → ⊥
unfolding all_steps
refutes-due-on-arrival d =
    let e = ((holds_after _ d block_came).takeover refl 1 (lit≤ tt)).disk in
    let z : ◌≡◌ {A = ℕ} 88 22 = ap (λ l. get_or l 64 0) e in omega arith

-- ---- activating with blocks due, as if no slot were in use
-- not "When none is due, activation writes the record"
abbrev pub activates_due : World → Call → Stepped → Stepped
activates_due w c s =
    let o = w.standby in
    let t = step (standby_with w (with_slots_blocks o.state empty_slots o.state.blocks o.state.records) o.memory o.disk) c in
    let n = t.next.standby in
    leaving t (standby_with t.next (with_slots_blocks n.state o.state.slots o.state.blocks o.state.records) n.memory n.disk)

pub refutes-activation-with-due : Demand3Of (wrongly (instead_of call.activation activates_due)) → ⊥
unfolding all_steps
refutes-activation-with-due d =
    let e = (holds_after _ d (commit_came ++ (replicate 3 call.standby_tick ++ (call.activation ∷ [])))).standby.disk refl in
    let z : ◌≡◌ {A = ℕ} 22 88 = ap (λ l. get_or l 64 0) e in omega arith

-- ---- clearing dirty marks on a refused checkpoint
-- not "one refused or cut short: nothing changes"
abbrev pub clears_always : World → Call → Stepped → Stepped
clears_always w c s =
    let n = s.next.primary in
    leaving s (primary_with s.next n.state (cleared w.primary.dirty n.state.settings.m) n.stream)

-- the stream has no room for the second checkpoint until it is drained
abbrev pub refused_once : List Call
refused_once =
    call.memory_write 0 0 (77 ∷ [])
    ∷ call.disk_write 1 (unit 88)
    ∷ call.disk_write 2 (unit 89)
    ∷ call.checkpoint (processor_of 2)
    ∷ call.memory_write 1 0 (78 ∷ [])
    ∷ call.checkpoint (processor_of 3)
    ∷ call.drain 380 (zeros 380)
    ∷ call.checkpoint (processor_of 3)
    ∷ call.drain 380 (zeros 380)
    ∷ reads 8

pub refutes-cleared-marks : Demand3Of (wrongly (instead_of (call.checkpoint (processor_of 0)) clears_always)) → ⊥
unfolding all_steps
refutes-cleared-marks d =
    let e = ((holds_after _ d refused_once).takeover refl 2 (lit≤ tt)).memory in
    let z : ◌≡◌ {A = ℕ} 12 78 = ap (λ l. get_or l 64 0) e in omega arith

-- ---- a drain that hands over other bytes than it took: 78 for each 77
-- not "Drain n: moves the first min(n, waiting, destination length) bytes out"
abbrev pub drains_other : World → Call → Stepped → Stepped
drains_other w c s =
    leaving s (travelling s.next (w.link ++ map (λ (b : ℕ). cond (eqb b 77) 78 b) (drop (length w.link) s.next.link)) s.next.acks)

pub refutes-drain-of-other-bytes : Demand3Of (wrongly (instead_of (call.drain 0 []) drains_other)) → ⊥
unfolding all_steps
refutes-drain-of-other-bytes d =
    let e = ((holds_after _ d commit_came).takeover refl 1 (lit≤ tt)).memory in
    let z : ◌≡◌ {A = ℕ} 78 77 = ap (λ l. get_or l 0 0) e in omega arith

-- ---- the plain pair's r counted at STATE
-- not "Read: a COMMIT adds 1 to r"
abbrev pub counts_states : ℕ → Call → Outcome → Plain → Plain
counts_states u c o p =
    cond (same_kind c (call.read 0 []))
    (pick o.number (with_counts p (cond (eqb o.value STATE) (p.r + 1) p.r) p.a p.count) p)
    (plain_step u c o p)

pub refutes-received-at-state : Demand3Of (record { real = step; plain = counts_states }) → ⊥
unfolding all_steps
refutes-received-at-state d =
    let z : ◌≡◌ {A = ℕ} 0 1 = ((holds_after _ d state_came).takeover refl 0 (lit≤ tt)).value in omega arith
