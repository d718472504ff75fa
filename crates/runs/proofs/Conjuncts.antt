-- Wrong ends for which a conjunct of `Holds` is false, by computing. Assumes nothing.
-- Each names the conjunct; the others are in Refutations and Slips.
use Rattle.std.specs.Prelude.{Result, Ok, Err}
use Prim.Native.Nat.{ℕ, ◌-◌, ◌≤◌, ◌<◌}
use mathlib.Core.Path.{◌≡◌, refl, ap}
use mathlib.Core.Bool.{Bool, true, false, cond, true≢false, false≢true}
use mathlib.Core.List.{[], ◌∷◌, ◌++◌}
use native.Mathlib.Omega.{arith}
use lib.Dec.{lit≤}
use lib.ListN.{get_or, replicate}
use Rattle.records.specs.Kind.{COMMIT}
use Rattle.records.specs.declared.refusal.Refusal.{Refusal}
use Rattle.rules.specs.declared.Disk.{Disk}
use Rattle.rules.specs.declared.Disk.TheVariants.{PrimaryDisk, StandbyDisk}
use Rattle.rules.specs.declared.Mode.TheVariants.{Active}
use Rattle.rules.specs.PrimaryState.{with_acknowledged_detector, with_detector_alone_waiting}
use Rattle.rules.specs.StandbyState.{is_taking_over, with_received_slots_processor, with_mode}
use Rattle.rules.specs.World.{World, Call}
use Rattle.rules.specs.World as call
use Rattle.rules.specs.Step.{Stepped, at_primary, at_standby}
use Rattle.runs.specs.Demand3.{takeover_calls, Demand3Of}
use Rattle.runs.proofs.Compute.{all_steps}
use Rattle.runs.proofs.Small.{processor_of, unit, reads, sent, state_came, commit_came, holds_after}
use Rattle.runs.proofs.Wrong.{instead_of, wrongly, accepts, accepts_kind, leaving, answering, primary_with, standby_with}

-- ---- the standby that is active

-- `same`: a standby active at T, without an activation
-- not "At T it takes over"; "When none is due, activation writes the record .. and the standby is active"
abbrev pub active_at_t : World → Call → Stepped → Stepped
active_at_t w c s =
    let n = s.next.standby in
    cond (is_taking_over n.state.mode) (leaving s (standby_with s.next (with_mode n.state Active) n.memory n.disk)) s

pub refutes-active-at-t : Demand3Of (wrongly (instead_of call.standby_tick active_at_t)) → ⊥
unfolding all_steps
refutes-active-at-t d = true≢false (holds_after _ d (replicate 3 call.standby_tick)).standby.same

-- `memory`: the guest's write at the standby stores nothing
-- not "Write: its bytes replace those in its end's image"
abbrev pub writes_nothing : World → Call → Stepped → Stepped
writes_nothing w c s = leaving s (standby_with s.next s.next.standby.state w.standby.memory s.next.standby.disk)

pub refutes-write-of-nothing : Demand3Of (wrongly (instead_of (call.active_memory_write 0 0 []) writes_nothing)) → ⊥
unfolding all_steps
refutes-write-of-nothing d =
    let e = (holds_after _ d (takeover_calls 3 0 ++ (call.active_memory_write 0 0 (77 ∷ []) ∷ []))).standby.memory refl in
    let z : ◌≡◌ {A = ℕ} 11 77 = ap (λ l. get_or l 0 0) e in omega arith

-- `processor`: an activation that goes on from the last STATE, whose COMMIT did not come
-- not "An accepted COMMIT .. keeps the processor state"
abbrev pub goes_on_from_state : World → Call → Stepped → Stepped
goes_on_from_state w c s =
    let n = s.next.standby in
    cond (accepts s) (leaving s (standby_with s.next (with_received_slots_processor n.state n.state.received n.state.slots n.state.pending) n.memory n.disk)) s

pub refutes-activation-from-state : Demand3Of (wrongly (instead_of call.activation goes_on_from_state)) → ⊥
unfolding all_steps
refutes-activation-from-state d =
    let e = (holds_after _ d (state_came ++ takeover_calls 3 0)).standby.processor refl in
    let z : ◌≡◌ {A = ℕ} 2 1 = ap (λ l. get_or l 0 0) e in omega arith

-- ---- the takeover

-- `activates`: an accepted activation that leaves the standby taking over
-- not "the standby is active and accepts the guest's memory and disk writes"
abbrev pub activates_nothing : World → Call → Stepped → Stepped
activates_nothing w c s = leaving s w

pub refutes-activation-of-nothing : Demand3Of (wrongly (instead_of call.activation activates_nothing)) → ⊥
unfolding all_steps
refutes-activation-of-nothing d = false≢true ((holds_after _ d []).takeover refl 0 (lit≤ tt)).activates

-- `processor`: a COMMIT that leaves the processor state of the checkpoint before it
-- not "An accepted COMMIT .. keeps the processor state"
abbrev pub keeps_old_processor : World → Call → Stepped → Stepped
keeps_old_processor w c s =
    let n = s.next.standby in
    cond (accepts_kind s COMMIT)
    (leaving s (standby_with s.next (with_received_slots_processor n.state n.state.received n.state.slots w.standby.state.processor) n.memory n.disk))
    s

pub refutes-old-processor : Demand3Of (wrongly (instead_of (call.read 0 []) keeps_old_processor)) → ⊥
unfolding all_steps
refutes-old-processor d =
    let e = ((holds_after _ d commit_came).takeover refl 1 (lit≤ tt)).processor in
    let z : ◌≡◌ {A = ℕ} 1 2 = ap (λ l. get_or l 0 0) e in omega arith

-- ---- the disks

-- `choice`: an activation that writes no record
-- not "activation writes the record with the last received epoch"
abbrev pub writes_no_record : World → Call → Stepped → Stepped
writes_no_record w c s =
    let n = s.next.standby in
    leaving s (at_standby s.next (record { state = n.state; memory = n.memory; disk = n.disk; staged_pages = n.staged_pages; staged_marks = n.staged_marks; staged_blocks = n.staged_blocks; area = w.standby.area }))

abbrev is_primary_disk : Result Disk Refusal → Bool
is_primary_disk (Ok PrimaryDisk) = true
is_primary_disk (Ok StandbyDisk) = false
is_primary_disk (Err refusal) = false

pub refutes-no-record : Demand3Of (wrongly (instead_of call.activation writes_no_record)) → ⊥
unfolding all_steps
refutes-no-record d = true≢false (ap is_primary_disk (holds_after _ d (takeover_calls 3 0)).disks.choice)

-- `bytes`: a guest's disk write that goes into the stream and not onto the primary's disk
-- not "Write: its bytes replace those in its end's image"
abbrev pub only_sends : World → Call → Stepped → Stepped
only_sends w c s =
    let n = s.next.primary in
    leaving s (at_primary s.next (record { state = n.state; memory = n.memory; disk = w.primary.disk; dirty = n.dirty; held = n.held; stream = n.stream }))

pub refutes-disk-write-only-sent : Demand3Of (wrongly (instead_of (call.disk_write 0 []) only_sends)) → ⊥
unfolding all_steps
refutes-disk-write-only-sent d =
    let e = (holds_after _ d (call.disk_write 1 (unit 88) ∷ [])).disks.bytes in
    let z : ◌≡◌ {A = ℕ} 22 88 = ap (λ l. get_or l 64 0) e in omega arith

-- ---- the plain pair beside the real one

-- `protection`: a primary that is alone from its first tick on
-- not "from T on it is alone"
abbrev pub alone_at_once : World → Call → Stepped → Stepped
alone_at_once w c s =
    let n = s.next.primary in
    leaving s (primary_with s.next (with_detector_alone_waiting n.state n.state.detector true n.state.waiting) n.dirty n.stream)

pub refutes-alone-at-once : Demand3Of (wrongly (instead_of call.primary_tick alone_at_once)) → ⊥
unfolding all_steps
refutes-alone-at-once d = true≢false (holds_after _ d (call.primary_tick ∷ [])).protection

-- `received`: a COMMIT that leaves the last received epoch as it was
-- not "Read: a COMMIT adds 1 to r"
abbrev pub receives_nothing : World → Call → Stepped → Stepped
receives_nothing w c s =
    let n = s.next.standby in
    leaving s (standby_with s.next (with_received_slots_processor n.state w.standby.state.received n.state.slots n.state.processor) n.memory n.disk)

pub refutes-receiving-nothing : Demand3Of (wrongly (instead_of (call.read 0 []) receives_nothing)) → ⊥
unfolding all_steps
refutes-receiving-nothing d = let z : ◌≡◌ {A = ℕ} 0 1 = (holds_after _ d commit_came).received in omega arith

-- `acknowledged`: an accepted ACK that leaves the acknowledged epoch as it was
-- not "ACK: a is its epoch"
abbrev pub acknowledges_nothing : World → Call → Stepped → Stepped
acknowledges_nothing w c s =
    let n = s.next.primary in
    leaving s (primary_with s.next (with_acknowledged_detector n.state w.primary.state.acknowledged n.state.detector) n.dirty n.stream)

pub refutes-acknowledging-nothing : Demand3Of (wrongly (instead_of (call.ack 0) acknowledges_nothing)) → ⊥
unfolding all_steps
refutes-acknowledging-nothing d = let z : ◌≡◌ {A = ℕ} 0 1 = (holds_after _ d (commit_came ++ (call.ack 8 ∷ []))).acknowledged in omega arith

-- `acknowledged_received`: an ACK that counts for every epoch closed, also one not received
-- not "ACK: a is its epoch"
abbrev pub acknowledges_closed : World → Call → Stepped → Stepped
acknowledges_closed w c s =
    let n = s.next.primary in
    let closed = n.state.epoch - 1 in
    cond (accepts s) (leaving (answering s 0 closed) (primary_with s.next (with_acknowledged_detector n.state closed n.state.detector) n.dirty n.stream)) s

pub refutes-acknowledging-closed : Demand3Of (wrongly (instead_of (call.ack 0) acknowledges_closed)) → ⊥
unfolding all_steps
refutes-acknowledging-closed d =
    let z : 2 ≤ 1 = (holds_after _ d (commit_came ++ (call.checkpoint (processor_of 3) ∷ call.ack 8 ∷ []))).acknowledged_received in omega arith

-- `received_exists`: a read that reports every record as a COMMIT
-- not the record's kind, which is a read's value
abbrev pub reports_commits : World → Call → Stepped → Stepped
reports_commits w c s = cond (accepts s) (answering s 0 COMMIT) s

pub refutes-reported-commits : Demand3Of (wrongly (instead_of (call.read 0 []) reports_commits)) → ⊥
unfolding all_steps
refutes-reported-commits d = let z : 2 < 2 = (holds_after _ d (sent ++ reads 2)).received_exists in omega arith
