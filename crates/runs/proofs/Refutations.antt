-- The shut-out programs (document 01, "Contracts and examples") at which demand 3 is false, by computing. Assumes nothing.
use Prim.Native.Nat.{ℕ, zero, suc, ◌<◌}
use mathlib.Core.Path.{◌≡◌, refl, ap}
use mathlib.Core.Bool.{cond, ◌&&◌}
use mathlib.Core.List.{List, [], ◌∷◌, ◌++◌}
use native.Mathlib.Omega.{arith}
use lib.Dec.{ltb, lit≤}
use lib.ListN.{get_or}
use Rattle.records.specs.Kind.{COMMIT}
use Rattle.marks.specs.Mark.{cleared}
use Rattle.staging.specs.Slot.{only_due}
use Rattle.rules.specs.StandbyState.{with_received_slots_processor}
use Rattle.rules.specs.World.{World, Call}
use Rattle.rules.specs.World as call
use Rattle.rules.specs.Step.{Stepped, step}
use Rattle.runs.specs.Demand3.{Demand3Of}
use Rattle.runs.proofs.Compute.{all_steps}
use Rattle.runs.proofs.Small.{processor_of, zeros, reads, commit_came, holds_after, take_of}
use Rattle.runs.proofs.Wrong.{instead_of, wrongly, accepts, accepts_kind, leaving, answering, primary_with, standby_with}

-- ---- takeover that always gives checkpoint 0
-- not "An accepted COMMIT copies the staged pages into memory, .. keeps the processor state, makes the epoch's staged blocks due"
abbrev pub installs_nothing : World → Call → Stepped → Stepped
installs_nothing w c s =
    let old = w.standby in
    let new = s.next.standby.state in
    cond (accepts_kind s COMMIT)
    (leaving s (standby_with s.next (with_received_slots_processor new new.received (only_due old.state.slots) old.state.processor) old.memory old.disk))
    s

pub refutes-checkpoint-0 : Demand3Of (wrongly (instead_of (call.read 0 []) installs_nothing)) → ⊥
unfolding all_steps
refutes-checkpoint-0 d =
    let e = ((holds_after _ d commit_came).takeover refl 1 (lit≤ tt)).memory in
    let z : ◌≡◌ {A = ℕ} 11 77 = ap (λ l. get_or l 0 0) e in omega arith

-- ---- takeover that always reports checkpoint 0
-- not "activation writes the record with the last received epoch", which is its value
abbrev pub answers_zero : World → Call → Stepped → Stepped
answers_zero w c s = answering s s.outcome.number 0

pub refutes-epoch-0 : Demand3Of (wrongly (instead_of call.activation answers_zero)) → ⊥
unfolding all_steps
refutes-epoch-0 d =
    let z : ◌≡◌ {A = ℕ} 0 1 = ((holds_after _ d commit_came).takeover refl 1 (lit≤ tt)).value in omega arith

-- ---- a checkpoint that sends pages the first time and only STATE and COMMIT later, the COMMIT counting no page (COMMITs alone: RuledOut)
-- not "Checkpoint: appends every dirty page"
abbrev pub sends_pages_once : World → Call → Stepped → Stepped
sends_pages_once w c s =
    let p = w.primary in
    let t = step (primary_with w p.state (cleared p.dirty p.state.settings.m) p.stream) c in
    cond (ltb 1 p.state.epoch && accepts s) t s

-- a second checkpoint, with another page
abbrev pub second : List Call
second = call.memory_write 1 0 (78 ∷ []) ∷ call.checkpoint (processor_of 3) ∷ call.drain 380 (zeros 380) ∷ reads 3

pub refutes-pages-once : Demand3Of (wrongly (instead_of (call.checkpoint (processor_of 0)) sends_pages_once)) → ⊥
unfolding all_steps
refutes-pages-once d =
    let e = ((holds_after _ d (commit_came ++ second)).takeover refl 1 (lit≤ tt)).memory in
    let z : ◌≡◌ {A = ℕ} 12 78 = ap (λ l. get_or l 64 0) e in omega arith

-- ---- a flush storing nothing: it reports the count and frees the slots
-- not "stores min(n, due) due blocks"
abbrev pub stores_nothing : World → Call → Stepped → Stepped
stores_nothing w c s = leaving s (standby_with s.next s.next.standby.state s.next.standby.memory w.standby.disk)

pub refutes-flush-nothing : Demand3Of (wrongly (instead_of (call.flush 0) stores_nothing)) → ⊥
unfolding all_steps
refutes-flush-nothing d =
    let e = ((holds_after _ d commit_came).takeover refl 1 (lit≤ tt)).disk in
    let z : ◌≡◌ {A = ℕ} 22 88 = ap (λ l. get_or l 64 0) e in omega arith

-- ---- one fixed reply to all calls, whatever it is, with the right world after it
-- 0 is not "18 nothing may be handed out"; with any other number no takeover is accepted
abbrev pub fixed : ℕ → ℕ → World → Call → Stepped
fixed number value w c = answering (step w c) number value

pub refutes-fixed-reply : (number value : ℕ) → Demand3Of (wrongly (fixed number value)) → ⊥
unfolding all_steps
refutes-fixed-reply zero value d =
    let z : 0 < 0 = ((take_of _ d [] 0 [] []).accepted refl).queued in omega arith
refutes-fixed-reply (suc n) value d =
    let z : suc n ≡ 0 = ((holds_after _ d []).takeover refl 0 (lit≤ tt)).accepted.0 in omega arith
