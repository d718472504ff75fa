-- Programs that count or stage a block written again wrongly (document 02, Job 9), each refuted by computing: what it
-- stages, by demand 3; what it counts, by progress, which alone sees that the two ends disagree. Assumes nothing.
use Prim.Native.Nat.{ℕ, ◌+◌, ◌-◌}
use mathlib.Core.Path.{◌≡◌, refl, ap}
use mathlib.Core.Bool.{cond, ◌&&◌}
use mathlib.Core.List.{List, [], ◌∷◌, ◌++◌}
use native.Mathlib.Omega.{arith}
use lib.Dec.{ltb, lit≤}
use lib.ListN.{length, get_or, take, drop}
use Rattle.lists.specs.Part.{put}
use Rattle.records.specs.Kind.{BLOCK, is_wide}
use Rattle.records.specs.Write.{commit_record}
use Rattle.staging.specs.declared.Slots.{Slots}
use Rattle.rules.specs.StandbyState.{with_slots_blocks}
use Rattle.rules.specs.Checkpoint.{dirty_count}
use Rattle.rules.specs.World.{World, Call}
use Rattle.rules.specs.World as call
use Rattle.rules.specs.Step.{Stepped, at_standby, step}
use Rattle.runs.specs.Run.{steps, run}
use Rattle.runs.specs.Demand3.{Demand3Of}
use Rattle.runs.specs.Progress.{ProgressOf}
use Rattle.runs.proofs.Compute.{all_steps}
use Rattle.runs.proofs.Small.{processor_of, unit, zeros, begun, reads, commit_came, holds_after}
use Rattle.runs.proofs.Wrong.{instead_of, wrongly, accepts, accepts_kind, leaving, primary_with, standby_with}
use Rattle.runs.proofs.ProgressRefutes.{goes_on}

-- ---- a BLOCK that reuses a due slot of its number: not "a block staged in the same epoch"
abbrev due_from : ℕ → Slots → Slots
due_from due k = record { staged = k.staged; due = due; numbers = k.numbers }

abbrev with_due : World → ℕ → World
with_due w due =
    let s = w.standby in
    standby_with w (with_slots_blocks s.state (due_from due s.state.slots) s.state.blocks s.state.records) s.memory s.disk

abbrev pub reuses_due : World → Call → Stepped → Stepped
reuses_due w c s =
    let t = step (with_due w 0) c in
    cond (accepts_kind s BLOCK) (leaving t (with_due t.next w.standby.state.slots.due)) s

-- checkpoint 1, which has block 1, and the next epoch's BLOCK of it
abbrev again : List Call
again = commit_came ++ (call.disk_write 1 (unit 89) ∷ call.drain 380 (zeros 380) ∷ reads 1)

pub refutes-due-slot-reused : Demand3Of (wrongly (instead_of (call.read 0 []) reuses_due)) → ⊥
unfolding all_steps
refutes-due-slot-reused d =
    let e = ((holds_after _ d again).takeover refl 1 (lit≤ tt)).disk in
    let z : ◌≡◌ {A = ℕ} 89 88 = ap (λ l. get_or l 64 0) e in omega arith

-- ---- a repeated BLOCK that leaves the bytes of the first: not "with the later bytes"
abbrev pub keeps_first : World → Call → Stepped → Stepped
keeps_first w c s =
    let o = w.standby in
    let n = s.next.standby in
    let same = accepts_kind s BLOCK && ltb n.state.slots.staged (o.state.slots.staged + 1) in
    cond same
    (leaving s (at_standby s.next (record { state = n.state; memory = n.memory; disk = n.disk; staged_pages = n.staged_pages; staged_marks = n.staged_marks; staged_blocks = o.staged_blocks; area = n.area })))
    s

-- block 1 twice in one epoch
abbrev twice : List Call
twice = call.disk_write 1 (unit 88) ∷ call.disk_write 1 (unit 89) ∷ []

pub refutes-first-bytes-kept : Demand3Of (wrongly (instead_of (call.read 0 []) keeps_first)) → ⊥
unfolding all_steps
refutes-first-bytes-kept d =
    let e = ((holds_after _ d (twice ++ (call.checkpoint (processor_of 2) ∷ call.drain 380 (zeros 380) ∷ reads 4))).takeover refl 1 (lit≤ tt)).disk in
    let z : ◌≡◌ {A = ℕ} 88 89 = ap (λ l. get_or l 64 0) e in omega arith

-- ---- a COMMIT that counts different blocks: not "COMMIT's count is still of records"; the standby refuses it with 10
abbrev pub counts_different : World → Call → Stepped → Stepped
counts_different w c s =
    let p = w.primary in
    let n = s.next.primary in
    let bytes = commit_record (is_wide p.state.settings.m) p.state.epoch (dirty_count p.state p.dirty) p.state.blocks in
    cond (accepts s) (leaving s (primary_with s.next n.state n.dirty (put n.stream (n.state.waiting - length bytes) bytes))) s

-- the COMMIT itself: kind 4, epoch 1, 0 pages, 2 BLOCKs, behind two of these and STATE
pub commit-of-two : take 12 (drop 220 (run steps 64 begun (twice ++ (call.checkpoint (processor_of 2) ∷ []))).world.primary.stream) ≡ 8 ∷ 0 ∷ 4 ∷ 0 ∷ 1 ∷ 0 ∷ 0 ∷ 0 ∷ 0 ∷ 0 ∷ 2 ∷ 0 ∷ []
unfolding all_steps
commit-of-two = refl

pub refutes-blocks-in-commit : ProgressOf (wrongly (instead_of (call.checkpoint (processor_of 0)) counts_different)) → ⊥
unfolding all_steps
refutes-blocks-in-commit p =
    let z : ◌≡◌ {A = ℕ} 10 0 = (goes_on _ (twice ++ (call.checkpoint (processor_of 2) ∷ call.drain 380 (zeros 380) ∷ reads 3)) p).reads refl 380 (zeros 8) in omega arith

-- ---- a standby that counts each BLOCK as a block: not "Allowance 14 .. count different blocks at both ends"; it
-- refuses the epoch's second block with 14
abbrev pub counts_repeats : World → Call → Stepped → Stepped
counts_repeats w c s =
    let n = s.next.standby in
    cond (accepts_kind s BLOCK) (leaving s (standby_with s.next (with_slots_blocks n.state n.state.slots n.state.records n.state.records) n.memory n.disk)) s

pub refutes-repeats-counted : ProgressOf (wrongly (instead_of (call.read 0 []) counts_repeats)) → ⊥
unfolding all_steps
refutes-repeats-counted p =
    let z : ◌≡◌ {A = ℕ} 14 0 = (goes_on _ (twice ++ (call.disk_write 2 (unit 90) ∷ call.drain 380 (zeros 380) ∷ reads 2)) p).reads refl 380 (zeros 8) in omega arith
