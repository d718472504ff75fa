-- The shut-out programs that a step rule rules out (demand 2): each refuses, leaves out or misreports something, and what is received stays right,
-- so that demand 3 has nothing against them. Each differs from `step` at a world that a run reaches, by computing. Assumes nothing.
use Prim.Native.Nat.{ℕ, suc, ◌+◌}
use mathlib.Core.Path.{◌≡◌, ap}
use mathlib.Core.Bool.{cond}
use mathlib.Core.List.{List, [], ◌∷◌, ◌++◌}
use native.Mathlib.Omega.{arith}
use lib.Dec.{ltb}
use lib.ListN.{length, get_or}
use Rattle.lists.specs.Part.{put}
use Rattle.records.specs.Kind.{is_wide}
use Rattle.records.specs.Write.{commit_record}
use Rattle.records.specs.Number.{stream_full, queue_full, slots_full, nothing_free, no_such_port}
use Rattle.rules.specs.PrimaryState.{with_waiting}
use Rattle.rules.specs.Checkpoint.{dirty_count}
use Rattle.rules.specs.World.{World, Call}
use Rattle.rules.specs.World as call
use Rattle.rules.specs.Step.{Stepped, step}
use Rattle.runs.specs.Run.{steps, run}
use Rattle.runs.proofs.Compute.{all_steps}
use Rattle.runs.proofs.Small.{processor_of, unit, zeros, begun, sent, commit_came}
use Rattle.runs.proofs.Wrong.{instead_of, leaving, answering, refusing, primary_with, travelling}

-- the world after some calls
abbrev pub world_after : List Call → World
world_after calls = (run steps 64 begun calls).world

-- the wrong program gives another number there than `step` does
abbrev pub OtherNumber : (World → Call → Stepped → Stepped) → World → Call → Type 0
OtherNumber wrong w c = ((instead_of c wrong w c).outcome.number ≡ (step w c).outcome.number) → ⊥

abbrev pub OtherValue : (World → Call → Stepped → Stepped) → World → Call → Type 0
OtherValue wrong w c = ((instead_of c wrong w c).outcome.value ≡ (step w c).outcome.value) → ⊥

-- it leaves another stream at the primary, or other bytes on the link
abbrev pub OtherStream : (World → Call → Stepped → Stepped) → World → Call → Type 0
OtherStream wrong w c = ((instead_of c wrong w c).next.primary.stream ≡ (step w c).next.primary.stream) → ⊥

abbrev pub OtherLink : (World → Call → Stepped → Stepped) → World → Call → Type 0
OtherLink wrong w c = ((instead_of c wrong w c).next.link ≡ (step w c).next.link) → ⊥

-- refused with this number whatever the state
abbrev pub refuses : ℕ → World → Call → Stepped → Stepped
refuses n w c s = refusing w n

-- ---- 18 with a packet free to go
-- not "hands out the oldest packet if its epoch is acknowledged"
pub rules-out-18 : OtherNumber (refuses nothing_free) (world_after (commit_came ++ (call.ack 8 ∷ []))) (call.take 0 (zeros 1))
unfolding all_steps
rules-out-18 e = let z : ◌≡◌ {A = ℕ} 18 0 = e in omega arith

-- ---- 15 to 17 with space, 23 with a port that there is
-- not "15 the stream lacks the bytes needed"
pub rules-out-15 : OtherNumber (refuses stream_full) (world_after []) (call.checkpoint (processor_of 2))
unfolding all_steps
rules-out-15 e = let z : ◌≡◌ {A = ℕ} 15 0 = e in omega arith

pub rules-out-15-block : OtherNumber (refuses stream_full) (world_after []) (call.disk_write 0 (unit 88))
unfolding all_steps
rules-out-15-block e = let z : ◌≡◌ {A = ℕ} 15 0 = e in omega arith

-- not "16 64 packets held, or Q would be passed"
pub rules-out-16 : OtherNumber (refuses queue_full) (world_after []) (call.packet 0 (unit 99))
unfolding all_steps
rules-out-16 e = let z : ◌≡◌ {A = ℕ} 16 0 = e in omega arith

-- not "23 when the port is above 3"
pub rules-out-23 : OtherNumber (refuses no_such_port) (world_after []) (call.packet 3 (unit 99))
unfolding all_steps
rules-out-23 e = let z : ◌≡◌ {A = ℕ} 23 0 = e in omega arith

-- not "17 S blocks staged"
pub rules-out-17 : OtherNumber (refuses slots_full) (world_after sent) (call.read 74 [])
unfolding all_steps
rules-out-17 e = let z : ◌≡◌ {A = ℕ} 17 0 = e in omega arith

-- ---- a standby that refuses every record, whatever the number
-- not "Reading a record: 1, 13, header incomplete, 6, 7, body incomplete, 2, 5 (COMMIT only), 8, 9, 10, 11, 14, 17"
pub rules-out-refusing-all : (n : ℕ) → OtherNumber (refuses (suc n)) (world_after sent) (call.read 74 [])
unfolding all_steps
rules-out-refusing-all n e = let z : suc n ≡ 0 = e in omega arith

-- ---- a made-up flush count, where one block is due and stored
-- not "stores min(n, due) due blocks in order of arrival, and reports that count"
abbrev pub counts_one_more : World → Call → Stepped → Stepped
counts_one_more w c s = answering s s.outcome.number (s.outcome.value + 1)

pub rules-out-flush-count : OtherValue counts_one_more (world_after commit_came) (call.flush 3)
unfolding all_steps
rules-out-flush-count e = let z : ◌≡◌ {A = ℕ} 2 1 = e in omega arith

-- ---- a checkpoint that sends pages the first time and only COMMITs later: the standby refuses each with 9
-- not "Checkpoint: appends every dirty page, STATE and COMMIT"
abbrev pub sends_commit : World → Call → Stepped → Stepped
sends_commit w c s =
    let p = w.primary in
    let n = s.next.primary in
    let bytes = commit_record (is_wide p.state.settings.m) p.state.epoch (dirty_count p.state p.dirty) p.state.records in
    cond (ltb 1 p.state.epoch)
    (leaving s (primary_with s.next (with_waiting n.state (p.state.waiting + length bytes)) n.dirty (put p.stream p.state.waiting bytes)))
    s

pub rules-out-only-commits : OtherStream sends_commit (world_after (commit_came ++ (call.memory_write 1 0 (78 ∷ []) ∷ []))) (call.checkpoint (processor_of 3))
unfolding all_steps
rules-out-only-commits e = let z : ◌≡◌ {A = ℕ} 8 70 = ap (λ l. get_or l 0 0) e in omega arith

-- ---- a drain that hands over zeros: the standby refuses them with 6
-- not "Drain n: moves the first min(n, waiting, destination length) bytes out"
abbrev pub drains_zeros : World → Call → Stepped → Stepped
drains_zeros w c s = leaving s (travelling s.next (w.link ++ zeros s.outcome.value) s.next.acks)

pub rules-out-drain-of-zeros : OtherLink drains_zeros (world_after (call.disk_write 1 (unit 88) ∷ [])) (call.drain 74 (zeros 74))
unfolding all_steps
rules-out-drain-of-zeros e = let z : ◌≡◌ {A = ℕ} 0 70 = ap (λ l. get_or l 0 0) e in omega arith
