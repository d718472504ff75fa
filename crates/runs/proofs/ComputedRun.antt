-- One list of calls from an accepted start, computed: every outcome, the standby at the end, and three cuts of it. Assumes nothing.
-- Numbers that occur in it, which are all that a list of this length can give after an accepted start:
--   1 (the standby's sum), 2 3 4, 5 (reply, destination), 13 (checkpoint, ACK, record, activation, guest write), 14,
--   15, 16, 17, 18, 20, 23 (packet, take), and cut short (256).
-- The others: 1 of any other call, every state stays in range and `step` lends what start was lent; 6 to 11, the link
-- and the ACKs bring what the other end wrote, in order and once; 12 is the disk choice's; 19 comes after 4,294,967,294
-- checkpoints.
use Rattle.std.specs.Prelude.{Result, Ok}
use Prim.Native.Nat.{ℕ}
use mathlib.Core.Path.{◌≡◌, refl}
use mathlib.Core.Bool.{true}
use mathlib.Core.List.{List, [], ◌∷◌, ◌++◌}
use lib.ListN.{length, replicate}
use Rattle.records.specs.declared.refusal.Refusal.{Refusal}
use Rattle.rules.specs.declared.Disk.{Disk}
use Rattle.rules.specs.declared.Disk.TheVariants.{PrimaryDisk, StandbyDisk}
use Rattle.rules.specs.Choose.{choice_of, chosen_disk}
use Rattle.rules.specs.World.{Call}
use Rattle.rules.specs.World as call
use Rattle.runs.specs.Plain.{received_checkpoint, is_alone}
use Rattle.runs.specs.Run.{Both, steps, run}
use Rattle.runs.specs.Cut.{Running, not_made, made, budget, uncut, after, Cut, counted_calls}
use Rattle.runs.specs.Demand3.{active, takeover_calls}
use Rattle.runs.proofs.Compute.{all_steps}
use Rattle.runs.proofs.Small.{processor_of, unit, zeros, begun, Row, row, calls_of, outcomes_of, outcomes, handed_out}

abbrev pub rows : List Row
rows =
    -- epoch 1
    row (call.memory_write 0 60 (1 ∷ 2 ∷ 3 ∷ 4 ∷ [])) 0 1
    ∷ row (call.memory_write 2 0 (1 ∷ [])) 2 0
    ∷ row (call.memory_write 1 61 (1 ∷ 2 ∷ 3 ∷ 4 ∷ [])) 3 0
    ∷ row (call.disk_write 2 (unit 41)) 0 1
    ∷ row (call.disk_write 0 (unit 42)) 0 1
    ∷ row (call.disk_write 1 (unit 43)) 14 0
    ∷ row (call.packet 4 []) 4 0
    ∷ row (call.packet 4 (replicate 65 51)) 23 0
    ∷ row (call.packet 1 (replicate 40 51)) 0 1
    ∷ row (call.packet 0 (replicate 30 52)) 16 0
    ∷ row (call.take 1 (zeros 64)) 18 0
    ∷ row (call.checkpoint (processor_of 61)) 0 1
    -- epoch 2: the stream is full
    ∷ row (call.disk_write 1 (unit 43)) 0 2
    ∷ row (call.memory_write 1 0 (9 ∷ [])) 0 2
    ∷ row (call.checkpoint (processor_of 62)) 15 0
    ∷ row (call.packet 0 (replicate 20 52)) 0 2
    -- checkpoint 1 on its way, in parts
    ∷ row (call.drain 100 (zeros 200)) 0 100
    ∷ row (call.read 50 (zeros 8)) 256 0
    ∷ row (call.read 100 (zeros 8)) 0 2
    ∷ row (call.read 26 (zeros 8)) 256 0
    ∷ row (call.drain 1000 (zeros 400)) 0 280
    ∷ row (call.read 74 (zeros 8)) 0 2
    ∷ row (call.read 300 (zeros 8)) 0 1
    ∷ row (call.read 300 []) 0 3
    ∷ row (call.read 12 (zeros 7)) 5 0
    ∷ row (call.read 12 (zeros 10)) 0 4
    ∷ row call.activation 13 0
    ∷ row (call.ack 5) 256 0
    ∷ row (call.ack 8) 0 1
    -- port 1's packet is free, port 0's is not
    ∷ row (call.take 4 []) 23 0
    ∷ row (call.take 0 []) 18 0
    ∷ row (call.take 1 (zeros 39)) 5 0
    ∷ row (call.take 1 (zeros 50)) 0 40
    ∷ row (call.take 1 (zeros 50)) 18 0
    -- checkpoint 2 has block 0 twice: a third block would be too many. One slot of three is free until a flush: block 0
    -- is in a due slot too, which it does not reuse; its second BLOCK reuses the slot of its first, with no slot free.
    -- The checkpoint takes six ticks, twice T, never three between two records
    ∷ row (call.disk_write 0 (unit 40)) 0 2
    ∷ row (call.disk_write 2 (unit 45)) 14 0
    ∷ row (call.disk_write 0 (unit 44)) 0 2
    ∷ row (call.checkpoint (processor_of 62)) 0 2
    ∷ row (call.read 74 (zeros 8)) 0 2
    ∷ row (call.drain 400 (zeros 400)) 0 306
    ∷ row (call.read 74 (zeros 8)) 17 0
    ∷ row (call.flush 1) 0 1
    ∷ row (call.read 74 (zeros 8)) 0 2
    ∷ row (call.read 74 (zeros 8)) 0 2
    ∷ row call.standby_tick 0 0
    ∷ row call.standby_tick 0 0
    ∷ row (call.read 74 (zeros 8)) 0 1
    ∷ row call.standby_tick 0 0
    ∷ row call.standby_tick 0 0
    ∷ row (call.read 72 (zeros 8)) 0 3
    ∷ row call.standby_tick 0 0
    ∷ row call.standby_tick 0 0
    -- the standby's sum is checkpoint 1's until the COMMIT and then the primary's, in another order too; an order that
    -- names a page twice or leaves one out is refused
    ∷ row (call.standby_sum (0 ∷ 1 ∷ [])) 0 94872
    ∷ row (call.read 12 (zeros 8)) 0 4
    ∷ row call.primary_sum 0 94677
    ∷ row (call.standby_sum (1 ∷ 0 ∷ [])) 0 94677
    ∷ row (call.standby_sum (1 ∷ 1 ∷ [])) 1 0
    ∷ row (call.standby_sum (1 ∷ [])) 1 0
    -- epoch 3: the primary becomes alone within a PAGE, the rest of which is dropped
    ∷ row (call.packet 3 (replicate 10 53)) 0 2
    ∷ row (call.memory_write 0 0 (99 ∷ [])) 0 3
    ∷ row (call.checkpoint (processor_of 63)) 0 3
    ∷ row (call.drain 30 (zeros 30)) 0 30
    ∷ row (call.read 30 (zeros 8)) 256 0
    ∷ row call.primary_tick 0 0
    ∷ row call.primary_tick 0 0
    ∷ row call.primary_tick 0 0
    ∷ row (call.drain 200 (zeros 200)) 0 0
    ∷ row (call.checkpoint (processor_of 64)) 13 0
    ∷ row (call.ack 8) 13 0
    ∷ row call.primary_sum 0 94765
    -- port 3's packet goes out from behind port 0's, which is longer
    ∷ row (call.take 3 (zeros 10)) 0 10
    ∷ row (call.take 0 (zeros 20)) 0 20
    ∷ row (call.disk_write 0 (unit 45)) 0 4
    ∷ row (call.disk_write 1 (unit 46)) 0 4
    ∷ row (call.disk_write 2 (unit 47)) 0 4
    ∷ row (call.read 100 (zeros 8)) 256 0
    -- the takeover
    ∷ row (call.active_memory_write 0 0 (1 ∷ [])) 13 0
    ∷ row call.standby_tick 0 0
    ∷ row call.standby_tick 0 0
    ∷ row call.standby_tick 0 0
    ∷ row (call.read 30 (zeros 8)) 13 0
    ∷ row call.activation 20 0
    ∷ row (call.flush 2) 0 2
    ∷ row (call.disk_write 0 (unit 48)) 0 4
    ∷ row (call.flush 5) 0 1
    ∷ row call.activation 0 2
    -- the guest at the standby
    ∷ row (call.active_memory_write 1 63 (77 ∷ [])) 0 2
    ∷ row (call.active_memory_write 1 63 (77 ∷ 78 ∷ [])) 3 0
    ∷ row (call.standby_sum (1 ∷ 0 ∷ [])) 0 102997
    ∷ row (call.active_disk_write 2 (unit 49)) 0 2
    ∷ row (call.active_disk_write 3 (unit 49)) 2 0
    ∷ row call.activation 13 0
    ∷ row call.standby_tick 0 0
    ∷ row (call.flush 1) 0 0
    ∷ []

pub run-outcomes : outcomes steps begun.world (calls_of rows) ≡ outcomes_of rows
unfolding all_steps
run-outcomes = refl

-- the packets in the order in which they were taken
pub run-packets : handed_out steps begun.world (calls_of rows) ≡ replicate 40 51 ∷ replicate 10 53 ∷ replicate 20 52 ∷ []
unfolding all_steps
run-packets = refl

-- the disk choice on what both boxes stored
abbrev pub choice_at : Both → Result Disk Refusal
choice_at b = choice_of (length b.world.primary.disk) (length b.world.standby.disk) b.world.standby.area

abbrev pub disk_at : Both → List ℕ
disk_at b = chosen_disk b.world.primary.disk b.world.standby.disk b.world.standby.area

abbrev pub ended : Both
ended = run steps 64 begun (calls_of rows)

-- checkpoint 2's images, and the guest's writes at the standby
abbrev pub memory2 : List ℕ
memory2 = replicate 60 11 ++ ((1 ∷ 2 ∷ 3 ∷ 4 ∷ []) ++ (9 ∷ replicate 63 12))

abbrev pub disk2 : List ℕ
disk2 = unit 44 ++ (unit 43 ++ unit 41)

abbrev pub memory_last : List ℕ
memory_last = replicate 60 11 ++ ((1 ∷ 2 ∷ 3 ∷ 4 ∷ []) ++ (9 ∷ (replicate 62 12 ++ (77 ∷ []))))

abbrev pub disk_last : List ℕ
disk_last = unit 44 ++ (unit 43 ++ unit 49)

pub run-memory : (ended.world.standby.memory ≡ memory_last) × (ended.plain.standby_memory ≡ memory_last)
unfolding all_steps
run-memory = (refl, refl)

pub run-disk : (ended.world.standby.disk ≡ disk_last) × (ended.plain.standby_disk ≡ disk_last)
unfolding all_steps
run-disk = (refl, refl)

pub run-processor : (ended.world.standby.state.processor ≡ unit 62) × ((received_checkpoint ended.plain).processor ≡ unit 62)
unfolding all_steps
run-processor = (refl, refl)

-- checkpoints 0 to 3 were made, 2 is received, 1 acknowledged, and the primary is alone
pub run-counts : (ended.plain.r ≡ 2) × (ended.plain.a ≡ 1) × (length ended.plain.checkpoints ≡ 4) × (is_alone 3 ended.plain ≡ true)
unfolding all_steps
run-counts = (refl, refl, refl, refl)

-- the primary's disk went on, and is not the one chosen
pub run-choice : (choice_at ended ≡ Ok StandbyDisk) × (disk_at ended ≡ disk_last) × (ended.world.primary.disk ≡ unit 48 ++ (unit 46 ++ unit 47))
unfolding all_steps
run-choice = (refl, refl, refl)

-- ---- the same list, the standby cut inside its flush of 2, which counts as one of 1; the primary goes on, and a takeover follows
abbrev pub standby_cut : Cut
standby_cut = record { primary = uncut; standby = after 82 (budget 1) }

abbrev pub cut_there : List Call → Both
cut_there calls = run steps 64 begun calls

abbrev pub then_takeover : List Call → Both
then_takeover calls = run steps 64 (cut_there calls) (takeover_calls 3 2)

-- said of the calls that count
pub record StandbyCut (calls : List Call) : Type 0 where
  -- one of three due blocks is stored, and the primary's disk is valid
  pub disk : (cut_there calls).world.standby.disk ≡ unit 42 ++ (unit 22 ++ unit 41)
  pub due : (cut_there calls).world.standby.state.slots.due ≡ 2
  pub choice : choice_at (cut_there calls) ≡ Ok PrimaryDisk
  pub chosen : disk_at (cut_there calls) ≡ unit 48 ++ (unit 46 ++ unit 47)
  -- after the takeover the standby has checkpoint 2, as the plain pair has
  pub activates : active (then_takeover calls).world ≡ true
  pub memory_then : ((then_takeover calls).world.standby.memory ≡ memory2) × ((then_takeover calls).plain.standby_memory ≡ memory2)
  pub disk_then : ((then_takeover calls).world.standby.disk ≡ disk2) × ((then_takeover calls).plain.standby_disk ≡ disk2)
  pub processor_then : (then_takeover calls).world.standby.state.processor ≡ unit 62
  pub choice_then : choice_at (then_takeover calls) ≡ Ok StandbyDisk

pub cut-inside-flush : StandbyCut (counted_calls standby_cut (calls_of rows))
unfolding all_steps
cut-inside-flush =
    record { disk = refl; due = refl; choice = refl; chosen = refl; activates = refl; memory_then = (refl, refl); disk_then = (refl, refl); processor_then = refl; choice_then = refl }

-- ---- the same list, the primary cut inside the drain of the rest of checkpoint 2, and the standby going on
abbrev pub primary_cut : Running → Cut
primary_cut running = record { primary = after 39 running; standby = uncut }

-- the standby becomes active at checkpoint r and the guest writes there
pub record PrimaryCut (r : ℕ) (memory disk : List ℕ) (calls : List Call) : Type 0 where
  pub activated : active (cut_there calls).world ≡ true
  pub checkpoint : (cut_there calls).plain.r ≡ r
  pub same_memory : ((cut_there calls).world.standby.memory ≡ memory) × ((cut_there calls).plain.standby_memory ≡ memory)
  pub same_disk : ((cut_there calls).world.standby.disk ≡ disk) × ((cut_there calls).plain.standby_disk ≡ disk)

pub cut-drain-made : PrimaryCut 2 memory_last disk_last (counted_calls (primary_cut made) (calls_of rows))
unfolding all_steps
cut-drain-made =
    record { activated = refl; checkpoint = refl; same_memory = (refl, refl); same_disk = (refl, refl) }

abbrev pub memory1_last : List ℕ
memory1_last = replicate 60 11 ++ ((1 ∷ 2 ∷ 3 ∷ 4 ∷ []) ++ (replicate 63 12 ++ (77 ∷ [])))

abbrev pub disk1_last : List ℕ
disk1_last = unit 42 ++ (unit 22 ++ unit 49)

pub cut-drain-not-made : PrimaryCut 1 memory1_last disk1_last (counted_calls (primary_cut not_made) (calls_of rows))
unfolding all_steps
cut-drain-not-made =
    record { activated = refl; checkpoint = refl; same_memory = (refl, refl); same_disk = (refl, refl) }
