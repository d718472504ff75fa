-- Wrong ends for which `Holds` is true of a list with no cut and false at a cut of it, by computing. Assumes nothing.
use Prim.Native.Nat.{ℕ}
use mathlib.Core.Path.{◌≡◌, refl, ap}
use mathlib.Core.Bool.{cond, true≢false}
use mathlib.Core.List.{List, [], ◌∷◌, ◌++◌}
use native.Mathlib.Omega.{arith}
use lib.Dec.{ltb, lit≤}
use lib.ListN.{get_or}
use Rattle.rules.specs.World.{World, Call}
use Rattle.rules.specs.World as call
use Rattle.rules.specs.Step.{Stepped}
use Rattle.runs.specs.Run.{Steps, run}
use Rattle.runs.specs.Cut.{not_made, budget, uncut, after}
use Rattle.runs.specs.Demand3.{takeover_calls, Holds, Demand3Of}
use Rattle.runs.proofs.Compute.{all_steps}
use Rattle.runs.proofs.Small.{small, begun, processor_of, unit, zeros, reads, holds_at_cut}
use Rattle.runs.proofs.Wrong.{instead_of, wrongly}
use Rattle.runs.proofs.Refutations.{stores_nothing}
use Rattle.runs.proofs.Slips.{due_on_arrival}

-- ---- inside a flush: one that does not store all due frees their slots and stores nothing
-- not "a flush as one of any smaller budget"
abbrev pub stores_all_or_nothing : World → Call → Stepped → Stepped
stores_all_or_nothing w c s = cond (ltb s.outcome.value w.standby.state.slots.due) (stores_nothing w c s) s

abbrev pub all_or_nothing : Steps
all_or_nothing = wrongly (instead_of (call.flush 0) stores_all_or_nothing)

-- two blocks become due; a flush of 2, and a takeover
abbrev pub flush_of_two : List Call
flush_of_two =
    call.disk_write 1 (unit 88)
    ∷ call.disk_write 2 (unit 89)
    ∷ call.checkpoint (processor_of 2)
    ∷ call.drain 380 (zeros 380)
    ∷ (reads 4 ++ (call.flush 2 ∷ takeover_calls 3 0))

pub right-with-flush-of-two : Holds all_or_nothing small (run all_or_nothing 64 begun flush_of_two)
unfolding all_steps
right-with-flush-of-two =
    record {
      standby = record { same = refl; memory = λ a. refl; disk = λ a. refl; processor = λ a. refl };
      takeover = λ a. absurd (true≢false a);
      disks = record { choice = refl; bytes = refl };
      protection = refl;
      received = refl;
      acknowledged = refl;
      received_exists = lit≤ tt;
      acknowledged_received = lit≤ tt;
    }

-- the standby cut inside the flush, which counts as one of 1
pub refutes-flush-cut-inside : Demand3Of all_or_nothing → ⊥
unfolding all_steps
refutes-flush-cut-inside d =
    let e = ((holds_at_cut _ d flush_of_two (record { primary = uncut; standby = after 8 (budget 1) })).takeover refl 1 (lit≤ tt)).disk in
    let z : ◌≡◌ {A = ℕ} 22 88 = ap (λ l. get_or l 64 0) e in omega arith

-- ---- at one end: a BLOCK due on arrival, where the other end goes on
abbrev pub due_early : Steps
due_early = wrongly (instead_of (call.read 0 []) due_on_arrival)

-- the BLOCK comes before its checkpoint is made; then STATE, COMMIT and a takeover
abbrev pub block_first : List Call
block_first =
    call.disk_write 1 (unit 88)
    ∷ call.drain 74 (zeros 74)
    ∷ call.read 74 []
    ∷ call.checkpoint (processor_of 2)
    ∷ call.drain 380 (zeros 380)
    ∷ (reads 2 ++ takeover_calls 3 1)

pub right-with-block-first : Holds due_early small (run due_early 64 begun block_first)
unfolding all_steps
right-with-block-first =
    record {
      standby = record { same = refl; memory = λ a. refl; disk = λ a. refl; processor = λ a. refl };
      takeover = λ a. absurd (true≢false a);
      disks = record { choice = refl; bytes = refl };
      protection = refl;
      received = refl;
      acknowledged = refl;
      received_exists = lit≤ tt;
      acknowledged_received = lit≤ tt;
    }

-- the primary cut before its checkpoint
pub refutes-primary-cut : Demand3Of due_early → ⊥
unfolding all_steps
refutes-primary-cut d =
    let e = (holds_at_cut _ d block_first (record { primary = after 3 not_made; standby = uncut })).standby.disk refl in
    let z : ◌≡◌ {A = ℕ} 88 22 = ap (λ l. get_or l 64 0) e in omega arith
