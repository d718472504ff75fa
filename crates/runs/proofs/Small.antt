-- A small pair, started, and lists of calls on it, for runs that compute. Assumes nothing.
use Prim.Native.Nat.{ℕ}
use mathlib.Core.Path.{◌≡◌, refl, subst}
use mathlib.Core.List.{List, [], ◌∷◌, ◌++◌}
use mathlib.Core.Bool.{cond}
use lib.Dec.{eqb}
use lib.ListN.{length, replicate}
use Rattle.settings.specs.declared.Settings.{Settings}
use Rattle.rules.specs.World.{World, Processor, Call, Buffers, start_number}
use Rattle.rules.specs.World as call
use Rattle.rules.specs.Step.{Outcome, outcome}
use Rattle.runs.specs.Run.{Both, Steps, run, start_both}
use Rattle.runs.specs.Cut.{Cut, counted_calls}
use Rattle.runs.specs.Demand3.{TakeRight, Holds, WholeRun, Demand3Of}
use Rattle.runs.proofs.Compute.{all_steps}
use Rattle.runs.proofs.CutLaws.{no_cut, counted-uncut}

-- L as small as its range allows: 2 pages, 2 blocks, STATE and COMMIT
abbrev pub small : Settings
small = record { u = 64; m = 2; d = 3; b = 2; s = 3; q = 64; l = 380; t = 3 }

abbrev pub processor_of : ℕ → Processor
processor_of v = record { bytes = replicate 64 v; size = refl }

-- a page or a block of one byte value
abbrev pub unit : ℕ → List ℕ
unit v = replicate 64 v

-- the images, and in every other buffer bytes that mean nothing
abbrev pub buffers : Buffers
buffers =
    record {
      memory = unit 11 ++ unit 12;
      disk = unit 21 ++ (unit 22 ++ unit 23);
      dirty = 7 ∷ [];
      held = unit 201;
      stream = replicate 380 202;
      standby_memory = replicate 128 203;
      standby_disk = replicate 192 204;
      staged_pages = replicate 128 205;
      staged_marks = 9 ∷ [];
      staged_blocks = replicate 192 206;
      area = replicate 8 207;
    }

abbrev pub begun : Both
begun = start_both small (processor_of 1) buffers

pub small-starts : start_number small buffers ≡ 0
unfolding all_steps
small-starts = refl

-- a call with the number and the value that it gives
pub record Row : Type 0 where
  pub made : Call
  pub gives : Outcome

abbrev pub row : Call → ℕ → ℕ → Row
row c number value = record { made = c; gives = outcome number value }

abbrev pub calls_of : List Row → List Call
calls_of [] = []
calls_of (r ∷ rs) = r.made ∷ calls_of rs

abbrev pub outcomes_of : List Row → List Outcome
outcomes_of [] = []
outcomes_of (r ∷ rs) = r.gives ∷ outcomes_of rs

-- the numbers and values that the calls of a list give
abbrev pub outcomes : Steps → World → List Call → List Outcome
outcomes κ w [] = []
outcomes κ w (c ∷ cs) =
    let s = κ.real w c in
    s.outcome ∷ outcomes κ s.next cs

-- the packets that its takes hand out
abbrev pub handed_out : Steps → World → List Call → List (List ℕ)
handed_out κ w [] = []
handed_out κ w (c ∷ cs) =
    let s = κ.real w c in
    cond (eqb (length s.handed) 0) [] (s.handed ∷ []) ++ handed_out κ s.next cs

-- ---- the calls of one checkpoint with a page, a block and a packet, and its way to the standby
abbrev pub zeros : ℕ → List ℕ
zeros n = replicate n 0

abbrev pub sent : List Call
sent =
    call.memory_write 0 0 (77 ∷ [])
    ∷ call.disk_write 1 (unit 88)
    ∷ call.packet 0 (99 ∷ [])
    ∷ call.checkpoint (processor_of 2)
    ∷ call.drain 380 (zeros 380)
    ∷ []

-- n reads, each of what is on the link
abbrev pub reads : ℕ → List Call
reads n = replicate n (call.read 380 (zeros 8))

abbrev pub block_came : List Call
block_came = sent ++ reads 1

abbrev pub state_came : List Call
state_came = sent ++ reads 3

abbrev pub commit_came : List Call
commit_came = sent ++ reads 4

-- ---- what Demand3Of says of a list of calls, cut and with no cut
pub holds_at_cut : (κ : Steps) → Demand3Of κ → (calls : List Call) (cut : Cut) → Holds κ small (run κ 64 begun (counted_calls cut calls))
holds_at_cut κ d calls cut = (d small (processor_of 1) buffers small-starts calls cut).end

module _ (κ : Steps) (d : Demand3Of κ) (calls : List Call) where
  whole_run : WholeRun κ small begun calls
  whole_run = subst (WholeRun κ small begun) (counted-uncut calls) (d small (processor_of 1) buffers small-starts calls no_cut)

  pub holds_after : Holds κ small (run κ 64 begun calls)
  holds_after = whole_run.end

-- and of a take, after some calls and before others
pub take_of : (κ : Steps) → Demand3Of κ → (before : List Call) (port : ℕ) (destination : List ℕ) (later : List Call)
    → TakeRight 3 port (run κ 64 begun before).plain (run κ 64 begun (before ++ (call.take port destination ∷ later))).plain (κ.real (run κ 64 begun before).world (call.take port destination))
take_of κ d before port destination later = (whole_run κ d (before ++ (call.take port destination ∷ later))).takes before port destination later refl
