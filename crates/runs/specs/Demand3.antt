-- Demand 3 as one claim: cut the pair anywhere. Assumes nothing.
use Rattle.std.specs.Prelude.{ℕ, ◌≤◌, ◌<◌, ◌≡◌, Bool, true, false, cond, List, [], ◌∷◌, ◌++◌, length, get_or, replicate, Ok}
use Rattle.settings.specs.declared.Settings.{Settings}
use Rattle.rules.specs.declared.Disk.TheVariants.{PrimaryDisk, StandbyDisk}
use Rattle.rules.specs.StandbyState.{is_active}
use Rattle.rules.specs.Choose.{choice_of, chosen_disk}
use Rattle.rules.specs.World.{World, Processor, Call, Buffers, start_number}
use Rattle.rules.specs.World as call
use Rattle.rules.specs.Step.{Stepped}
use Rattle.runs.specs.Plain.{Plain, of_port, taken_of, received_checkpoint, is_alone}
use Rattle.runs.specs.Run.{Both, Steps, steps, run, start_both}
use Rattle.runs.specs.Cut.{Cut, counted_calls}

abbrev pub active : World → Bool
active w = is_active w.standby.state.mode

-- ---- "Once active, its memory and disk equal the plain pair's byte for byte, its processor state checkpoint r's"
pub record StandbyRight (b : Both) : Type 0 where
  pub same : active b.world ≡ b.plain.activated
  pub memory : active b.world ≡ true → b.world.standby.memory ≡ b.plain.standby_memory
  pub disk : active b.world ≡ true → b.world.standby.disk ≡ b.plain.standby_disk
  pub processor : active b.world ≡ true → b.world.standby.state.processor ≡ (received_checkpoint b.plain).processor

-- ---- "T standby ticks, a flush of all due and activation, added to the list"
abbrev pub ticks_and_flush : ℕ → ℕ → List Call
ticks_and_flush t n = replicate t call.standby_tick ++ (call.flush n ∷ [])

abbrev pub takeover_calls : ℕ → ℕ → List Call
takeover_calls t n = ticks_and_flush t n ++ (call.activation ∷ [])

abbrev pub after_takeover : Steps → Settings → Both → ℕ → Both
after_takeover κ g b n = run κ g.u b (takeover_calls g.t n)

-- every call of a list is accepted, one after the other
abbrev pub AllAccepted : Steps → World → List Call → Type 0
AllAccepted κ w [] = Unit {0}
AllAccepted κ w (c ∷ cs) = ((κ.real w c).outcome.number ≡ 0) × AllAccepted κ (κ.real w c).next cs

-- ".. activate a standby not yet active", and it has the last wholly received checkpoint, whose number the activation gives
pub record TakeoverRight (κ : Steps) (g : Settings) (b : Both) (n : ℕ) : Type 0 where
  pub accepted : AllAccepted κ b.world (takeover_calls g.t n)
  pub activates : active (after_takeover κ g b n).world ≡ true
  pub value : (κ.real (run κ g.u b (ticks_and_flush g.t n)).world call.activation).outcome.value ≡ b.plain.r
  pub memory : (after_takeover κ g b n).world.standby.memory ≡ (received_checkpoint b.plain).memory
  pub disk : (after_takeover κ g b n).world.standby.disk ≡ (received_checkpoint b.plain).disk
  pub processor : (after_takeover κ g b n).world.standby.state.processor ≡ (received_checkpoint b.plain).processor

-- ---- "Each accepted take gave the oldest packet; under protection it is one of checkpoint r's", of the port that it
-- names (document 02, Job 6: "That port's oldest packet goes out, in the plain pair too")

-- protection is on
abbrev pub under_protection : ℕ → Plain → Type 0
under_protection t p = is_alone t p ≡ false

-- a packet is the n-th, from 0, of checkpoint r's packets of a port
pub record Saved (packet : List ℕ) (port n : ℕ) (p : Plain) : Type 0 where
  pub below : n < length (of_port port (received_checkpoint p).packets)
  pub same : packet ≡ get_or (of_port port (received_checkpoint p).packets) n []

-- p is the plain pair where the take is made, end the one at the cut: its checkpoint r is what a takeover then would
-- have or, once the standby is active, what it took over, since r is fixed from then on (Corollaries: ReceivedFixed)
pub record HandedRight (t port : ℕ) (p end : Plain) (handed : List ℕ) : Type 0 where
  pub queued : taken_of p port < length (of_port port p.accepted)
  pub oldest : handed ≡ get_or (of_port port p.accepted) (taken_of p port) []
  pub saved : under_protection t p → Saved handed port (taken_of p port) p
  pub at_end : under_protection t p → Saved handed port (taken_of p port) end

-- and a refused one gives none
pub record TakeRight (t port : ℕ) (p end : Plain) (s : Stepped) : Type 0 where
  pub accepted : s.outcome.number ≡ 0 → HandedRight t port p end s.handed
  pub refused : (s.outcome.number ≡ 0 → ⊥) → s.handed ≡ []

-- of every take of a list, which ends at the cut
abbrev pub TakesRight : Steps → Settings → Both → List Call → Type 0
TakesRight κ g b calls =
    (before : List Call) (port : ℕ) (destination : List ℕ) (later : List Call) → before ++ (call.take port destination ∷ later) ≡ calls
    → let there = run κ g.u b before in
    TakeRight g.t port there.plain (run κ g.u b calls).plain (κ.real there.world (call.take port destination))

-- ---- "the primary's disk, valid until an activation is accepted"; "the standby's, valid from then on"
abbrev pub valid_disk : Plain → List ℕ
valid_disk p = cond p.activated p.standby_disk p.disk

-- "The disk choice on what both boxes stored hands back the valid disk, equal to the plain pair's"
pub record DisksRight (b : Both) : Type 0 where
  pub choice : choice_of (length b.world.primary.disk) (length b.world.standby.disk) b.world.standby.area
      ≡ cond b.plain.activated (Ok StandbyDisk) (Ok PrimaryDisk)
  pub bytes : chosen_disk b.world.primary.disk b.world.standby.disk b.world.standby.area ≡ valid_disk b.plain

-- ---- what holds after the calls that count, wherever the pair is cut
pub record Holds (κ : Steps) (g : Settings) (b : Both) : Type 0 where
  pub standby : StandbyRight b
  pub takeover : active b.world ≡ false → (n : ℕ) → b.world.standby.state.slots.due ≤ n → TakeoverRight κ g b n
  pub disks : DisksRight b
  -- the plain pair is alone, has received and has acknowledged as the real one
  pub protection : b.world.primary.state.alone ≡ is_alone g.t b.plain
  pub received : b.world.standby.state.received ≡ b.plain.r
  pub acknowledged : b.world.primary.state.acknowledged ≡ b.plain.a
  pub received_exists : b.plain.r < length b.plain.checkpoints
  pub acknowledged_received : b.plain.a ≤ b.plain.r

-- and of the whole list of them
pub record WholeRun (κ : Steps) (g : Settings) (b : Both) (calls : List Call) : Type 0 where
  pub takes : TakesRight κ g b calls
  pub end : Holds κ g (run κ g.u b calls)

-- for every accepted start, every list of calls and every cut
abbrev pub Demand3Of : Steps → Type 0
Demand3Of κ =
    (g : Settings) (processor : Processor) (buffers : Buffers) → start_number g buffers ≡ 0
    → (calls : List Call) (cut : Cut) → WholeRun κ g (start_both g processor buffers) (counted_calls cut calls)

-- the claim
abbrev pub Demand3 : Type 0
Demand3 = Demand3Of steps
