-- What a service engineer asks beside demand 3: seven claims about every run. Assumes nothing.
-- The calls that count at a cut, `counted_calls cut calls`, are themselves a list of calls: a claim about every list
-- holds at every cut.
use Rattle.std.specs.Prelude.{ℕ, ◌≤◌, ◌≡◌, true, false, cond, List, [], ◌∷◌, ◌++◌, length, Ok}
use Rattle.records.specs.Number.{out_of_range}
use Rattle.settings.specs.declared.Settings.{Settings}
use Rattle.staging.specs.SlotList.{due_list, store_all}
use Rattle.sums.specs.Sum.{image_sum, names_each}
use Rattle.rules.specs.declared.Disk.TheVariants.{PrimaryDisk}
use Rattle.rules.specs.Choose.{choice_of, chosen_disk}
use Rattle.rules.specs.World.{StandbyEnd, Processor, Call, Buffers, start_number}
use Rattle.rules.specs.World as call
use Rattle.rules.specs.Step.{Stepped, outcome, step}
use Rattle.runs.specs.Plain.{Checkpoint, taken_of, received_checkpoint}
use Rattle.runs.specs.Run.{Both, steps, run, start_both}
use Rattle.runs.specs.Cut.{Cut, counted_calls}
use Rattle.runs.specs.Demand3.{active, TakeoverRight, under_protection, Saved}

-- a takeover there gives checkpoint r, and r is e or a later one
pub record StillReceived (g : Settings) (e : ℕ) (b : Both) : Type 0 where
  pub received : e ≤ b.plain.r
  pub takeover : active b.world ≡ false → (n : ℕ) → b.world.standby.state.slots.due ≤ n → TakeoverRight steps g b n

-- memory, disk and processor state are all those of one checkpoint
pub record IsCheckpoint (s : StandbyEnd) (c : Checkpoint) : Type 0 where
  pub memory : s.memory ≡ c.memory
  pub disk : s.disk ≡ c.disk
  pub processor : s.state.processor ≡ c.processor

-- the disk choice gives the primary's disk, and that is the plain pair's
pub record PrimaryDiskValid (b : Both) : Type 0 where
  pub choice : choice_of (length b.world.primary.disk) (length b.world.standby.disk) b.world.standby.area ≡ Ok PrimaryDisk
  pub chosen : chosen_disk b.world.primary.disk b.world.standby.disk b.world.standby.area ≡ b.world.primary.disk
  pub plain : b.world.primary.disk ≡ b.plain.disk

-- both ends' sums are those of the plain pair's images (document 02, Job 11)
pub record SumsRight (g : Settings) (b : Both) : Type 0 where
  -- the primary's is never refused, and is that of its guest's memory
  pub primary : (step b.world call.primary_sum).outcome ≡ outcome 0 (image_sum b.plain.memory)
  -- the standby's is refused for its order alone: "an order not naming each page once gives 1"
  pub standby_number : (order : List ℕ) → (step b.world (call.standby_sum order)).outcome.number ≡ cond (names_each g.m order) 0 out_of_range
  -- accepted, it is that of checkpoint r's memory until the standby is active, and then that of its guest's, in
  -- whichever order
  pub until_active : active b.world ≡ false → (order : List ℕ)
      → (step b.world (call.standby_sum order)).outcome.number ≡ 0
      → (step b.world (call.standby_sum order)).outcome.value ≡ image_sum (received_checkpoint b.plain).memory
  pub once_active : active b.world ≡ true → (order : List ℕ)
      → (step b.world (call.standby_sum order)).outcome.number ≡ 0
      → (step b.world (call.standby_sum order)).outcome.value ≡ image_sum b.plain.standby_memory

module _ (g : Settings) (processor : Processor) (buffers : Buffers) where
  -- the pair after start and a list of calls, and what the real ends answer there to one call more
  abbrev pub pair_after : List Call → Both
  pair_after calls = run steps g.u (start_both g processor buffers) calls

  abbrev pub answer_after : List Call → Call → Stepped
  answer_after calls c = step (pair_after calls).world c

  -- ---- 1. a packet that left under protection is in checkpoint r ever after: by demand 3 the one that any later
  -- takeover gives
  abbrev pub PacketSaved : Type 0
  PacketSaved =
      (before : List Call) (port : ℕ) (destination : List ℕ) (later : List Call)
      → (answer_after before (call.take port destination)).outcome.number ≡ 0
      → under_protection g.t (pair_after before).plain
      → Saved (answer_after before (call.take port destination)).handed port (taken_of (pair_after before).plain port)
      (pair_after (before ++ (call.take port destination ∷ later))).plain

  -- ---- 2. the acknowledged checkpoint is received, at every cut; and no takeover after an accepted ACK gives one
  -- before its epoch
  abbrev pub AcknowledgedReceived : Type 0
  AcknowledgedReceived = (calls : List Call) (cut : Cut) → (pair_after (counted_calls cut calls)).plain.a ≤ (pair_after (counted_calls cut calls)).plain.r

  abbrev pub AcknowledgedKept : Type 0
  AcknowledgedKept =
      (before : List Call) (n : ℕ) (later : List Call)
      → (answer_after before (call.ack n)).outcome.number ≡ 0
      → StillReceived g (answer_after before (call.ack n)).outcome.value (pair_after (before ++ (call.ack n ∷ later)))

  -- ---- 3. an accepted activation leaves the standby with one whole checkpoint, the one received: never a mixture of
  -- two
  abbrev pub OneCheckpoint : Type 0
  OneCheckpoint =
      (before : List Call)
      → (answer_after before call.activation).outcome.number ≡ 0
      → IsCheckpoint (pair_after (before ++ (call.activation ∷ []))).world.standby (received_checkpoint (pair_after before).plain)

  -- ---- 4. while nothing was activated the primary's disk is the valid one, at every cut
  abbrev pub PrimaryDiskUntilActivation : Type 0
  PrimaryDiskUntilActivation =
      (calls : List Call) (cut : Cut) → (pair_after (counted_calls cut calls)).plain.activated ≡ false → PrimaryDiskValid (pair_after (counted_calls cut calls))

  -- ---- 5. once the standby is active it stays so, and r is fixed: what leaves later under protection was accepted
  -- before the checkpoint that it took over
  abbrev pub ReceivedFixed : Type 0
  ReceivedFixed =
      (before later : List Call) → active (pair_after before).world ≡ true
      → (active (pair_after (before ++ later)).world ≡ true) × ((pair_after (before ++ later)).plain.r ≡ (pair_after before).plain.r)

  -- ---- 6. until the standby is active its disk with all due blocks stored is checkpoint r's, at every cut: "the disk
  -- at each checkpoint, all due flushed, is what it was" (document 02, Job 9), since no rule of the plain pair changed
  abbrev pub DiskAtCheckpoint : Type 0
  DiskAtCheckpoint =
      (calls : List Call) (cut : Cut) → let b = pair_after (counted_calls cut calls) in
      let s = b.world.standby in
      active b.world ≡ false → store_all g.u s.disk (due_list g.u s.state.slots s.staged_blocks) ≡ (received_checkpoint b.plain).disk

  -- ---- 7. both ends' sums are those of the plain pair's images, at every cut; so, until the standby is active, they
  -- are equal where checkpoint r's memory is the primary's: "On equal images both give the same sum" (document 02, Job
  -- 11)
  abbrev pub SumsOfImages : Type 0
  SumsOfImages = (calls : List Call) (cut : Cut) → SumsRight g (pair_after (counted_calls cut calls))

-- for every accepted start
abbrev pub AfterStart : (Settings → Processor → Buffers → Type 0) → Type 0
AfterStart Claim = (g : Settings) (processor : Processor) (buffers : Buffers) → start_number g buffers ≡ 0 → Claim g processor buffers
