-- A standby that receives a checkpoint record by record, for "every accepted checkpoint" (document 02, Job 14): what it
-- accepts is accepted here, and it accepts the normal form as it accepts the file. Assumes nothing.
use Rattle.std.specs.Prelude.{ℕ, ◌+◌, ◌≡◌, true, false, List, [], ◌∷◌, ◌++◌, length, replicate}
use Rattle.staging.specs.SlotList.{due_list, store_all}
use Rattle.rules.specs.StandbyState.{is_receiving, memory_length, disk_length, slots_length, marks_length}
use Rattle.rules.specs.Reached.{StandbyInRange}
use Rattle.rules.specs.World.{StandbyEnd, World, Call}
use Rattle.rules.specs.World as call
use Rattle.rules.specs.Step.{step}
use Rattle.checkpoints.specs.declared.FileSettings.{FileSettings}
use Rattle.checkpoints.specs.File.{file_in}
use Rattle.checkpoints.specs.Normal.{normal_of}
use Rattle.checkpoints.specs.Judge.{epoch_of}
use Rattle.checkpoints.specs.Claims.{AreBytes, Accepted, normal_of_file}

-- a standby with the file's settings that is receiving, with no record of the next epoch read; any number of blocks may
-- be due
pub record Awaits (g : FileSettings) (e : StandbyEnd) : Type 0 where
  pub range : StandbyInRange e.state
  pub unit : e.state.settings.u ≡ g.u
  pub pages_m : e.state.settings.m ≡ g.m
  pub blocks_d : e.state.settings.d ≡ g.d
  pub allowance : e.state.settings.b ≡ g.b
  pub receiving : is_receiving e.state.mode ≡ true
  pub no_blocks : e.state.blocks ≡ 0
  pub no_records : e.state.records ≡ 0
  pub no_pages : e.state.pages ≡ 0
  pub no_next : e.state.next ≡ 0
  pub not_seen : e.state.seen ≡ false
  pub all_due : e.state.slots.staged ≡ e.state.slots.due
  -- "Lent lengths are exact"
  pub memory : length e.memory ≡ memory_length e.state
  pub disk : length e.disk ≡ disk_length e.state
  pub staged_pages : length e.staged_pages ≡ memory_length e.state
  pub staged_marks : length e.staged_marks ≡ marks_length e.state
  pub staged_blocks : length e.staged_blocks ≡ slots_length e.state

-- calls one after the other
abbrev pub made : World → List Call → World
made w [] = w
made w (c ∷ cs) = made (step w c).next cs

-- a read that is accepted, or a flush. Only these are in the lists of calls below: a tick below T, a read cut short or
-- refused, or a call of the primary (a drain adds at the link's end) changes nothing of what the standby has received,
-- and is left out
abbrev pub ReadOrFlush : World → Call → Type 0
ReadOrFlush w (call.read n reply) = (step w (call.read n reply)).outcome.number ≡ 0
ReadOrFlush w (call.flush n) = Unit {0}
ReadOrFlush w (call.memory_write page offset bytes) = ⊥
ReadOrFlush w (call.disk_write block bytes) = ⊥
ReadOrFlush w (call.packet port bytes) = ⊥
ReadOrFlush w (call.checkpoint processor) = ⊥
ReadOrFlush w (call.drain n destination) = ⊥
ReadOrFlush w (call.ack n) = ⊥
ReadOrFlush w (call.take port destination) = ⊥
ReadOrFlush w call.primary_tick = ⊥
ReadOrFlush w call.primary_sum = ⊥
ReadOrFlush w call.standby_tick = ⊥
ReadOrFlush w call.activation = ⊥
ReadOrFlush w (call.active_memory_write page offset bytes) = ⊥
ReadOrFlush w (call.active_disk_write block bytes) = ⊥
ReadOrFlush w (call.standby_sum order) = ⊥

abbrev pub AllReadOrFlush : World → List Call → Type 0
AllReadOrFlush w [] = Unit {0}
AllReadOrFlush w (c ∷ cs) = ReadOrFlush w c × AllReadOrFlush (step w c).next cs

-- the standby reads all bytes of the file by these calls, of which the last, and no earlier one, accepts a COMMIT: so
-- they are one checkpoint; whatever is behind it stays on the link
pub record Receives (g : FileSettings) (w : World) (file : List ℕ) (cs : List Call) (n : ℕ) (reply : List ℕ) : Type 0 where
  pub bytes : AreBytes w.link
  pub awaits : Awaits g w.standby
  pub calls : AllReadOrFlush w (cs ++ (call.read n reply ∷ []))
  pub before : (made w cs).standby.state.received ≡ w.standby.state.received
  pub received : (made w (cs ++ (call.read n reply ∷ []))).standby.state.received ≡ w.standby.state.received + 1
  pub file_is : file ++ (made w (cs ++ (call.read n reply ∷ []))).link ≡ w.link

-- whatever a standby accepts record by record is accepted here
abbrev pub AcceptedAll : Type 0
AcceptedAll = (g : FileSettings) (w : World) (file : List ℕ) (cs : List Call) (n : ℕ) (reply : List ℕ) → Receives g w file cs n reply → Accepted g file

-- the disk once all due blocks are stored
abbrev pub disk_stored : StandbyEnd → List ℕ
disk_stored e = store_all e.state.settings.u e.disk (due_list e.state.settings.u e.state.slots e.staged_blocks)

-- the same memory, processor state and, all due stored, disk, of the same checkpoint
pub record SameReceived (a b : StandbyEnd) : Type 0 where
  pub received : a.state.received ≡ b.state.received
  pub memory : a.memory ≡ b.memory
  pub processor : a.state.processor ≡ b.state.processor
  pub disk : disk_stored a ≡ disk_stored b

-- the same world with other bytes on the link
abbrev pub with_link : World → List ℕ → World
with_link w bytes = record { primary = w.primary; standby = w.standby; link = bytes; acks = w.acks }

-- a flush of all due, then a read of each record of the normal form
abbrev pub normal_calls : FileSettings → World → (file reply : List ℕ) → List Call
normal_calls g w file reply =
    let ms = (file_in g file).messages in
    call.flush w.standby.state.slots.due
    ∷ replicate (length (normal_of (epoch_of ms) g.d g.m ms)) (call.read (length (normal_of_file g file)) reply)

-- such a standby accepts the normal form in the file's place: every record is accepted, and it ends with the same
-- memory, processor state and, all due stored, disk
abbrev pub NormalRestores : Type 0
NormalRestores =
    (g : FileSettings) (w : World) (file : List ℕ) (cs : List Call) (n : ℕ) (reply : List ℕ) → Receives g w file cs n reply
    → let v = with_link w (normal_of_file g file) in
    AllReadOrFlush v (normal_calls g w file reply)
    × ((made v (normal_calls g w file reply)).link ≡ [])
    × SameReceived (made v (normal_calls g w file reply)).standby (made w (cs ++ (call.read n reply ∷ []))).standby
