-- A host that makes calls through the C interface, one after the other, each on the words and buffers that the calls
-- before left. Assumes nothing.
use Rattle.std.specs.Prelude.{ℕ, ◌≡◌, true, List, [], ◌∷◌, ◌++◌, take, drop}
use Rattle.rules.specs.World.{World, Processor, Call, Buffers}
use Rattle.rules.specs.World as call
use Rattle.rules.specs.Step.{Outcome, Stepped, outcome}
use Rattle.runs.specs.Plain.{Plain, plain_step}
use Rattle.capi.specs.Word.{answer_number, answer_used, answer_value}
use Rattle.capi.specs.PrimaryWords.{primary_words_ok}
use Rattle.capi.specs.PrimaryCalls.{MemoryWriteDone, DiskWriteDone, PacketDone, CheckpointDone, DrainDone, AckDone, TakeDone, PrimaryTickDone, PrimarySumDone}
use Rattle.capi.specs.StandbyCalls.{LentStandby, is_standby, ReadDone, FlushDone, StandbyTickDone, ActivationDone, ActiveMemoryWriteDone, ActiveDiskWriteDone, StandbySumDone}
use Rattle.capi.specs.PairCalls.{StartDone}
use Rattle.capi.specs.Joined.{primary_end, standby_end, ack_sent}

-- what a host keeps: the primary's words and buffers, the standby's, and the bytes under way between them
pub record Host : Type 0 where
  pub primary : List ℕ
  pub memory : List ℕ
  pub disk : List ℕ
  pub dirty : List ℕ
  pub held : List ℕ
  pub stream : List ℕ
  pub standby : LentStandby
  pub standby_memory : List ℕ
  pub standby_disk : List ℕ
  pub staged_pages : List ℕ
  pub staged_marks : List ℕ
  pub staged_blocks : List ℕ
  pub area : List ℕ
  -- the bytes drained and not yet used, and those of the ACKs sent back
  pub link : List ℕ
  pub acks : List ℕ

-- the world that these words and buffers are
abbrev pub world_of : Host → World
world_of h =
    record {
      primary = primary_end h.primary h.memory h.disk h.dirty h.held h.stream;
      standby = standby_end h.standby h.standby_memory h.standby_disk h.staged_pages h.staged_marks h.staged_blocks h.area;
      link = h.link;
      acks = h.acks;
    }

-- the words of both ends are a state
pub record HasStates (h : Host) : Type 0 where
  pub primary : primary_words_ok h.primary ≡ true
  pub standby : is_standby h.standby ≡ true

-- ---- a host by its parts; with other words and buffers of an end; with other bytes under way
abbrev pub host_of : (w memory disk dirty held stream : List ℕ) (s : LentStandby) (standby_memory standby_disk staged_pages staged_marks staged_blocks area link acks : List ℕ) → Host
host_of w memory disk dirty held stream s standby_memory standby_disk staged_pages staged_marks staged_blocks area link acks =
    record {
      primary = w;
      memory = memory;
      disk = disk;
      dirty = dirty;
      held = held;
      stream = stream;
      standby = s;
      standby_memory = standby_memory;
      standby_disk = standby_disk;
      staged_pages = staged_pages;
      staged_marks = staged_marks;
      staged_blocks = staged_blocks;
      area = area;
      link = link;
      acks = acks;
    }

abbrev pub with_primary : Host → (w memory disk dirty held stream : List ℕ) → Host
with_primary h w memory disk dirty held stream =
    host_of w memory disk dirty held stream h.standby h.standby_memory h.standby_disk h.staged_pages h.staged_marks h.staged_blocks h.area h.link h.acks

abbrev pub with_standby : Host → (s : LentStandby) (memory disk pages marks blocks area : List ℕ) → Host
with_standby h s memory disk pages marks blocks area =
    host_of h.primary h.memory h.disk h.dirty h.held h.stream s memory disk pages marks blocks area h.link h.acks

abbrev pub under_way : Host → (link acks : List ℕ) → Host
under_way h link acks =
    host_of h.primary h.memory h.disk h.dirty h.held h.stream h.standby h.standby_memory h.standby_disk h.staged_pages h.staged_marks h.staged_blocks h.area link acks

-- ---- one call: the exported call's contract between the parts of h that it is lent and those of h', and every other
-- part of h' is that of h. filled is what the call leaves in the slice that it fills, a drain's or a take's destination
-- or a read's reply; no other call has one. A drain's bytes go on the link, the bytes used leave the link or the ACKs,
-- and the ACK of an accepted COMMIT is sent back
abbrev pub Made : (h : Host) (c : Call) (answer : ℕ) (filled : List ℕ) (h' : Host) → Type 0
Made h (call.memory_write page offset bytes) answer filled h' =
    MemoryWriteDone h.primary h.memory h.dirty page offset bytes answer h'.primary h'.memory h'.dirty
    × (h' ≡ with_primary h h'.primary h'.memory h.disk h'.dirty h.held h.stream)
Made h (call.disk_write block bytes) answer filled h' =
    DiskWriteDone h.primary h.disk h.stream block bytes answer h'.primary h'.disk h'.stream
    × (h' ≡ with_primary h h'.primary h.memory h'.disk h.dirty h.held h'.stream)
Made h (call.packet port bytes) answer filled h' =
    PacketDone h.primary h.held port bytes answer h'.primary h'.held
    × (h' ≡ with_primary h h'.primary h.memory h.disk h.dirty h'.held h.stream)
Made h (call.checkpoint processor) answer filled h' =
    CheckpointDone h.primary h.memory h.dirty h.stream processor.bytes answer h'.primary h'.dirty h'.stream
    × (h' ≡ with_primary h h'.primary h.memory h.disk h'.dirty h.held h'.stream)
Made h (call.drain n destination) answer filled h' =
    DrainDone h.primary h.stream n destination answer h'.primary h'.stream filled
    × (h'
    ≡ under_way (with_primary h h'.primary h.memory h.disk h.dirty h.held h'.stream) (h.link ++ take (answer_value answer) filled) h.acks)
Made h (call.ack n) answer filled h' =
    AckDone h.primary (take n h.acks) answer h'.primary
    × (h' ≡ under_way (with_primary h h'.primary h.memory h.disk h.dirty h.held h.stream) h.link (drop (answer_used answer) h.acks))
Made h (call.take port destination) answer filled h' =
    TakeDone h.primary h.held port destination answer h'.primary h'.held filled
    × (h' ≡ with_primary h h'.primary h.memory h.disk h.dirty h'.held h.stream)
Made h call.primary_tick answer filled h' =
    PrimaryTickDone h.primary answer h'.primary
    × (h' ≡ with_primary h h'.primary h.memory h.disk h.dirty h.held h.stream)
Made h call.primary_sum answer filled h' = PrimarySumDone h.primary h.memory answer × (h' ≡ h)
Made h (call.read n reply) answer filled h' =
    ReadDone h.standby h.standby_memory h.staged_pages h.staged_marks h.staged_blocks (take n h.link) reply answer
    h'.standby h'.standby_memory h'.staged_pages h'.staged_marks h'.staged_blocks filled
    × (h'
    ≡ under_way (with_standby h h'.standby h'.standby_memory h.standby_disk h'.staged_pages h'.staged_marks h'.staged_blocks h.area)
    (drop (answer_used answer) h.link) (h.acks ++ ack_sent answer filled))
Made h (call.flush n) answer filled h' =
    FlushDone h.standby h.staged_blocks h.standby_disk n answer h'.standby h'.staged_blocks h'.standby_disk
    × (h' ≡ with_standby h h'.standby h.standby_memory h'.standby_disk h.staged_pages h.staged_marks h'.staged_blocks h.area)
Made h call.standby_tick answer filled h' =
    StandbyTickDone h.standby h.staged_marks answer h'.standby h'.staged_marks
    × (h' ≡ with_standby h h'.standby h.standby_memory h.standby_disk h.staged_pages h'.staged_marks h.staged_blocks h.area)
Made h call.activation answer filled h' =
    ActivationDone h.standby h.area answer h'.standby h'.area
    × (h' ≡ with_standby h h'.standby h.standby_memory h.standby_disk h.staged_pages h.staged_marks h.staged_blocks h'.area)
Made h (call.active_memory_write page offset bytes) answer filled h' =
    ActiveMemoryWriteDone h.standby h.standby_memory page offset bytes answer h'.standby h'.standby_memory
    × (h' ≡ with_standby h h'.standby h'.standby_memory h.standby_disk h.staged_pages h.staged_marks h.staged_blocks h.area)
Made h (call.active_disk_write block bytes) answer filled h' =
    ActiveDiskWriteDone h.standby h.standby_disk block bytes answer h'.standby h'.standby_disk
    × (h' ≡ with_standby h h'.standby h.standby_memory h'.standby_disk h.staged_pages h.staged_marks h.staged_blocks h.area)
Made h (call.standby_sum order) answer filled h' = StandbySumDone h.standby h.standby_memory order answer × (h' ≡ h)

-- the number and the value that the answer holds
abbrev pub told_outcome : ℕ → Outcome
told_outcome answer = outcome (answer_number answer) (answer_value answer)

-- the packet that a take hands out: the first bytes of its destination, as many as the value says
abbrev pub handed_out : Call → (answer : ℕ) (filled : List ℕ) → List ℕ
handed_out (call.memory_write page offset bytes) answer filled = []
handed_out (call.disk_write block bytes) answer filled = []
handed_out (call.packet port bytes) answer filled = []
handed_out (call.checkpoint processor) answer filled = []
handed_out (call.drain n destination) answer filled = []
handed_out (call.ack n) answer filled = []
handed_out (call.take port destination) answer filled = take (answer_value answer) filled
handed_out call.primary_tick answer filled = []
handed_out call.primary_sum answer filled = []
handed_out (call.read n reply) answer filled = []
handed_out (call.flush n) answer filled = []
handed_out call.standby_tick answer filled = []
handed_out call.activation answer filled = []
handed_out (call.active_memory_write page offset bytes) answer filled = []
handed_out (call.active_disk_write block bytes) answer filled = []
handed_out (call.standby_sum order) answer filled = []

-- the step that a call was: the host after it, the answer's number and value, and the packet
abbrev pub made_step : Call → (answer : ℕ) (filled : List ℕ) → Host → Stepped
made_step c answer filled h' = record { next = world_of h'; outcome = told_outcome answer; handed = handed_out c answer filled }

-- ---- calls one after the other: each on the host that the one before left, unchanged in between
abbrev pub MadeAll : Host → List Call → Host → Type 0
MadeAll h [] h' = h' ≡ h
MadeAll h (c ∷ cs) h' = (answer : ℕ) × (filled : List ℕ) × (next : Host) × Made h c answer filled next × MadeAll next cs h'

-- the plain pair that is told each of these calls, its number and its value, as the host was
abbrev pub plain_told : ℕ → (h : Host) (calls : List Call) (h' : Host) → MadeAll h calls h' → Plain → Plain
plain_told u h [] h' all p = p
plain_told u h (c ∷ cs) h' all p = plain_told u all.2 cs h' all.4 (plain_step u c (told_outcome all.0) p)

-- ---- start: the contract's words and buffers, the others as they were lent, and nothing under way
abbrev pub StartMade : (settings : List ℕ) (processor : Processor) (b : Buffers) (primary : List ℕ) (standby : LentStandby) (answer : ℕ) (h : Host) → Type 0
StartMade settings processor b primary standby answer h =
    StartDone settings processor.bytes b primary standby answer h.dirty h.standby_memory h.standby_disk h.staged_marks h.area h.primary h.standby
    × (h
    ≡ host_of h.primary b.memory b.disk h.dirty b.held b.stream h.standby h.standby_memory h.standby_disk b.staged_pages h.staged_marks b.staged_blocks h.area [] [])
