-- What relates the real world and the plain pair after every call, in groups, each over just what it speaks of. Assumes nothing.
use Rattle.std.specs.Prelude.{Ok}
use Prim.Native.Nat.{ℕ, ◌+◌, ◌*◌, ◌≤◌, ◌<◌}
use mathlib.Core.Path.{◌≡◌}
use mathlib.Core.Bool.{Bool, true, false, cond}
use mathlib.Core.List.{List, [], ◌∷◌, ◌++◌, map}
use lib.Dec.{leb}
use lib.ListN.{length, take, drop, get_or}
use Rattle.lists.specs.Select.{times_in}
use Rattle.records.specs.Kind.{is_wide}
use Rattle.records.specs.Message.{Message, encode_all}
use Rattle.records.specs.Message as message
use Rattle.records.specs.Area.{area_length, area_of}
use Rattle.settings.specs.declared.Settings.{Settings}
use Rattle.settings.specs.Range.{of_primary, of_standby, most_epoch}
use Rattle.marks.specs.Mark.{words_for}
use Rattle.pages.specs.Dirty.{installed}
use Rattle.pages.specs.Clean.{Clean}
use Rattle.queue.specs.HeldList.{Held, held_list, held_of}
use Rattle.staging.specs.SlotList.{slot_list, due_list, store_all}
use Rattle.rules.specs.declared.Disk.TheVariants.{PrimaryDisk, StandbyDisk}
use Rattle.rules.specs.Choose.{area_choice}
use Rattle.rules.specs.StandbyState.{is_receiving, is_active}
use Rattle.rules.specs.Reached.{PrimaryReached, StandbyReached}
use Rattle.rules.specs.World.{PrimaryEnd, StandbyEnd}
use Rattle.runs.specs.Plain.{Sent, Checkpoint, of_port, no_checkpoint}
use Rattle.runs.specs.Run.{Both}
use Rattle.runs.proofs.FirstLaws.{FirstOf}
use Rattle.runs.proofs.Effects.{effects, Epoch, checkpoints_after, last_after, sent, All, Before, AllBefore, Readable}

-- what the run has sent and not yet settled
pub record Ghost : Type 0 where
  -- checkpoint r, and the epochs closed after it
  pub base : Checkpoint
  pub ahead : List Epoch
  -- the records of the open epoch
  pub opened : List Message
  -- the records of epoch r + 1 that the standby accepted, and all that were sent behind them
  pub consumed : List Message
  pub pending : List Message
  -- the bytes dropped when the primary became alone
  pub lost : List ℕ
  -- the epochs of the ACKs written and not yet used
  pub acks : List ℕ

-- ---- checkpoints from r on are base and its closed epochs' effects; the open epoch is the next
pub record History (u : ℕ) (checkpoints : List Checkpoint) (r epoch : ℕ) (base : Checkpoint) (ahead : List Epoch) : Type 0 where
  pub from : drop r checkpoints ≡ base ∷ checkpoints_after u base ahead
  pub count : epoch ≡ length checkpoints
  pub high : epoch ≤ most_epoch

-- ---- what was consumed, and what the bytes under way, waiting and lost encode, are the records sent; nothing is lost while protected
pub record Link (u : ℕ) (wide : Bool) (ahead : List Epoch) (opened consumed pending : List Message) (link stream lost : List ℕ) (waiting : ℕ) (alone : Bool) : Type 0 where
  pub records : consumed ++ pending ≡ sent ahead opened
  pub bytes : link ++ (take waiting stream ++ lost) ≡ encode_all wide pending
  pub lossless : alone ≡ false → lost ≡ []
  pub readable : All (Readable u wide) pending
  pub consumed_before : All Before consumed
  pub ahead_before : AllBefore ahead
  pub opened_before : All Before opened

-- ---- the primary's images are the plain pair's. `now` is the last checkpoint with the open epoch's records: memory differs from its only in
-- marked pages, and while protected the disk is its disk
pub record Images (u m : ℕ) (memory dirty disk memory' disk' : List ℕ) (alone : Bool) (now : Checkpoint) : Type 0 where
  pub memory_is : memory ≡ memory'
  pub disk_is : disk ≡ disk'
  pub size : length now.memory ≡ m * u
  pub clean : Clean now.memory memory dirty u m
  pub stored : alone ≡ false → now.disk ≡ disk

-- ---- a ≤ r, and the ACKs under way rise from a to at most r
abbrev pub Rising : ℕ → ℕ → List ℕ → Type 0
Rising a r [] = a ≤ r
Rising a r (e ∷ es) = (a < e) × Rising e r es

-- the bytes of ACKs of these epochs: an ACK has one width
abbrev pub ack_bytes : List ℕ → List ℕ
ack_bytes es = encode_all false (map message.ack es)

-- acknowledged is a; alone exactly when T ≤ the plain count, and the counts are equal while protected; nothing outstanding: the count is 0
pub record Detector (t : ℕ) (alone : Bool) (count acknowledged : ℕ) (acks : List ℕ) (a r count' last : ℕ) (es : List ℕ) : Type 0 where
  pub acknowledged_is : acknowledged ≡ a
  pub rising : Rising a r es
  pub acks_are : acks ≡ ack_bytes es
  pub alone_is : alone ≡ leb t count'
  pub count_is : alone ≡ false → count ≡ count'
  pub quiet : a + 1 ≡ last → count' ≡ 0

-- ---- a port's packets

-- how many of them a checkpoint has
abbrev pub saved_in : ℕ → Checkpoint → ℕ
saved_in port c = length (of_port port c.packets)

-- the one accepted n-th, and those behind it, are in every checkpoint from their epoch on
abbrev pub Released : ℕ → ℕ → List Checkpoint → List Held → Type 0
Released port n checkpoints [] = Unit {0}
Released port n checkpoints (h ∷ hs) =
    ((j : ℕ) → h.epoch ≤ j → j < length checkpoints → n < saved_in port (get_or checkpoints j no_checkpoint)) × Released port (n + 1) checkpoints hs

-- and in none before it; none has an epoch above the open one
abbrev pub Unreleased : ℕ → ℕ → List Checkpoint → List Held → Type 0
Unreleased port n checkpoints [] = Unit {0}
Unreleased port n checkpoints (h ∷ hs) =
    (h.epoch ≤ length checkpoints) × ((j : ℕ) → j < length checkpoints → n < saved_in port (get_or checkpoints j no_checkpoint) → h.epoch ≤ j) × Unreleased port (n + 1) checkpoints hs

abbrev pub bytes_of : Held → List ℕ
bytes_of h = h.bytes

-- its queue is its packets accepted and not yet taken; those of each checkpoint are the first of those accepted
pub record Packets (port : ℕ) (held : List Held) (accepted : List (List ℕ)) (taken : ℕ) (checkpoints : List Checkpoint) : Type 0 where
  pub queued : map bytes_of held ≡ drop taken accepted
  pub sum : taken + length held ≡ length accepted
  pub released : Released port taken checkpoints held
  pub unreleased : Unreleased port taken checkpoints held
  pub first : (j : ℕ) → j < length checkpoints → FirstOf (of_port port (get_or checkpoints j no_checkpoint).packets) accepted

-- the group of one port, of what is held, accepted and taken by all of them
abbrev pub PortPackets : List Held → List Sent → List ℕ → List Checkpoint → ℕ → Type 0
PortPackets held accepted taken checkpoints port = Packets port (held_of port held) (of_port port accepted) (times_in port taken) checkpoints

-- ---- the standby: until it is active it has base, and while receiving what it staged is what the records consumed do to base;
-- once active it has the plain standby's images
pub record Taker (u m : ℕ) (s : StandbyEnd) (activated : Bool) (memory' disk' : List ℕ) (base : Checkpoint) (consumed : List Message) (r : ℕ) : Type 0 where
  pub received_is : s.state.received ≡ r
  pub mode_is : is_active s.state.mode ≡ activated
  pub processor_is : s.state.processor ≡ base.processor
  pub memory_is : activated ≡ false → s.memory ≡ base.memory
  pub disk_is : activated ≡ false → store_all u s.disk (due_list u s.state.slots s.staged_blocks) ≡ base.disk
  pub staged_memory : is_receiving s.state.mode ≡ true → installed s.memory s.staged_pages s.staged_marks u m ≡ (effects u base consumed).memory
  pub staged_disk : is_receiving s.state.mode ≡ true → store_all u s.disk (slot_list u s.state.slots s.staged_blocks) ≡ (effects u base consumed).disk
  pub staged_processor : is_receiving s.state.mode ≡ true → s.state.seen ≡ true → s.state.pending ≡ (effects u base consumed).processor
  pub active_memory : activated ≡ true → s.memory ≡ memory'
  pub active_disk : activated ≡ true → s.disk ≡ disk'
  pub settled : activated ≡ true → s.state.slots.due ≡ 0
  pub area_is : area_choice (area_of s.area) ≡ cond activated (Ok StandbyDisk) (Ok PrimaryDisk)

-- ---- each end has start's settings, is in range, and its buffers have their lengths
pub record PrimaryKept (g : Settings) (p : PrimaryEnd) : Type 0 where
  pub settings : p.state.settings ≡ of_primary g
  pub patience : p.state.detector.patience ≡ g.t
  pub reached : PrimaryReached p.state
  pub memory : length p.memory ≡ g.m * g.u
  pub disk : length p.disk ≡ g.d * g.u
  pub dirty : length p.dirty ≡ words_for g.m
  pub held : length p.held ≡ g.q
  pub stream : length p.stream ≡ g.l

pub record StandbyKept (g : Settings) (s : StandbyEnd) : Type 0 where
  pub settings : s.state.settings ≡ of_standby g
  pub patience : s.state.detector.patience ≡ g.t
  pub reached : StandbyReached s.state
  pub memory : length s.memory ≡ g.m * g.u
  pub disk : length s.disk ≡ g.d * g.u
  pub staged_pages : length s.staged_pages ≡ g.m * g.u
  pub staged_marks : length s.staged_marks ≡ words_for g.m
  pub staged_blocks : length s.staged_blocks ≡ g.s * g.u
  pub area : length s.area ≡ area_length

-- ---- all of it
pub record InvAt (g : Settings) (h : Ghost) (b : Both) : Type 0 where
  pub history : History g.u b.plain.checkpoints b.plain.r b.world.primary.state.epoch h.base h.ahead
  pub link : Link g.u (is_wide g.m) h.ahead h.opened h.consumed h.pending b.world.link b.world.primary.stream h.lost b.world.primary.state.waiting b.world.primary.state.alone
  pub images : Images g.u g.m b.world.primary.memory b.world.primary.dirty b.world.primary.disk b.plain.memory b.plain.disk b.world.primary.state.alone (effects g.u (last_after g.u h.base h.ahead) h.opened)
  pub detector : Detector g.t b.world.primary.state.alone b.world.primary.state.detector.count b.world.primary.state.acknowledged b.world.acks b.plain.a b.plain.r b.plain.count (length b.plain.checkpoints) h.acks
  pub packets : (port : ℕ) → PortPackets (held_list b.world.primary.state.queue b.world.primary.held) b.plain.accepted b.plain.taken b.plain.checkpoints port
  pub taker : Taker g.u g.m b.world.standby b.plain.activated b.plain.standby_memory b.plain.standby_disk h.base h.consumed b.plain.r
  pub primary_kept : PrimaryKept g b.world.primary
  pub standby_kept : StandbyKept g b.world.standby

pub record Inv (g : Settings) (b : Both) : Type 0 where
  pub ghost : Ghost
  pub holds : InvAt g ghost b
