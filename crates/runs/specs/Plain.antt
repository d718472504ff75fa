-- The plain pair (document 01, "Whole runs"): fed each call's arguments, number and value only. Assumes nothing.
use Rattle.std.specs.Prelude.{ℕ, ◌+◌, Bool, true, false, cond, not, List, [], ◌∷◌, ◌++◌, map, leb, eqb, length, get_or}
use Rattle.lists.specs.Refusal.{pick}
use Rattle.lists.specs.Page.{with_page}
use Rattle.lists.specs.Select.{selected, times_in}
use Rattle.records.specs.Kind.{is_commit}
use Rattle.pages.specs.Write.{written}
use Rattle.rules.specs.World.{Call}
use Rattle.rules.specs.World as call
use Rattle.rules.specs.Step.{Outcome}

-- an accepted packet: the port by which it leaves, and its bytes
pub record Sent : Type 0 where
  pub port : ℕ
  pub bytes : List ℕ

-- the packets of a port, in order
abbrev pub of_port : ℕ → List Sent → List (List ℕ)
of_port port sent = map (λ (s : Sent). s.bytes) (selected (λ (s : Sent). eqb s.port port) sent)

-- a checkpoint: "the primary's images, the processor state given and the packets accepted so far"
pub record Checkpoint : Type 0 where
  pub memory : List ℕ
  pub disk : List ℕ
  pub processor : List ℕ
  pub packets : List Sent

pub record Plain : Type 0 where
  -- the primary's guest memory and disk
  pub memory : List ℕ
  pub disk : List ℕ
  -- the standby's, from its activation on
  pub standby_memory : List ℕ
  pub standby_disk : List ℕ
  pub activated : Bool
  -- every packet accepted, the oldest first, and the port of each that has left: a port's queue is the rest of its
  -- packets
  pub accepted : List Sent
  pub taken : List ℕ
  pub checkpoints : List Checkpoint
  -- the checkpoint received, the one acknowledged, and the tick count
  pub r : ℕ
  pub a : ℕ
  pub count : ℕ

abbrev pub no_checkpoint : Checkpoint
no_checkpoint = record { memory = []; disk = []; processor = []; packets = [] }

abbrev pub checkpoint_at : Plain → ℕ → Checkpoint
checkpoint_at p i = get_or p.checkpoints i no_checkpoint

-- "checkpoint r"
abbrev pub received_checkpoint : Plain → Checkpoint
received_checkpoint p = checkpoint_at p p.r

-- how many of its packets have left
abbrev pub taken_of : Plain → ℕ → ℕ
taken_of p port = times_in port p.taken

-- "from T on it is alone"
abbrev pub is_alone : ℕ → Plain → Bool
is_alone t p = leb t p.count

-- "At start the primary has the images handed in; checkpoint 0 is these, the processor state and no packets; r, a and
-- the count are 0"
abbrev pub plain_start : List ℕ → List ℕ → List ℕ → Plain
plain_start memory disk processor =
    record {
      memory = memory;
      disk = disk;
      standby_memory = [];
      standby_disk = [];
      activated = false;
      accepted = [];
      taken = [];
      checkpoints = record { memory = memory; disk = disk; processor = processor; packets = [] } ∷ [];
      r = 0;
      a = 0;
      count = 0;
    }

-- ---- the parts replaced
abbrev pub with_images : Plain → List ℕ → List ℕ → Plain
with_images p memory disk =
    record { memory = memory; disk = disk; standby_memory = p.standby_memory; standby_disk = p.standby_disk; activated = p.activated; accepted = p.accepted; taken = p.taken; checkpoints = p.checkpoints; r = p.r; a = p.a; count = p.count }

abbrev pub with_activated_standby_images : Plain → Bool → List ℕ → List ℕ → Plain
with_activated_standby_images p activated memory disk =
    record { memory = p.memory; disk = p.disk; standby_memory = memory; standby_disk = disk; activated = activated; accepted = p.accepted; taken = p.taken; checkpoints = p.checkpoints; r = p.r; a = p.a; count = p.count }

abbrev pub with_packets : Plain → List Sent → List ℕ → Plain
with_packets p accepted taken =
    record { memory = p.memory; disk = p.disk; standby_memory = p.standby_memory; standby_disk = p.standby_disk; activated = p.activated; accepted = accepted; taken = taken; checkpoints = p.checkpoints; r = p.r; a = p.a; count = p.count }

abbrev pub with_checkpoint : Plain → Checkpoint → Plain
with_checkpoint p c =
    record { memory = p.memory; disk = p.disk; standby_memory = p.standby_memory; standby_disk = p.standby_disk; activated = p.activated; accepted = p.accepted; taken = p.taken; checkpoints = p.checkpoints ++ (c ∷ []); r = p.r; a = p.a; count = p.count }

abbrev pub with_counts : Plain → ℕ → ℕ → ℕ → Plain
with_counts p r a count =
    record { memory = p.memory; disk = p.disk; standby_memory = p.standby_memory; standby_disk = p.standby_disk; activated = p.activated; accepted = p.accepted; taken = p.taken; checkpoints = p.checkpoints; r = r; a = a; count = count }

-- "a is not the last checkpoint"
abbrev pub unacknowledged : Plain → Bool
unacknowledged p = not (eqb (p.a + 1) (length p.checkpoints))

-- an accepted call with its value; u is the page size
unfoldable pub plain_accepted : ℕ → Call → ℕ → Plain → Plain
plain_accepted u (call.memory_write page offset bytes) value p = with_images p (written u p.memory page offset bytes) p.disk
plain_accepted u (call.disk_write block bytes) value p = with_images p p.memory (with_page u p.disk block bytes)
plain_accepted u (call.packet port bytes) value p = with_packets p (p.accepted ++ (record { port = port; bytes = bytes } ∷ [])) p.taken
plain_accepted u (call.checkpoint processor) value p =
    with_checkpoint p (record { memory = p.memory; disk = p.disk; processor = processor.bytes; packets = p.accepted })
plain_accepted u (call.drain n destination) value p = p
plain_accepted u (call.ack n) value p = with_counts p p.r value 0
plain_accepted u (call.take port destination) value p = with_packets p p.accepted (port ∷ p.taken)
plain_accepted u call.primary_tick value p = with_counts p p.r p.a (cond (unacknowledged p) (p.count + 1) p.count)
plain_accepted u call.primary_sum value p = p
plain_accepted u (call.read n reply) value p = with_counts p (cond (is_commit value) (p.r + 1) p.r) p.a p.count
plain_accepted u (call.flush n) value p = p
plain_accepted u call.standby_tick value p = p
plain_accepted u call.activation value p = with_activated_standby_images p true (received_checkpoint p).memory (received_checkpoint p).disk
plain_accepted u (call.active_memory_write page offset bytes) value p =
    with_activated_standby_images p p.activated (written u p.standby_memory page offset bytes) p.standby_disk
plain_accepted u (call.active_disk_write block bytes) value p =
    with_activated_standby_images p p.activated p.standby_memory (with_page u p.standby_disk block bytes)
plain_accepted u (call.standby_sum order) value p = p

-- "or one refused or cut short: nothing changes"
unfoldable pub plain_step : ℕ → Call → Outcome → Plain → Plain
plain_step u c o p = pick o.number (plain_accepted u c o.value p) p
