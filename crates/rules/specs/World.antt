-- Both ends with their buffers and what travels between them, and the calls. Assumes nothing.
use Rattle.std.specs.Prelude.{ℕ, ◌≡◌, List, [], length}
use Rattle.records.specs.Kind.{processor_bytes}
use Rattle.settings.specs.declared.Settings.{Settings}
use Rattle.rules.specs.declared.Primary.{Primary}
use Rattle.rules.specs.declared.Standby.{Standby}
use Rattle.rules.specs.declared.StartLent.{StartLent}
use Rattle.rules.specs.Start.{start_refusal, started, start_copy, start_marks, start_area}

-- the primary with everything that its calls are lent
pub record PrimaryEnd : Type 0 where
  pub state : Primary
  pub memory : List ℕ
  pub disk : List ℕ
  pub dirty : List ℕ
  pub held : List ℕ
  pub stream : List ℕ

-- the standby with everything that its calls are lent
pub record StandbyEnd : Type 0 where
  pub state : Standby
  pub memory : List ℕ
  pub disk : List ℕ
  pub staged_pages : List ℕ
  pub staged_marks : List ℕ
  pub staged_blocks : List ℕ
  pub area : List ℕ

pub record World : Type 0 where
  pub primary : PrimaryEnd
  pub standby : StandbyEnd
  -- the bytes drained and not yet used
  pub link : List ℕ
  -- the bytes of ACKs that accepted COMMITs wrote, not yet used
  pub acks : List ℕ

-- a processor state: 64 bytes
pub record Processor : Type 0 where
  pub bytes : List ℕ
  pub size : length bytes ≡ processor_bytes

-- the sixteen calls with their arguments. A slice that is filled comes with what it holds before;
-- read and ACK are given the first n bytes of what is on their side of the link. The first argument of packet and take
-- is the port, that of the standby's sum the order of the pages
pub data Call : Type 0 where
  memory_write : ℕ → ℕ → List ℕ → Call
  disk_write : ℕ → List ℕ → Call
  packet : ℕ → List ℕ → Call
  checkpoint : Processor → Call
  drain : ℕ → List ℕ → Call
  ack : ℕ → Call
  take : ℕ → List ℕ → Call
  primary_tick : Call
  primary_sum : Call
  read : ℕ → List ℕ → Call
  flush : ℕ → Call
  standby_tick : Call
  activation : Call
  active_memory_write : ℕ → ℕ → List ℕ → Call
  active_disk_write : ℕ → List ℕ → Call
  standby_sum : List ℕ → Call

-- every buffer of both ends as start is lent it
pub record Buffers : Type 0 where
  pub memory : List ℕ
  pub disk : List ℕ
  pub dirty : List ℕ
  pub held : List ℕ
  pub stream : List ℕ
  pub standby_memory : List ℕ
  pub standby_disk : List ℕ
  pub staged_pages : List ℕ
  pub staged_marks : List ℕ
  pub staged_blocks : List ℕ
  pub area : List ℕ

abbrev pub start_lent : Buffers → StartLent
start_lent b =
    record {
      primary = record { memory = length b.memory; disk = length b.disk; dirty = length b.dirty; held = length b.held; stream = length b.stream };
      standby = record {
        memory = length b.standby_memory;
        disk = length b.standby_disk;
        pages = length b.staged_pages;
        marks = length b.staged_marks;
        blocks = length b.staged_blocks;
        area = length b.area;
      };
    }

abbrev pub start_number : Settings → Buffers → ℕ
start_number g b = start_refusal g (start_lent b)

-- the world after start, with an empty link
unfoldable pub start_world : Settings → Processor → Buffers → World
start_world g processor b =
    let l = start_lent b in
    let s = started g l processor.bytes in
    record {
      primary = record { state = s.primary; memory = b.memory; disk = b.disk; dirty = start_marks g l b.dirty; held = b.held; stream = b.stream };
      standby = record {
        state = s.standby;
        memory = start_copy g l b.memory b.standby_memory;
        disk = start_copy g l b.disk b.standby_disk;
        staged_pages = b.staged_pages;
        staged_marks = start_marks g l b.staged_marks;
        staged_blocks = b.staged_blocks;
        area = start_area g l b.area;
      };
      link = [];
      acks = [];
    }
