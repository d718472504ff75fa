-- One call on the world: the ends' definitions applied to it. What travels is what the buffers then hold. Assumes
-- nothing.
use Rattle.rules.specs.declared.Standby.{Standby}
use Rattle.rules.specs.declared.ReadReply.{ReadReply}
use Rattle.std.specs.Prelude.{ℕ, cond, List, [], ◌++◌, length, take, drop}
use Rattle.records.specs.Kind.{ACK, record_length}
use Rattle.rules.specs.Reply.{number_of, value_of, used_of, commit_accepted}
use Rattle.rules.specs.PrimaryWrites.{memory_write_reply, memory_write_memory, memory_write_dirty, disk_write_reply, disk_write_disk, disk_write_stream}
use Rattle.rules.specs.Packets.{packet_reply, packet_held, take_reply, take_held, take_destination}
use Rattle.rules.specs.Checkpoint.{dirty_count, checkpoint_reply, checkpoint_dirty, checkpoint_stream}
use Rattle.rules.specs.Stream.{drain_reply, drain_stream, drain_destination, ack_reply}
use Rattle.rules.specs.PrimaryTick.{primary_tick_reply}
use Rattle.rules.specs.Read.{read_lent, read_reply, read_memory, read_staged_pages, read_staged_marks, read_staged_blocks, read_reply_bytes}
use Rattle.rules.specs.Flush.{flush_reply, flush_staged_blocks, flush_disk}
use Rattle.rules.specs.Takeover.{standby_tick_reply, standby_tick_marks, activation_reply, activation_area, active_memory_write_reply, active_memory_write_memory, active_disk_write_reply, active_disk_write_disk}
use Rattle.rules.specs.Sums.{primary_sum_reply, standby_sum_reply}
use Rattle.rules.specs.World.{PrimaryEnd, StandbyEnd, World, Processor, Call}
use Rattle.rules.specs.World as world

-- a call's number and value: all that the plain pair is told of it, beside the call
pub record Outcome : Type 0 where
  pub number : ℕ
  pub value : ℕ

pub record Stepped : Type 0 where
  pub next : World
  pub outcome : Outcome
  -- the packet that a take handed out
  pub handed : List ℕ

abbrev pub outcome : ℕ → ℕ → Outcome
outcome number value = record { number = number; value = value }

-- ---- the ends with the parts that a call changed
abbrev pub at_primary : World → PrimaryEnd → World
at_primary w p = record { primary = p; standby = w.standby; link = w.link; acks = w.acks }

abbrev pub at_standby : World → StandbyEnd → World
at_standby w s = record { primary = w.primary; standby = s; link = w.link; acks = w.acks }

abbrev pub stepped : World → ℕ → ℕ → Stepped
stepped w number value = record { next = w; outcome = outcome number value; handed = [] }

-- ---- the primary's calls
abbrev pub step_memory_write : World → ℕ → ℕ → List ℕ → Stepped
step_memory_write w page offset bytes =
    let p = w.primary in
    let r = memory_write_reply p.state (length p.memory) (length p.dirty) page offset (length bytes) in
    stepped
    (at_primary w (record {
      state = r.state;
      memory = memory_write_memory p.state p.memory p.dirty page offset bytes;
      disk = p.disk;
      dirty = memory_write_dirty p.state p.memory p.dirty page offset bytes;
      held = p.held;
      stream = p.stream;
    }))
    r.number r.value

abbrev pub step_disk_write : World → ℕ → List ℕ → Stepped
step_disk_write w block bytes =
    let p = w.primary in
    let r = disk_write_reply p.state (length p.disk) (length p.stream) block (length bytes) in
    stepped
    (at_primary w (record {
      state = r.state;
      memory = p.memory;
      disk = disk_write_disk p.state p.disk p.stream block bytes;
      dirty = p.dirty;
      held = p.held;
      stream = disk_write_stream p.state p.disk p.stream block bytes;
    }))
    r.number r.value

abbrev pub step_packet : World → ℕ → List ℕ → Stepped
step_packet w port bytes =
    let p = w.primary in
    let r = packet_reply p.state (length p.held) port (length bytes) in
    stepped
    (at_primary w (record {
      state = r.state;
      memory = p.memory;
      disk = p.disk;
      dirty = p.dirty;
      held = packet_held p.state p.held port bytes;
      stream = p.stream;
    }))
    r.number r.value

abbrev pub step_checkpoint : World → Processor → Stepped
step_checkpoint w processor =
    let p = w.primary in
    let r = checkpoint_reply p.state (length p.memory) (length p.dirty) (length p.stream) (dirty_count p.state p.dirty) in
    stepped
    (at_primary w (record {
      state = r.state;
      memory = p.memory;
      disk = p.disk;
      dirty = checkpoint_dirty p.state p.memory p.dirty p.stream;
      held = p.held;
      stream = checkpoint_stream p.state p.memory p.dirty p.stream processor.bytes;
    }))
    r.number r.value

-- the link gets what the destination then holds, as many bytes as the value says
abbrev pub step_drain : World → ℕ → List ℕ → Stepped
step_drain w n destination =
    let p = w.primary in
    let r = drain_reply p.state (length p.stream) n (length destination) in
    record {
      next = record {
        primary = record {
          state = r.state;
          memory = p.memory;
          disk = p.disk;
          dirty = p.dirty;
          held = p.held;
          stream = drain_stream p.state p.stream n (length destination);
        };
        standby = w.standby;
        link = w.link ++ take r.value (drain_destination p.state p.stream n destination);
        acks = w.acks;
      };
      outcome = outcome r.number r.value;
      handed = [];
    }

-- "any first part of" the ACKs; the bytes used leave
abbrev pub step_ack : World → ℕ → Stepped
step_ack w n =
    let p = w.primary in
    let r = ack_reply p.state (take n w.acks) in
    record {
      next = record {
        primary = record { state = r.state; memory = p.memory; disk = p.disk; dirty = p.dirty; held = p.held; stream = p.stream };
        standby = w.standby;
        link = w.link;
        acks = drop (used_of r.answer) w.acks;
      };
      outcome = outcome (number_of r.answer) (value_of r.answer);
      handed = [];
    }

-- what is handed out is what the destination then holds
abbrev pub step_take : World → ℕ → List ℕ → Stepped
step_take w port destination =
    let p = w.primary in
    let r = take_reply p.state (length p.held) port (length destination) in
    record {
      next = at_primary w (record {
        state = r.state;
        memory = p.memory;
        disk = p.disk;
        dirty = p.dirty;
        held = take_held p.state p.held port destination;
        stream = p.stream;
      });
      outcome = outcome r.number r.value;
      handed = take r.value (take_destination p.state p.held port destination);
    }

abbrev pub step_primary_tick : World → Stepped
step_primary_tick w =
    let p = w.primary in
    let r = primary_tick_reply p.state in
    stepped
    (at_primary w (record { state = r.state; memory = p.memory; disk = p.disk; dirty = p.dirty; held = p.held; stream = p.stream }))
    r.number r.value

abbrev pub step_primary_sum : World → Stepped
step_primary_sum w =
    let p = w.primary in
    let r = primary_sum_reply p.state p.memory in
    stepped
    (at_primary w (record { state = r.state; memory = p.memory; disk = p.disk; dirty = p.dirty; held = p.held; stream = p.stream }))
    r.number r.value

-- ---- the standby's calls

-- "the ACKs that accepted COMMITs wrote"
abbrev pub ack_written : ReadReply Standby → List ℕ → List ℕ
ack_written r reply =
    cond (commit_accepted (number_of r.answer) (value_of r.answer)) (take (record_length r.state.settings.u ACK) reply) []

abbrev pub step_read : World → ℕ → List ℕ → Stepped
step_read w n reply =
    let s = w.standby in
    let l = read_lent s.memory s.staged_pages s.staged_marks s.staged_blocks reply in
    let bytes = take n w.link in
    let r = read_reply s.state l bytes in
    record {
      next = record {
        primary = w.primary;
        standby = record {
          state = r.state;
          memory = read_memory s.state l bytes s.memory s.staged_pages s.staged_marks;
          disk = s.disk;
          staged_pages = read_staged_pages s.state l bytes s.staged_pages;
          staged_marks = read_staged_marks s.state l bytes s.staged_marks;
          staged_blocks = read_staged_blocks s.state l bytes s.staged_blocks;
          area = s.area;
        };
        link = drop (used_of r.answer) w.link;
        acks = w.acks ++ ack_written r (read_reply_bytes s.state l bytes reply);
      };
      outcome = outcome (number_of r.answer) (value_of r.answer);
      handed = [];
    }

abbrev pub step_flush : World → ℕ → Stepped
step_flush w n =
    let s = w.standby in
    let r = flush_reply s.state (length s.staged_blocks) (length s.disk) n in
    stepped
    (at_standby w (record {
      state = r.state;
      memory = s.memory;
      disk = flush_disk s.state s.staged_blocks s.disk n;
      staged_pages = s.staged_pages;
      staged_marks = s.staged_marks;
      staged_blocks = flush_staged_blocks s.state s.staged_blocks s.disk n;
      area = s.area;
    }))
    r.number r.value

abbrev pub step_standby_tick : World → Stepped
step_standby_tick w =
    let s = w.standby in
    let r = standby_tick_reply s.state (length s.staged_marks) in
    stepped
    (at_standby w (record {
      state = r.state;
      memory = s.memory;
      disk = s.disk;
      staged_pages = s.staged_pages;
      staged_marks = standby_tick_marks s.state s.staged_marks;
      staged_blocks = s.staged_blocks;
      area = s.area;
    }))
    r.number r.value

abbrev pub step_activation : World → Stepped
step_activation w =
    let s = w.standby in
    let r = activation_reply s.state (length s.area) in
    stepped
    (at_standby w (record {
      state = r.state;
      memory = s.memory;
      disk = s.disk;
      staged_pages = s.staged_pages;
      staged_marks = s.staged_marks;
      staged_blocks = s.staged_blocks;
      area = activation_area s.state s.area;
    }))
    r.number r.value

abbrev pub step_active_memory_write : World → ℕ → ℕ → List ℕ → Stepped
step_active_memory_write w page offset bytes =
    let s = w.standby in
    let r = active_memory_write_reply s.state (length s.memory) page offset (length bytes) in
    stepped
    (at_standby w (record {
      state = r.state;
      memory = active_memory_write_memory s.state s.memory page offset bytes;
      disk = s.disk;
      staged_pages = s.staged_pages;
      staged_marks = s.staged_marks;
      staged_blocks = s.staged_blocks;
      area = s.area;
    }))
    r.number r.value

abbrev pub step_active_disk_write : World → ℕ → List ℕ → Stepped
step_active_disk_write w block bytes =
    let s = w.standby in
    let r = active_disk_write_reply s.state (length s.disk) block (length bytes) in
    stepped
    (at_standby w (record {
      state = r.state;
      memory = s.memory;
      disk = active_disk_write_disk s.state s.disk block bytes;
      staged_pages = s.staged_pages;
      staged_marks = s.staged_marks;
      staged_blocks = s.staged_blocks;
      area = s.area;
    }))
    r.number r.value

abbrev pub step_standby_sum : World → List ℕ → Stepped
step_standby_sum w order =
    let s = w.standby in
    let r = standby_sum_reply s.state s.memory order in
    stepped
    (at_standby w (record {
      state = r.state;
      memory = s.memory;
      disk = s.disk;
      staged_pages = s.staged_pages;
      staged_marks = s.staged_marks;
      staged_blocks = s.staged_blocks;
      area = s.area;
    }))
    r.number r.value

unfoldable pub step : World → Call → Stepped
step w (world.memory_write page offset bytes) = step_memory_write w page offset bytes
step w (world.disk_write block bytes) = step_disk_write w block bytes
step w (world.packet port bytes) = step_packet w port bytes
step w (world.checkpoint processor) = step_checkpoint w processor
step w (world.drain n destination) = step_drain w n destination
step w (world.ack n) = step_ack w n
step w (world.take port destination) = step_take w port destination
step w world.primary_tick = step_primary_tick w
step w world.primary_sum = step_primary_sum w
step w (world.read n reply) = step_read w n reply
step w (world.flush n) = step_flush w n
step w world.standby_tick = step_standby_tick w
step w world.activation = step_activation w
step w (world.active_memory_write page offset bytes) = step_active_memory_write w page offset bytes
step w (world.active_disk_write block bytes) = step_active_disk_write w block bytes
step w (world.standby_sum order) = step_standby_sum w order
