-- Demand 3 is proved: "cut the pair anywhere". Assumes nothing.
use Rattle.settings.specs.declared.Settings.{Settings}
use Rattle.runs.specs.Demand3.{Demand3}
use Rattle.runs.proofs.Frame.{PerCall, demand-3-from}
use Rattle.runs.proofs.MemoryWrite.{memory-write-keeps}
use Rattle.runs.proofs.DiskWrite.{disk-write-keeps}
use Rattle.runs.proofs.Packet.{packet-keeps}
use Rattle.runs.proofs.CheckpointCall.{checkpoint-keeps}
use Rattle.runs.proofs.Drain.{drain-keeps}
use Rattle.runs.proofs.Ack.{ack-keeps}
use Rattle.runs.proofs.Take.{take-keeps, take-right}
use Rattle.runs.proofs.PrimaryTick.{primary-tick-keeps}
use Rattle.runs.proofs.ReadCall.{read_keeps}
use Rattle.runs.proofs.Flush.{flush-keeps}
use Rattle.runs.proofs.StandbyTick.{standby-tick-keeps}
use Rattle.runs.proofs.Activation.{activation-keeps}
use Rattle.runs.proofs.ActiveWrites.{active-memory-write-keeps, active-disk-write-keeps}
use Rattle.runs.proofs.Sums.{primary-sum-keeps, standby-sum-keeps}
use Rattle.runs.proofs.TakeoverCalls.{takeover-law}
use Rattle.runs.proofs.StartCall.{start-law}

pub per-call : (g : Settings) → PerCall g
per-call g =
    record {
      memory_write = memory-write-keeps g;
      disk_write = disk-write-keeps g;
      packet = packet-keeps g;
      checkpoint = checkpoint-keeps g;
      drain = drain-keeps g;
      ack = ack-keeps g;
      take = take-keeps g;
      primary_tick = primary-tick-keeps g;
      primary_sum = primary-sum-keeps g;
      read = read_keeps g;
      flush = flush-keeps g;
      standby_tick = standby-tick-keeps g;
      activation = activation-keeps g;
      active_memory_write = active-memory-write-keeps g;
      active_disk_write = active-disk-write-keeps g;
      standby_sum = standby-sum-keeps g;
    }

pub demand-3 : Demand3
demand-3 = demand-3-from per-call take-right takeover-law start-law
