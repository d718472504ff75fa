-- Progress is proved: the second invariant holds after every list of calls, and what it says of the next call. Assumes nothing.
use mathlib.Core.Path.{◌≡◌, refl, sym, ap, subst}
use mathlib.Core.Logic.{⊎_elim}
use mathlib.Core.Bool.{true, false, not}
use mathlib.Core.List.{List, [], ◌∷◌}
use borrow.Author.Tests.{eq-eqb}
use Rattle.lists.proofs.TestLaws.{eq-or-ne}
use Rattle.settings.specs.declared.Settings.{Settings}
use Rattle.rules.specs.Start.{started, start_copy, start_marks, start_area}
use Rattle.rules.specs.World.{World, Processor, Call, Buffers, start_number, start_world}
use Rattle.rules.specs.World as call
use Rattle.rules.specs.Step.{step}
use Rattle.runs.specs.Run.{Both, steps, run_call, run, start_both}
use Rattle.runs.specs.Cut.{counted_calls}
use Rattle.runs.specs.Progress.{GoesOn, Progress}
use Rattle.runs.proofs.Refused.{refused-world}
use Rattle.runs.proofs.Frame.{keeps}
use Rattle.runs.proofs.StartCall.{start-law}
use Rattle.runs.proofs.Proved.{per-call}
use Rattle.runs.proofs.Sums.{primary-sum-pending, standby-sum-pending}
use Rattle.runs.proofs.Walk.{blocks_only}
use Rattle.runs.proofs.Pending.{View, view_of, Pending, Agree, KeepsPending}
use Rattle.runs.proofs.PendingCalls.{memory-write-pending, packet-pending, take-pending, flush-pending, active-memory-write-pending, active-disk-write-pending, activation-pending, standby-tick-pending, primary-tick-pending, drain-pending}
use Rattle.runs.proofs.PendingSent.{disk-write-pending, checkpoint-pending}
use Rattle.runs.proofs.PendingRead.{read_number_lem, read_kept, read-pending}
use Rattle.runs.proofs.PendingAck.{ack-number, ack-kept, ack-pending}
use Rattle.runs.proofs.FlushFrees.{waits}

-- ---- start
abbrev start_view : View
start_view =
    record {
      sender = record { out = []; alone = false; epoch = 1; numbers = []; records = 0; acknowledged = 0 };
      receiver = record { receiving = true; counts = blocks_only 1 [] 0 };
      link = [];
      acks = [];
    }

start-view : (g : Settings) (processor : Processor) (b : Buffers) → start_number g b ≡ 0 → view_of (start_world g processor b) ≡ start_view
unfolding start_world started start_copy start_marks start_area
start-view g processor b e = rw (eq-eqb _ _ e)

start-pending : (g : Settings) → Pending g start_view
start-pending g =
    record {
      flight = record { records = []; lost = []; bytes = refl; lossless = λ z. refl; readable = tt };
      walk = λ z. refl;
      trail = record { epochs = []; are = refl; leads = refl };
    }

pub start-agree : (g : Settings) (processor : Processor) (b : Buffers) → start_number g b ≡ 0 → Agree g (start_both g processor b)
start-agree g processor b e = record { inv = start-law g processor b e; pending = subst (Pending g) (sym (start-view g processor b e)) (start-pending g) }

-- ---- every call
module _ (g : Settings) where
  accepted-pending : (c : Call) → KeepsPending g c
  accepted-pending (call.memory_write page offset bytes) = memory-write-pending g page offset bytes
  accepted-pending (call.disk_write block bytes) = disk-write-pending g block bytes
  accepted-pending (call.packet port bytes) = packet-pending g port bytes
  accepted-pending (call.checkpoint processor) = checkpoint-pending g processor
  accepted-pending (call.drain n destination) = drain-pending g n destination
  accepted-pending (call.ack n) = ack-pending g n
  accepted-pending (call.take port destination) = take-pending g port destination
  accepted-pending call.primary_tick = primary-tick-pending g
  accepted-pending call.primary_sum = primary-sum-pending g
  accepted-pending (call.read n reply) = read-pending g n reply
  accepted-pending (call.flush n) = flush-pending g n
  accepted-pending call.standby_tick = standby-tick-pending g
  accepted-pending call.activation = activation-pending g
  accepted-pending (call.active_memory_write page offset bytes) = active-memory-write-pending g page offset bytes
  accepted-pending (call.active_disk_write block bytes) = active-disk-write-pending g block bytes
  accepted-pending (call.standby_sum order) = standby-sum-pending g order

  pub call-agree : (c : Call) (b : Both) → Agree g b → Agree g (run_call steps g.u b c)
  call-agree c b a =
      record {
        inv = keeps g (per-call g) c b a.inv;
        pending =
            ⊎_elim
            (λ (e : (step b.world c).outcome.number ≡ 0). accepted-pending c b a.inv e a.pending)
            (λ (ne : (step b.world c).outcome.number ≡ 0 → ⊥). subst (λ (w : World). Pending g (view_of w)) (sym (refused-world b.world c ne)) a.pending)
            (eq-or-ne (step b.world c).outcome.number 0);
      }

  -- every list of calls
  pub run_agree : (cs : List Call) (b : Both) → Agree g b → Agree g (run steps g.u b cs)
  run_agree [] b a = a
  run_agree (c ∷ cs) b a = run_agree cs (run_call steps g.u b c) (call-agree c b a)

  -- ---- what follows where both invariants hold
  pub goes_on : (b : Both) → Agree g b → GoesOn steps g b.world
  goes_on b a =
      record {
        reads = λ on n reply. read_number_lem g b.world a.inv.holds.standby_kept a.pending on n reply;
        waits = λ on n reply e. waits g b a on n reply e;
        read_uses = λ on n reply e. (read_kept g b.world a.inv.holds.standby_kept a.pending on n reply e).2;
        acks = λ protects n. ack-number g b a.inv a.pending (ap not protects) n;
        ack_uses = λ protects n e. (ack-kept g b a.inv a.pending (ap not protects) n e).2;
      }

pub progress : Progress
progress g processor buffers e calls cut =
    let b = start_both g processor buffers in
    let cs = counted_calls cut calls in
    goes_on g (run steps g.u b cs) (run_agree g cs b (start-agree g processor buffers e))
