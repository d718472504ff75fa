-- Demand 3 from what is to be proved of each call: the induction over the list. Assumes nothing.
use Prim.Native.Nat.{ℕ, ◌≤◌}
use mathlib.Core.Path.{◌≡◌, sym, subst}
use mathlib.Core.Logic.{⊎_elim}
use mathlib.Core.Bool.{false}
use mathlib.Core.List.{List, [], ◌∷◌, ◌++◌}
use Rattle.lists.proofs.TestLaws.{eq-or-ne}
use Rattle.settings.specs.declared.Settings.{Settings}
use Rattle.rules.specs.World.{Call, Processor, Buffers, start_number}
use Rattle.rules.specs.World as call
use Rattle.rules.specs.Step.{Stepped, step}
use Rattle.runs.specs.Plain.{Plain, taken_of, received_checkpoint}
use Rattle.runs.specs.Run.{Both, steps, run_call, run, start_both}
use Rattle.runs.specs.Cut.{counted_calls}
use Rattle.runs.specs.Demand3.{active, TakeRight, TakesRight, TakeoverRight, Holds, Demand3}
use Rattle.runs.proofs.Refused.{refused-both}
use Rattle.runs.proofs.FirstLaws.{FirstOf}
use Rattle.runs.proofs.PlainLaws.{Nested, nested-one, received-later, saved-later}
use Rattle.runs.proofs.Invariant.{Inv}
use Rattle.runs.proofs.Conclusions.{standby-right, disks-right, received-exists, acknowledged-received}

-- ---- what is to be proved of each call: an accepted one keeps the invariant
abbrev pub Accepted : Both → Call → Type 0
Accepted b c = (step b.world c).outcome.number ≡ 0

abbrev pub KeepsAccepted : Settings → Call → Type 0
KeepsAccepted g c = (b : Both) → Inv g b → Accepted b c → Inv g (run_call steps g.u b c)

pub record PerCall (g : Settings) : Type 0 where
  pub memory_write : (page offset : ℕ) (bytes : List ℕ) → KeepsAccepted g (call.memory_write page offset bytes)
  pub disk_write : (block : ℕ) (bytes : List ℕ) → KeepsAccepted g (call.disk_write block bytes)
  pub packet : (port : ℕ) (bytes : List ℕ) → KeepsAccepted g (call.packet port bytes)
  pub checkpoint : (processor : Processor) → KeepsAccepted g (call.checkpoint processor)
  pub drain : (n : ℕ) (destination : List ℕ) → KeepsAccepted g (call.drain n destination)
  pub ack : (n : ℕ) → KeepsAccepted g (call.ack n)
  pub take : (port : ℕ) (destination : List ℕ) → KeepsAccepted g (call.take port destination)
  pub primary_tick : KeepsAccepted g call.primary_tick
  pub primary_sum : KeepsAccepted g call.primary_sum
  pub read : (n : ℕ) (reply : List ℕ) → KeepsAccepted g (call.read n reply)
  pub flush : (n : ℕ) → KeepsAccepted g (call.flush n)
  pub standby_tick : KeepsAccepted g call.standby_tick
  pub activation : KeepsAccepted g call.activation
  pub active_memory_write : (page offset : ℕ) (bytes : List ℕ) → KeepsAccepted g (call.active_memory_write page offset bytes)
  pub active_disk_write : (block : ℕ) (bytes : List ℕ) → KeepsAccepted g (call.active_disk_write block bytes)
  pub standby_sum : (order : List ℕ) → KeepsAccepted g (call.standby_sum order)

-- of a take, besides: what it handed out, were the list to end there
abbrev pub TakeLaw : Settings → Type 0
TakeLaw g = (b : Both) → Inv g b → (port : ℕ) (destination : List ℕ) → TakeRight g.t port b.plain b.plain (step b.world (call.take port destination))

-- of the three kinds of call that take over
abbrev pub TakeoverLaw : Settings → Type 0
TakeoverLaw g =
    (b : Both) → Inv g b → active b.world ≡ false → (n : ℕ) → b.world.standby.state.slots.due ≤ n → TakeoverRight steps g b n

-- and of start
abbrev pub StartLaw : Settings → Type 0
StartLaw g = (processor : Processor) (buffers : Buffers) → start_number g buffers ≡ 0 → Inv g (start_both g processor buffers)

-- what it handed out is one of checkpoint r's at any end of which these are the first packets
take-later : (t port : ℕ) (p end : Plain) (s : Stepped) → TakeRight t port p p s → FirstOf (received_checkpoint p).packets (received_checkpoint end).packets → TakeRight t port p end s
take-later t port p end s x f =
    record {
      accepted = λ e. let h = x.accepted e in record { queued = h.queued; oldest = h.oldest; saved = h.saved; at_end = λ z. saved-later s.handed port (taken_of p port) p end f (h.saved z) };
      refused = x.refused;
    }

-- ---- every call keeps the invariant
accepted-keeps : (g : Settings) → PerCall g → (c : Call) → KeepsAccepted g c
accepted-keeps g k (call.memory_write page offset bytes) = k.memory_write page offset bytes
accepted-keeps g k (call.disk_write block bytes) = k.disk_write block bytes
accepted-keeps g k (call.packet port bytes) = k.packet port bytes
accepted-keeps g k (call.checkpoint processor) = k.checkpoint processor
accepted-keeps g k (call.drain n destination) = k.drain n destination
accepted-keeps g k (call.ack n) = k.ack n
accepted-keeps g k (call.take port destination) = k.take port destination
accepted-keeps g k call.primary_tick = k.primary_tick
accepted-keeps g k call.primary_sum = k.primary_sum
accepted-keeps g k (call.read n reply) = k.read n reply
accepted-keeps g k (call.flush n) = k.flush n
accepted-keeps g k call.standby_tick = k.standby_tick
accepted-keeps g k call.activation = k.activation
accepted-keeps g k (call.active_memory_write page offset bytes) = k.active_memory_write page offset bytes
accepted-keeps g k (call.active_disk_write block bytes) = k.active_disk_write block bytes
accepted-keeps g k (call.standby_sum order) = k.standby_sum order

abbrev pub Keeps : Settings → Call → Type 0
Keeps g c = (b : Both) → Inv g b → Inv g (run_call steps g.u b c)

-- a refused one leaves all as it was
pub keeps-of : (g : Settings) (c : Call) → KeepsAccepted g c → Keeps g c
keeps-of g c k b i =
    ⊎_elim (λ e. k b i e) (λ ne. subst (Inv g) (sym (refused-both g.u b c ne)) i) (eq-or-ne (step b.world c).outcome.number 0)

module _ (g : Settings) (k : PerCall g) where
  pub keeps : (c : Call) → Keeps g c
  keeps c = keeps-of g c (accepted-keeps g k c)

  -- after every list of calls
  pub run-inv : (cs : List Call) (b : Both) → Inv g b → Inv g (run steps g.u b cs)
  run-inv [] b i = i
  run-inv (c ∷ cs) b i = run-inv cs (run_call steps g.u b c) (keeps c b i)

  -- ---- every take of a list
  takes-right : TakeLaw g → (b : Both) → Inv g b → Nested b.plain.checkpoints b.plain.accepted → (cs : List Call) → TakesRight steps g b cs
  takes-right t b i n cs before port destination later is =
      let there = run steps g.u b before in
      let s = step there.world (call.take port destination) in
      let rest = call.take port destination ∷ later in
      let end = run steps g.u b (before ++ rest) in
      let v = run-inv before b i in
      let more = received-later g.u before rest b n (received-exists g there v) (received-exists g end (run-inv (before ++ rest) b i)) in
      subst (λ (x : List Call). TakeRight g.t port there.plain (run steps g.u b x).plain s) is
      (take-later g.t port there.plain end.plain s (t there v port destination) more)

-- ---- at every cut
pub holds : (g : Settings) → TakeoverLaw g → (b : Both) → Inv g b → Holds steps g b
holds g t b i =
    record {
      standby = standby-right g b i;
      takeover = λ a n d. t b i a n d;
      disks = disks-right g b i;
      protection = i.holds.detector.alone_is;
      received = i.holds.taker.received_is;
      acknowledged = i.holds.detector.acknowledged_is;
      received_exists = received-exists g b i;
      acknowledged_received = acknowledged-received g b i;
    }

-- ---- demand 3
pub demand-3-from : ((g : Settings) → PerCall g) → ((g : Settings) → TakeLaw g) → ((g : Settings) → TakeoverLaw g) → ((g : Settings) → StartLaw g) → Demand3
demand-3-from k t o s g processor buffers e calls cut =
    let b = start_both g processor buffers in
    let cs = counted_calls cut calls in
    let i = s g processor buffers e in
    record { takes = takes-right g (k g) (t g) b i (nested-one _) cs; end = holds g (o g) (run steps g.u b cs) (run-inv g (k g) cs b i) }
