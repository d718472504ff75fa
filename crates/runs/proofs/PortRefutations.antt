-- Wrong ends that mix up ports, for each of which a claim about runs is false, by computing. Assumes nothing.
use Prim.Native.Nat.{ℕ, ◌<◌}
use mathlib.Core.Path.{◌≡◌, refl, ap}
use mathlib.Core.Bool.{cond}
use mathlib.Core.List.{[], ◌∷◌, ◌++◌}
use native.Mathlib.Omega.{arith}
use lib.Dec.{leb, eqb, lit≤}
use lib.ListN.{get_or}
use Rattle.records.specs.Number.{nothing_free}
use Rattle.queue.specs.declared.Packet.{Packet}
use Rattle.queue.specs.Held.{packet_at}
use Rattle.rules.specs.World.{World, Call}
use Rattle.rules.specs.World as call
use Rattle.rules.specs.Step.{Stepped, step}
use Rattle.runs.specs.Run.{Steps, run}
use Rattle.runs.specs.Demand3.{Demand3Of}
use Rattle.runs.specs.Progress.{not_taken, CatchUpOf}
use Rattle.runs.proofs.Compute.{all_steps}
use Rattle.runs.proofs.Small.{small, zeros, begun, commit_came, take_of}
use Rattle.runs.proofs.Wrong.{instead_of, wrongly, refusing}
use Rattle.runs.proofs.Slips.{releases_open}
use Rattle.runs.proofs.TakeRefutations.{released}
use Rattle.runs.proofs.SentLaws.{one-named}
use Rattle.runs.proofs.CatchUpProved.{least_exchange, least-enough}
use Rattle.runs.proofs.ProgressRefutes.{catches_up}

-- the port that a take names
abbrev port_of : Call → ℕ
port_of c =
    elim c [
      | call.memory_write page offset bytes ↦ 0
      | call.disk_write block bytes ↦ 0
      | call.packet port bytes ↦ 0
      | call.checkpoint processor ↦ 0
      | call.drain n destination ↦ 0
      | call.ack n ↦ 0
      | call.take port destination ↦ port
      | call.primary_tick ↦ 0
      | call.primary_sum ↦ 0
      | call.read n reply ↦ 0
      | call.flush n ↦ 0
      | call.standby_tick ↦ 0
      | call.activation ↦ 0
      | call.active_memory_write page offset bytes ↦ 0
      | call.active_disk_write block bytes ↦ 0
      | call.standby_sum order ↦ 0
    ]

-- the oldest packet of all ports
abbrev first_held : World → Packet
first_held w = packet_at w.primary.state.queue 0

-- ---- it goes out, whatever port is named
-- not "That port's oldest packet goes out"
abbrev hands_first : World → Call → Stepped → Stepped
hands_first w c s = step w (call.take (first_held w).port (zeros 1))

pub refutes-first-of-all : Demand3Of (wrongly (instead_of (call.take 0 []) hands_first)) → ⊥
unfolding all_steps
refutes-first-of-all d =
    let e = ((take_of _ d (call.packet 1 (98 ∷ []) ∷ released) 0 (zeros 1) []).accepted refl).oldest in
    let z : ◌≡◌ {A = ℕ} 98 99 = ap (λ l. get_or l 0 0) e in omega arith

-- ---- where it is free, so is every port's
-- not "and 18 is judged for it"
abbrev judges_first : World → Call → Stepped → Stepped
judges_first w c s = cond (leb (first_held w).epoch w.primary.state.acknowledged) (releases_open w c s) s

pub refutes-judged-by-first : Demand3Of (wrongly (instead_of (call.take 0 []) judges_first)) → ⊥
unfolding all_steps
refutes-judged-by-first d =
    let z : 0 < 0 = (((take_of _ d (released ++ (call.packet 1 (98 ∷ []) ∷ [])) 1 (zeros 1) []).accepted refl).saved refl).below in omega arith

-- ---- it has to leave before those of other ports
-- not "That port's oldest packet goes out"
abbrev waits_for_first : World → Call → Stepped → Stepped
waits_for_first w c s = cond (eqb (first_held w).port (port_of c)) s (refusing w nothing_free)

abbrev in_order : Steps
in_order = wrongly (instead_of (call.take 0 []) waits_for_first)

pub never-passes-another-port : CatchUpOf in_order → ⊥
unfolding all_steps
never-passes-another-port p =
    let calls = call.packet 1 (98 ∷ []) ∷ commit_came in
    let b = run in_order 64 begun calls in
    let z : ◌≡◌ {A = ℕ} 18 0 = ((catches_up in_order calls p refl refl (least_exchange small b.world) (least-enough small b.world)
    ).takes (zeros 1514) (lit≤ tt) (0 ∷ []) (one-named 0 (not_taken b.plain) (lit≤ tt))).0 in
    omega arith
