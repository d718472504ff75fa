-- Wrong ends and wrong plain pairs for which a conjunct of demand 3 about takes is false, by computing. Assumes nothing.
-- Each names the conjunct; the others are in Refutations and Slips.
use Prim.Native.Nat.{ℕ, ◌<◌}
use mathlib.Core.Path.{◌≡◌, refl, ap}
use mathlib.Core.Bool.{cond, ◌&&◌}
use mathlib.Core.List.{List, [], ◌∷◌, ◌++◌, map}
use native.Mathlib.Omega.{arith}
use lib.Dec.{eqb, lit≤}
use lib.ListN.{length, drop, get_or, replicate}
use Rattle.lists.specs.Refusal.{pick}
use Rattle.rules.specs.World.{World, Call}
use Rattle.rules.specs.World as call
use Rattle.rules.specs.Step.{Stepped, step}
use Rattle.runs.specs.Plain.{Sent, Plain, taken_of, checkpoint_at, with_checkpoint, plain_step}
use Rattle.runs.specs.Run.{Steps, run}
use Rattle.runs.specs.Demand3.{Saved, Demand3Of}
use Rattle.runs.proofs.Compute.{all_steps}
use Rattle.runs.proofs.Small.{processor_of, zeros, begun, reads, commit_came, take_of}
use Rattle.runs.proofs.Wrong.{same_kind, instead_of, wrongly}

-- checkpoint 1, with its packet, is received and acknowledged
abbrev pub released : List Call
released = commit_came ++ (call.ack 8 ∷ [])

-- `oldest`: a take that hands out other bytes
-- not "hands out the oldest packet"
abbrev pub hands_other : World → Call → Stepped → Stepped
hands_other w c s = record { next = s.next; outcome = s.outcome; handed = pick s.outcome.number (98 ∷ []) [] }

pub refutes-other-packet : Demand3Of (wrongly (instead_of (call.take 0 []) hands_other)) → ⊥
unfolding all_steps
refutes-other-packet d =
    let e = ((take_of _ d released 0 (zeros 1) []).accepted refl).oldest in
    let z : ◌≡◌ {A = ℕ} 98 99 = ap (λ l. get_or l 0 0) e in omega arith

-- `refused`: a take that hands out bytes and answers 18
-- not "18 nothing may be handed out"
abbrev pub hands_refused : World → Call → Stepped → Stepped
hands_refused w c s = record { next = s.next; outcome = s.outcome; handed = pick s.outcome.number s.handed (99 ∷ []) }

pub refutes-handed-refused : Demand3Of (wrongly (instead_of (call.take 0 []) hands_refused)) → ⊥
unfolding all_steps
refutes-handed-refused d =
    let e = (take_of _ d (call.packet 0 (99 ∷ []) ∷ []) 0 (zeros 1) []).refused (λ (z : ◌≡◌ {A = ℕ} 18 0). omega arith) in
    let z : ◌≡◌ {A = ℕ} 1 0 = ap length e in omega arith

-- ---- plain pairs whose checkpoints hold other packets, beside the right ends
-- not "Checkpoint: the next holds .. the packets accepted so far"
abbrev pub holding : (Plain → List Sent) → Steps
holding packets =
    record {
      real = step;
      plain = λ u c o p.
          let q = plain_step u c o p in
          let k = checkpoint_at q (length p.checkpoints) in
          cond (same_kind c (call.checkpoint (processor_of 0)) && eqb o.number 0)
          (with_checkpoint p (record { memory = k.memory; disk = k.disk; processor = k.processor; packets = packets p }))
          q;
    }

-- `saved.same`: as many packets, each empty
abbrev pub only_count : Plain → List Sent
only_count p = map (λ (x : Sent). record { port = x.port; bytes = [] }) p.accepted

pub refutes-count-of-packets : Demand3Of (holding only_count) → ⊥
unfolding all_steps
refutes-count-of-packets d =
    let z : ◌≡◌ {A = ℕ} 1 0 = ap length (((take_of _ d released 0 (zeros 1) []).accepted refl).saved refl).same in omega arith

-- after the take a second checkpoint is received
abbrev pub received_again : List Call
received_again = call.checkpoint (processor_of 3) ∷ call.drain 380 (zeros 380) ∷ reads 2

-- `at_end.below`: only the packets still queued, all of them of port 0
abbrev pub only_queued : Plain → List Sent
only_queued p = drop (taken_of p 0) p.accepted

pub refutes-only-queued : Demand3Of (holding only_queued) → ⊥
unfolding all_steps
refutes-only-queued d =
    let z : 0 < 0 = (((take_of _ d released 0 (zeros 1) received_again).accepted refl).at_end refl).below in omega arith

-- `at_end.same`: the same, with an empty packet for each that was taken
abbrev pub empty_taken : Plain → List Sent
empty_taken p = replicate (taken_of p 0) (record { port = 0; bytes = [] }) ++ only_queued p

pub refutes-empty-taken : Demand3Of (holding empty_taken) → ⊥
unfolding all_steps
refutes-empty-taken d =
    let z : ◌≡◌ {A = ℕ} 1 0 = ap length (((take_of _ d released 0 (zeros 1) received_again).accepted refl).at_end refl).same in omega arith

-- in both, the packet is one of checkpoint r's where the take is made
pub right-where-made : Saved (99 ∷ []) 0 0 (run (holding only_queued) 64 begun released).plain × Saved (99 ∷ []) 0 0 (run (holding empty_taken) 64 begun released).plain
unfolding all_steps
right-where-made = (record { below = lit≤ tt; same = refl }, record { below = lit≤ tt; same = refl })
