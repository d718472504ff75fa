-- Programs that only stop the two ends: demand 3 says nothing of them, and progress or catching up is false of each, by computing. Assumes nothing.
use Prim.Native.Nat.{ℕ, ◌+◌, ◌-◌}
use mathlib.Core.Path.{◌≡◌, refl, ap, subst}
use mathlib.Core.Bool.{cond}
use mathlib.Core.List.{List, [], ◌∷◌, ◌++◌}
use native.Mathlib.Omega.{arith}
use lib.Dec.{lit≤}
use lib.ListN.{length}
use Rattle.lists.specs.Part.{put}
use Rattle.records.specs.Kind.{is_wide}
use Rattle.records.specs.Number.{no_room, out_of_order, bad_ack, slots_full, nothing_free}
use Rattle.records.specs.Read.{cut_short}
use Rattle.records.specs.Write.{commit_record}
use Rattle.rules.specs.Checkpoint.{dirty_count}
use Rattle.rules.specs.World.{World, Call}
use Rattle.rules.specs.World as call
use Rattle.rules.specs.Step.{Stepped}
use Rattle.runs.specs.Run.{Steps, steps, run}
use Rattle.runs.specs.Progress.{number_of, GoesOn, ProgressOf, not_taken, CatchesUp, CatchUpOf}
use Rattle.runs.proofs.Compute.{all_steps}
use Rattle.runs.proofs.CutLaws.{no_cut, counted-uncut}
use Rattle.runs.proofs.SentLaws.{one-named}
use Rattle.runs.proofs.Small.{small, processor_of, buffers, begun, small-starts, unit, zeros, sent, reads, state_came, commit_came}
use Rattle.runs.proofs.Wrong.{instead_of, wrongly, accepts, leaving, primary_with, travelling}
use Rattle.runs.proofs.RuledOut.{refuses, sends_commit, drains_zeros}
use Rattle.runs.proofs.CatchUpProved.{least_exchange, least-enough}

-- ---- what is claimed after a list of calls with no cut
module _ (κ : Steps) (calls : List Call) where
  abbrev after : World
  after = (run κ 64 begun calls).world

  pub goes_on : ProgressOf κ → GoesOn κ small (run κ 64 begun calls).world
  goes_on p = subst (λ (cs : List Call). GoesOn κ small (run κ 64 begun cs).world) (counted-uncut calls) (p small (processor_of 1) buffers small-starts calls no_cut)

  pub catches_up : CatchUpOf κ → CatchesUp κ small (run κ 64 begun calls)
  catches_up p = subst (λ (cs : List Call). CatchesUp κ small (run κ 64 begun cs)) (counted-uncut calls) (p small (processor_of 1) buffers small-starts calls no_cut)

-- ---- a standby that refuses every record
abbrev refuses_records : Steps
refuses_records = wrongly (instead_of (call.read 0 []) (refuses out_of_order))

pub refutes-refusing-records : ProgressOf refuses_records → ⊥
unfolding all_steps
refutes-refusing-records p = let z : ◌≡◌ {A = ℕ} 9 0 = (goes_on refuses_records sent p).reads refl 74 (zeros 8) in omega arith

-- it never receives an epoch
pub never-receives : CatchUpOf refuses_records → ⊥
unfolding all_steps
never-receives p =
    let calls = call.checkpoint (processor_of 2) ∷ [] in
    let w = after refuses_records calls in
    let z : ◌≡◌ {A = ℕ} 1 2 = (catches_up refuses_records calls p refl refl (least_exchange small w) (least-enough small w)).received in
    omega arith

-- ---- one that gives the right number and stays as it was: it accepts the same STATE for ever
abbrev pub stays : World → Call → Stepped → Stepped
stays w c s = leaving s w

abbrev stays_reading : Steps
stays_reading = wrongly (instead_of (call.read 0 []) stays)

pub never-goes-further : CatchUpOf stays_reading → ⊥
unfolding all_steps
never-goes-further p =
    let calls = call.checkpoint (processor_of 2) ∷ [] in
    let w = after stays_reading calls in
    let z : ◌≡◌ {A = ℕ} 1 2 = (catches_up stays_reading calls p refl refl (least_exchange small w) (least-enough small w)).received in
    omega arith

-- ---- one that uses all bytes of the link with the first record
abbrev uses_link : World → Call → Stepped → Stepped
uses_link w c s = cond (accepts s) (leaving s (travelling s.next [] s.next.acks)) s

pub refutes-using-link : ProgressOf (wrongly (instead_of (call.read 0 []) uses_link)) → ⊥
unfolding all_steps
refutes-using-link p = let z : ◌≡◌ {A = ℕ} 0 158 = ap length ((goes_on _ sent p).read_uses refl 74 (zeros 8) refl) in omega arith

-- ---- a drain that hands over zeros: the standby refuses them with 6
pub refutes-drain-of-zeros : ProgressOf (wrongly (instead_of (call.drain 0 []) drains_zeros)) → ⊥
unfolding all_steps
refutes-drain-of-zeros p = let z : ◌≡◌ {A = ℕ} 6 0 = (goes_on _ (call.disk_write 1 (unit 88) ∷ call.drain 74 (zeros 74) ∷ []) p).reads refl 74 (zeros 8) in omega arith

-- ---- a checkpoint that sends pages the first time and only COMMITs later: the standby refuses each with 9
pub refutes-only-commits : ProgressOf (wrongly (instead_of (call.checkpoint (processor_of 0)) sends_commit)) → ⊥
unfolding all_steps
refutes-only-commits p =
    let z : ◌≡◌ {A = ℕ} 9 0 = (goes_on _ (commit_came ++ (call.memory_write 1 0 (78 ∷ []) ∷ call.checkpoint (processor_of 3) ∷ call.drain 380 (zeros 380) ∷ [])) p).reads refl 380 (zeros 8) in omega arith

-- ---- a COMMIT that counts a page too many: the standby refuses it with 10
abbrev pub counts_page_more : World → Call → Stepped → Stepped
counts_page_more w c s =
    let p = w.primary in
    let n = s.next.primary in
    let bytes = commit_record (is_wide p.state.settings.m) p.state.epoch (dirty_count p.state p.dirty + 1) p.state.records in
    cond (accepts s) (leaving s (primary_with s.next n.state n.dirty (put n.stream (n.state.waiting - length bytes) bytes))) s

pub refutes-page-more : ProgressOf (wrongly (instead_of (call.checkpoint (processor_of 0)) counts_page_more)) → ⊥
unfolding all_steps
refutes-page-more p = let z : ◌≡◌ {A = ℕ} 10 0 = (goes_on _ state_came p).reads refl 380 (zeros 8) in omega arith

-- ---- a primary that refuses every ACK: no epoch is ever acknowledged
abbrev refuses_acks : Steps
refuses_acks = wrongly (instead_of (call.ack 0) (refuses bad_ack))

pub refutes-refusing-acks : ProgressOf refuses_acks → ⊥
unfolding all_steps
refutes-refusing-acks p = let z : ◌≡◌ {A = ℕ} 11 0 = (goes_on refuses_acks commit_came p).acks refl 8 in omega arith

pub never-acknowledges : CatchUpOf refuses_acks → ⊥
unfolding all_steps
never-acknowledges p =
    let w = after refuses_acks commit_came in
    let z : ◌≡◌ {A = ℕ} 1 2 = (catches_up refuses_acks commit_came p refl refl (least_exchange small w) (least-enough small w)).acknowledged in
    omega arith

-- ---- one that uses all ACKs with the first
abbrev uses_acks : World → Call → Stepped → Stepped
uses_acks w c s = cond (accepts s) (leaving s (travelling s.next s.next.link [])) s

abbrev two_acks : List Call
two_acks = commit_came ++ (call.checkpoint (processor_of 3) ∷ call.drain 380 (zeros 380) ∷ reads 2)

pub refutes-using-acks : ProgressOf (wrongly (instead_of (call.ack 0) uses_acks)) → ⊥
unfolding all_steps
refutes-using-acks p = let z : ◌≡◌ {A = ℕ} 0 8 = ap length ((goes_on _ two_acks p).ack_uses refl 8 refl) in omega arith

-- ---- 18 with a packet free to go
abbrev keeps_packets : Steps
keeps_packets = wrongly (instead_of (call.take 0 []) (refuses nothing_free))

pub never-hands-out : CatchUpOf keeps_packets → ⊥
unfolding all_steps
never-hands-out p =
    let w = after keeps_packets commit_came in
    let z : ◌≡◌ {A = ℕ} 18 0 = ((catches_up keeps_packets commit_came p refl refl (least_exchange small w) (least-enough small w)).takes (zeros 1514) (lit≤ tt) (0 ∷ []) (one-named 0 (not_taken (run keeps_packets 64 begun commit_came).plain) (lit≤ tt))).0 in
    omega arith

-- ---- a primary that accepts each packet and holds none
abbrev holds_none : Steps
holds_none = wrongly (instead_of (call.packet 0 []) stays)

pub never-holds : CatchUpOf holds_none → ⊥
unfolding all_steps
never-holds p =
    let w = after holds_none commit_came in
    let z : ◌≡◌ {A = ℕ} 18 0 = ((catches_up holds_none commit_came p refl refl (least_exchange small w) (least-enough small w)).takes (zeros 1514) (lit≤ tt) (0 ∷ []) (one-named 0 (not_taken (run holds_none 64 begun commit_came).plain) (lit≤ tt))).0 in
    omega arith

-- ---- a checkpoint that is accepted and does nothing: its epoch stays open for ever
abbrev closes_none : Steps
closes_none = wrongly (instead_of (call.checkpoint (processor_of 0)) stays)

pub never-closes : CatchUpOf closes_none → ⊥
unfolding all_steps
never-closes p =
    let calls = call.checkpoint (processor_of 2) ∷ [] in
    let w = after closes_none calls in
    let z : ◌≡◌ {A = ℕ} 1 2 = (catches_up closes_none calls p refl refl (least_exchange small w) (least-enough small w)).r in
    omega arith

-- ---- what a read may be refused for does come: a COMMIT without room for its ACK, where no other record asks for any; less than a whole record
abbrev pub number_after : List Call → Call → ℕ
number_after calls c = number_of steps (run steps 64 begun calls).world c

pub commit-wants-room : number_after state_came (call.read 380 (zeros 7)) ≡ no_room
unfolding all_steps
commit-wants-room = refl

pub state-wants-none : number_after (sent ++ reads 2) (call.read 380 []) ≡ 0
unfolding all_steps
state-wants-none = refl

pub commit-in-part : number_after state_came (call.read 11 (zeros 8)) ≡ cut_short
unfolding all_steps
commit-in-part = refl

-- 17: S is 3 and B is 2; the second block of the second epoch finds the first epoch's two due and one staged, until a flush
abbrev pub three_staged : List Call
three_staged =
    call.disk_write 0 (unit 88)
    ∷ call.disk_write 1 (unit 88)
    ∷ call.checkpoint (processor_of 2)
    ∷ call.disk_write 0 (unit 89)
    ∷ call.drain 380 (zeros 380)
    ∷ call.disk_write 2 (unit 89)
    ∷ call.drain 380 (zeros 380)
    ∷ reads 5

pub gives-17 : number_after three_staged (call.read 380 (zeros 8)) ≡ slots_full
unfolding all_steps
gives-17 = refl

pub due-at-17 : (run steps 64 begun three_staged).world.standby.state.slots.due ≡ 2
unfolding all_steps
due-at-17 = refl

pub accepted-after-flush : number_after (three_staged ++ (call.flush 1 ∷ [])) (call.read 380 (zeros 8)) ≡ 0
unfolding all_steps
accepted-after-flush = refl

-- a flush that frees no slot
pub never-frees : ProgressOf (wrongly (instead_of (call.flush 0) stays)) → ⊥
unfolding all_steps
never-frees p = let z : ◌≡◌ {A = ℕ} 17 0 = (((goes_on _ three_staged p).waits refl 380 (zeros 8) refl).flushed 1 (lit≤ tt)).1.0 in omega arith
