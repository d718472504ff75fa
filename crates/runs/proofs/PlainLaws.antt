-- The plain pair along a run: r never falls, checkpoints are added at the end, each with the packets of those before it. Assumes nothing.
use Prim.Native.Nat.{ℕ, ◌+◌, ◌≤◌, ◌<◌}
use mathlib.Core.Path.{◌≡◌, refl, sym, ap, ◌∙◌, subst}
use mathlib.Core.Bool.{Bool, true, false, cond}
use mathlib.Core.List.{List, [], ◌∷◌, ◌++◌, append_assoc, append-nil}
use native.Mathlib.Omega.{arith}
use borrow.Author.Tests.{eq-eqb}
use lib.ListN.{length, get_or, get_or-append}
use Rattle.records.specs.Kind.{is_commit}
use Rattle.rules.specs.World.{Call}
use Rattle.rules.specs.World as call
use Rattle.rules.specs.Step.{Outcome, step}
use Rattle.rules.proofs.ReplyLaws.{pick-cases}
use Rattle.runs.specs.Plain.{Sent, Checkpoint, Plain, of_port, no_checkpoint, received_checkpoint, plain_accepted, plain_step}
use Rattle.runs.specs.Run.{Both, Steps, steps, run_call, run}
use Rattle.runs.specs.Demand3.{Saved}
use Rattle.runs.proofs.FirstLaws.{FirstOf, first-all, first_more, first_below, first-same}
use Rattle.runs.proofs.SentLaws.{first-of-port}
use Rattle.runs.proofs.PacketsLaws.{checkpoint-cases}

-- ---- a list of calls and another after it
pub run-append : (κ : Steps) (u : ℕ) (xs ys : List Call) (b : Both) → run κ u b (xs ++ ys) ≡ run κ u (run κ u b xs) ys
run-append κ u [] ys b = refl
run-append κ u (x ∷ xs) ys b = run-append κ u xs ys (run_call κ u b x)

-- ---- from one plain pair to a later one
pub record Later (p q : Plain) : Type 0 where
  pub received : p.r ≤ q.r
  pub more : List Checkpoint
  pub added : p.checkpoints ++ more ≡ q.checkpoints

unchanged : (p q : Plain) → p.r ≤ q.r → p.checkpoints ≡ q.checkpoints → Later p q
unchanged p q l e = record { received = l; more = []; added = append-nil p.checkpoints ∙ e }

pub later_refl : (p : Plain) → Later p p
later_refl p = unchanged p p (omega arith) refl

later_trans : (p q s : Plain) → Later p q → Later q s → Later p s
later_trans p q s x y =
    record {
      received = omega (arith, x.received, y.received);
      more = x.more ++ y.more;
      added = sym (append_assoc p.checkpoints x.more y.more) ∙ ap (λ (l : List Checkpoint). l ++ y.more) x.added ∙ y.added;
    }

-- ---- the packets of a checkpoint are the first of each later one's, and of those accepted
pub record Nested (checkpoints : List Checkpoint) (accepted : List Sent) : Type 0 where
  pub first : (i : ℕ) → i < length checkpoints → FirstOf (get_or checkpoints i no_checkpoint).packets accepted
  pub later : (i j : ℕ) → i ≤ j → j < length checkpoints → FirstOf (get_or checkpoints i no_checkpoint).packets (get_or checkpoints j no_checkpoint).packets

-- one checkpoint, with all packets accepted
pub nested-one : (c : Checkpoint) → Nested (c ∷ []) c.packets
nested-one c =
    record {
      first = λ i l. let z : i ≡ 0 = omega arith in rw z (first-all c.packets c.packets refl);
      later = λ i j a l. let z : i ≡ 0 = omega arith in let y : j ≡ 0 = omega arith in rw (z, y) (first-all c.packets c.packets refl);
    }

nested-checkpoint : (checkpoints : List Checkpoint) (accepted : List Sent) (c : Checkpoint) → c.packets ≡ accepted → Nested checkpoints accepted
    → Nested (checkpoints ++ (c ∷ [])) accepted
nested-checkpoint checkpoints accepted c e k =
    let first : (i : ℕ) → i < length (checkpoints ++ (c ∷ [])) → FirstOf (get_or (checkpoints ++ (c ∷ [])) i no_checkpoint).packets accepted
    = λ i l. checkpoint-cases checkpoints c (λ (z : Checkpoint). FirstOf z.packets accepted) i l (k.first i) (first-all c.packets accepted e) in
    record {
      first = first;
      later = λ i j b l.
          checkpoint-cases checkpoints c (λ (z : Checkpoint). FirstOf (get_or (checkpoints ++ (c ∷ [])) i no_checkpoint).packets z.packets) j l
          (λ a. rw (get_or-append checkpoints (c ∷ []) no_checkpoint i (omega arith)) (k.later i j b a))
          (subst (FirstOf (get_or (checkpoints ++ (c ∷ [])) i no_checkpoint).packets) (sym e) (first i (omega arith)));
    }

nested-packet : (checkpoints : List Checkpoint) (accepted : List Sent) (x : Sent) → Nested checkpoints accepted → Nested checkpoints (accepted ++ (x ∷ []))
nested-packet checkpoints accepted x k =
    record { first = λ i l. first_more (get_or checkpoints i no_checkpoint).packets accepted (x ∷ []) (k.first i l); later = k.later }

-- ---- one call: of an accepted one, and of a refused one, which changes nothing
record Kept (p q : Plain) : Type 0 where
  later : Later p q
  nested : Nested p.checkpoints p.accepted → Nested q.checkpoints q.accepted

same : (p q : Plain) → p.r ≤ q.r → p.checkpoints ≡ q.checkpoints → p.accepted ≡ q.accepted → Kept p q
same p q l c a = record { later = unchanged p q l c; nested = λ k. rw (sym c, sym a) k }

one_more : (b : Bool) (n m : ℕ) → n ≤ m → n ≤ cond b m n
one_more true n m l = l
one_more false n m l = omega arith

kept-accepted : (u : ℕ) (c : Call) (value : ℕ) (p : Plain) → Kept p (plain_accepted u c value p)
unfolding plain_accepted
kept-accepted u (call.memory_write page offset bytes) value p = same p _ (omega arith) refl refl
kept-accepted u (call.disk_write block bytes) value p = same p _ (omega arith) refl refl
kept-accepted u (call.packet port bytes) value p =
    record { later = unchanged p _ (omega arith) refl; nested = nested-packet p.checkpoints p.accepted (record { port = port; bytes = bytes }) }
kept-accepted u (call.checkpoint processor) value p =
    let c : Checkpoint = record { memory = p.memory; disk = p.disk; processor = processor.bytes; packets = p.accepted } in
    record { later = record { received = omega arith; more = c ∷ []; added = refl }; nested = nested-checkpoint p.checkpoints p.accepted c refl }
kept-accepted u (call.drain n destination) value p = same p _ (omega arith) refl refl
kept-accepted u (call.ack n) value p = same p _ (omega arith) refl refl
kept-accepted u (call.take port destination) value p = same p _ (omega arith) refl refl
kept-accepted u call.primary_tick value p = same p _ (omega arith) refl refl
kept-accepted u call.primary_sum value p = same p _ (omega arith) refl refl
kept-accepted u (call.read n reply) value p = same p _ (one_more (is_commit value) p.r (p.r + 1) (omega arith)) refl refl
kept-accepted u (call.flush n) value p = same p _ (omega arith) refl refl
kept-accepted u call.standby_tick value p = same p _ (omega arith) refl refl
kept-accepted u call.activation value p = same p _ (omega arith) refl refl
kept-accepted u (call.active_memory_write page offset bytes) value p = same p _ (omega arith) refl refl
kept-accepted u (call.active_disk_write block bytes) value p = same p _ (omega arith) refl refl
kept-accepted u (call.standby_sum order) value p = same p _ (omega arith) refl refl

kept_step : (u : ℕ) (c : Call) (o : Outcome) (p : Plain) → Kept p (plain_step u c o p)
unfolding plain_step
kept_step u c o p =
    pick-cases (Kept p) o.number (plain_accepted u c o.value p) p (λ e. kept-accepted u c o.value p) (λ e. same p p (omega arith) refl refl)

-- ---- every list of calls
pub run-later : (u : ℕ) (cs : List Call) (b : Both) → Later b.plain (run steps u b cs).plain
run-later u [] b = later_refl b.plain
run-later u (c ∷ cs) b =
    let b₁ = run_call steps u b c in
    later_trans b.plain b₁.plain (run steps u b₁ cs).plain (kept_step u c _ b.plain).later (run-later u cs b₁)

pub run-nested : (u : ℕ) (cs : List Call) (b : Both) → Nested b.plain.checkpoints b.plain.accepted
    → Nested (run steps u b cs).plain.checkpoints (run steps u b cs).plain.accepted
run-nested u [] b k = k
run-nested u (c ∷ cs) b k = run-nested u cs (run_call steps u b c) ((kept_step u c _ b.plain).nested k)

-- ---- the packets of the received checkpoint are the first of the later received one's
pub received-nested : (p q : Plain) → Later p q → Nested q.checkpoints q.accepted → p.r < length p.checkpoints → q.r < length q.checkpoints
    → FirstOf (received_checkpoint p).packets (received_checkpoint q).packets
received-nested p q l k below last =
    rw (sym (sym (ap (λ (x : List Checkpoint). get_or x p.r no_checkpoint) l.added) ∙ get_or-append p.checkpoints l.more no_checkpoint p.r below))
    (k.later p.r q.r l.received last)

-- so what is one of checkpoint r's stays one
pub saved-later : (packet : List ℕ) (port n : ℕ) (p q : Plain) → FirstOf (received_checkpoint p).packets (received_checkpoint q).packets → Saved packet port n p
    → Saved packet port n q
saved-later packet port n p q f s =
    let xs = of_port port (received_checkpoint p).packets in
    let ys = of_port port (received_checkpoint q).packets in
    let first : FirstOf xs ys = first-of-port port (received_checkpoint p).packets (received_checkpoint q).packets f in
    record { below = first_below n xs ys first s.below; same = s.same ∙ first-same n xs ys first s.below [] }

-- along a list of calls
pub received-later : (u : ℕ) (before later : List Call) (b : Both) → Nested b.plain.checkpoints b.plain.accepted
    → (run steps u b before).plain.r < length (run steps u b before).plain.checkpoints
    → (run steps u b (before ++ later)).plain.r < length (run steps u b (before ++ later)).plain.checkpoints
    → FirstOf (received_checkpoint (run steps u b before).plain).packets (received_checkpoint (run steps u b (before ++ later)).plain).packets
received-later u before later b k =
    received-nested (run steps u b before).plain (run steps u b (before ++ later)).plain
    (subst (λ (x : Both). Later (run steps u b before).plain x.plain) (sym (run-append steps u before later b)) (run-later u later (run steps u b before)))
    (run-nested u (before ++ later) b k)

-- ---- an accepted activation: the plain standby has checkpoint r
pub record Activated (p q : Plain) : Type 0 where
  pub activated : q.activated ≡ true
  pub memory : q.standby_memory ≡ (received_checkpoint p).memory
  pub disk : q.standby_disk ≡ (received_checkpoint p).disk
  pub received : q.r ≡ p.r
  pub checkpoint : received_checkpoint q ≡ received_checkpoint p

pub activation-plain : (u : ℕ) (b : Both) → (step b.world call.activation).outcome.number ≡ 0 → Activated b.plain (run_call steps u b call.activation).plain
unfolding plain_step plain_accepted
activation-plain u b e = rw (eq-eqb _ _ e) (record { activated = refl; memory = refl; disk = refl; received = refl; checkpoint = refl })
