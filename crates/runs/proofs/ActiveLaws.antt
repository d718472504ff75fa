-- Once the standby is active it stays so and receives nothing more, from demand 3. Assumes nothing.
use Prim.Native.Nat.{ℕ}
use mathlib.Core.Path.{◌≡◌, refl, sym, ap, ◌∙◌, subst}
use mathlib.Core.Bool.{true, true≢false}
use mathlib.Core.List.{List, [], ◌∷◌, ◌++◌, append-nil}
use lib.Seq.{append_snoc}
use Rattle.settings.specs.declared.Settings.{Settings}
use Rattle.rules.specs.World.{Processor, Call, Buffers, start_number}
use Rattle.rules.specs.World as call
use Rattle.rules.specs.Step.{step}
use Rattle.rules.proofs.ReplyLaws.{pick-cases}
use Rattle.rules.proofs.ReadLaws.{read-receives}
use Rattle.runs.specs.Plain.{Plain, plain_accepted, plain_step}
use Rattle.runs.specs.Run.{Both, steps, run_call}
use Rattle.runs.specs.Demand3.{active}
use Rattle.runs.specs.Corollaries.{pair_after, ReceivedFixed, AfterStart}
use Rattle.runs.proofs.ModeLaws.{receiving-not-active}
use Rattle.runs.proofs.Frame.{Accepted}
use Rattle.runs.proofs.Corollaries.{whole, after_call}

-- an active standby accepts no record
read-refused : (b : Both) (n : ℕ) (reply : List ℕ) → active b.world ≡ true → Accepted b (call.read n reply) → ⊥
unfolding step
read-refused b n reply a e = true≢false (sym a ∙ receiving-not-active b.world.standby.state.mode (read-receives _ _ _ e))

-- r and the activation stay
record Fixed (p q : Plain) : Type 0 where
  received : q.r ≡ p.r
  activated : q.activated ≡ true

-- an accepted call that is no read
fixed-accepted : (u : ℕ) (c : Call) (value : ℕ) (p : Plain) → p.activated ≡ true → ((n : ℕ) (reply : List ℕ) → c ≡ call.read n reply → ⊥)
    → Fixed p (plain_accepted u c value p)
unfolding plain_accepted
fixed-accepted u (call.memory_write page offset bytes) value p a f = record { received = refl; activated = a }
fixed-accepted u (call.disk_write block bytes) value p a f = record { received = refl; activated = a }
fixed-accepted u (call.packet port bytes) value p a f = record { received = refl; activated = a }
fixed-accepted u (call.checkpoint processor) value p a f = record { received = refl; activated = a }
fixed-accepted u (call.drain n destination) value p a f = record { received = refl; activated = a }
fixed-accepted u (call.ack n) value p a f = record { received = refl; activated = a }
fixed-accepted u (call.take port destination) value p a f = record { received = refl; activated = a }
fixed-accepted u call.primary_tick value p a f = record { received = refl; activated = a }
fixed-accepted u call.primary_sum value p a f = record { received = refl; activated = a }
fixed-accepted u (call.read n reply) value p a f = absurd (f n reply refl)
fixed-accepted u (call.flush n) value p a f = record { received = refl; activated = a }
fixed-accepted u call.standby_tick value p a f = record { received = refl; activated = a }
fixed-accepted u call.activation value p a f = record { received = refl; activated = refl }
fixed-accepted u (call.active_memory_write page offset bytes) value p a f = record { received = refl; activated = a }
fixed-accepted u (call.active_disk_write block bytes) value p a f = record { received = refl; activated = a }
fixed-accepted u (call.standby_sum order) value p a f = record { received = refl; activated = a }

fixed-step : (u : ℕ) (c : Call) (b : Both) → active b.world ≡ true → b.plain.activated ≡ true → Fixed b.plain (run_call steps u b c).plain
unfolding plain_step
fixed-step u c b a p =
    let o = (step b.world c).outcome in
    let q = plain_accepted u c o.value b.plain in
    pick-cases (Fixed b.plain) o.number q b.plain
    (λ e. fixed-accepted u c o.value b.plain p (λ n reply is. read-refused b n reply a (subst (Accepted b) is e)))
    (λ ne. record { received = refl; activated = p })

module _ (g : Settings) (processor : Processor) (buffers : Buffers) (started : start_number g buffers ≡ 0) where
  abbrev after : List Call → Both
  after calls = pair_after g processor buffers calls

  abbrev Stays : List Call → List Call → Type 0
  Stays before calls = (active (after calls).world ≡ true) × ((after calls).plain.r ≡ (after before).plain.r)

  stays : (later before : List Call) → active (after before).world ≡ true → Stays before (before ++ later)
  stays [] before a = subst (Stays before) (sym (append-nil before)) (a, refl)
  stays (c ∷ cs) before a =
      let b = after before in
      let p : b.plain.activated ≡ true = sym (whole g processor buffers started before).end.standby.same ∙ a in
      let f = fixed-step g.u c b a p in
      let e : after (before ++ (c ∷ [])) ≡ run_call steps g.u b c = after_call g processor buffers started before c [] in
      let next : active (after (before ++ (c ∷ []))).world ≡ true =
      (whole g processor buffers started (before ++ (c ∷ []))).end.standby.same ∙ ap (λ (x : Both). x.plain.activated) e ∙ f.activated in
      let rest = stays cs (before ++ (c ∷ [])) next in
      subst (Stays before) (append_snoc before c cs) (rest.0, rest.1 ∙ ap (λ (x : Both). x.plain.r) e ∙ f.received)

pub received-fixed : AfterStart ReceivedFixed
received-fixed g processor buffers started before later a = stays g processor buffers started later before a
