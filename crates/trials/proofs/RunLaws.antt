-- Every part of a tick keeps what is known of a trial: it is the run of its calls, and keeps a tick for each packet held.
-- Assumes nothing.
use Prim.Native.Nat.{ℕ, ◌+◌, ◌-◌, ◌<◌}
use mathlib.Core.Path.{◌≡◌, refl, sym, ap, ap₂, subst, ◌∙◌}
use mathlib.Core.Logic.{⊎_elim}
use mathlib.Core.Bool.{Bool, true, false, cond, not, ◌&&◌, true≢false, false≢true}
use mathlib.Core.List.{List, [], ◌∷◌, ◌++◌, append_assoc, append-nil, map-append}
use native.Mathlib.Omega.{arith}
use lib.Dec.{eqb}
use lib.ListN.{length, drop, length-append, length-drop}
use borrow.Author.Tests.{eq-eqb, ne_eqb}
use Rattle.lists.proofs.TestLaws.{eq-or-ne}
use Rattle.queue.specs.declared.Queue.{Queue}
use Rattle.rules.specs.declared.Mode.{Mode}
use Rattle.rules.specs.declared.Mode.TheVariants.{Receiving, TakingOver, Active}
use Rattle.rules.specs.StandbyState.{is_receiving, is_taking_over, is_active}
use Rattle.rules.specs.World.{World, Call, start_number}
use Rattle.rules.specs.World as call
use Rattle.rules.specs.Step.{Outcome, outcome, step}
use Rattle.rules.proofs.ReplyLaws.{pick-cases}
use Rattle.script.specs.Command.{letter_k}
use Rattle.script.specs.Pair.{processor_of, zero_buffers, settings_with, used_port}
use Rattle.runs.specs.Plain.{Plain, plain_accepted, plain_step}
use Rattle.runs.specs.Run.{Both, steps, run_call, run, start_both}
use Rattle.runs.specs.Demand3.{active}
use Rattle.runs.proofs.Invariant.{Inv}
use Rattle.runs.proofs.Frame.{run-inv}
use Rattle.runs.proofs.PlainLaws.{run-append}
use Rattle.runs.proofs.Proved.{per-call}
use Rattle.runs.proofs.StartCall.{start-law}
use Rattle.runs.proofs.Conclusions.{standby-right}
use Rattle.runs.proofs.TakeoverCalls.{taken-over}
use Rattle.trials.specs.Trial.{Trial, with_world, with_tick, with_sent, with_taken}
use Rattle.trials.specs.Trial as course
use Rattle.trials.specs.Part.{Made, must_note, must, quiet}
use Rattle.trials.specs.Tick.{taken_over, takeover, took_over}
use Rattle.trials.specs.Waits.{OnPackets, sends, takes, neither, on_packets, is_packet, is_take, accepted_in}
use Rattle.trials.specs.Runs.{calls_of}
use Rattle.trials.proofs.PartLaws.{After, Keeps, keeps-when}
use Rattle.trials.proofs.WaitLaws.{Kept, kept-sent, kept-taken}
use Rattle.trials.proofs.QueueLaws.{held_count, step-queue, step-packet, step-take, step-packet-refused, step-take-refused}

-- ---- one call more
calls-more : (log : List Made) (m : Made) → calls_of (log ++ (m ∷ [])) ≡ calls_of log ++ (m.call ∷ [])
calls-more log m = map-append (λ (x : Made). x.call) log (m ∷ [])

module _ (u : ℕ) where
  run_more : (b : Both) (log : List Made) (m : Made) → run steps u b (calls_of (log ++ (m ∷ []))) ≡ run_call steps u (run steps u b (calls_of log)) m.call
  run_more b log m = ap (run steps u b) (calls-more log m) ∙ run-append steps u (calls_of log) (m.call ∷ []) b

  -- the ticks of the accepted ones among the calls
  abbrev accepted_at : (OnPackets → Bool) → World → Made → List ℕ
  accepted_at is w m = cond (is (on_packets m.call) && eqb (step w m.call).outcome.number 0) (m.tick ∷ []) []

  accepted-more : (is : OnPackets → Bool) (log : List Made) (b : Both) (m : Made)
      → accepted_in is b.world (log ++ (m ∷ [])) ≡ accepted_in is b.world log ++ accepted_at is (run steps u b (calls_of log)).world m
  unfolding accepted_in
  accepted-more is [] b m = append-nil (accepted_at is b.world m)
  accepted-more is (n ∷ log) b m =
      ap (λ (l : List ℕ). accepted_at is b.world n ++ l) (accepted-more is log (run_call steps u b n.call) m)
      ∙ sym (append_assoc (accepted_at is b.world n) (accepted_in is (step b.world n.call).next log) _)

-- ---- the trial of a pair that was started with patience t
module _ (t : ℕ) (ok : start_number (settings_with t) (zero_buffers (settings_with t)) ≡ 0) where
  abbrev first : Both
  first = start_both (settings_with t) (processor_of 0) (zero_buffers (settings_with t))

  abbrev pub pair_at : List Made → Both
  pair_at log = run steps (settings_with t).u first (calls_of log)

  pub inv_at : (log : List Made) → Inv (settings_with t) (pair_at log)
  inv_at log = run-inv (settings_with t) (per-call (settings_with t)) (calls_of log) first (start-law (settings_with t) (processor_of 0) (zero_buffers (settings_with t)) ok)

  -- what is known of it, going on or ended
  pub record Tracked (log : List Made) (u : Trial) : Type 0 where
    pub world : u.world ≡ (pair_at log).world
    pub held : length u.sent ≡ held_count u.world
    pub kept : Kept (accepted_in is_packet first.world log) (accepted_in is_take first.world log) u.sent u.most

  -- going on: no standby is active yet
  pub record Going (log : List Made) (u : Trial) : Type 0 where
    pub tracked : Tracked log u
    pub inactive : (pair_at log).plain.activated ≡ false

  -- ended: a takeover is accepted, and its value is r
  pub record Ended (log : List Made) (u : Trial) (letter : ℕ) (o : Outcome) : Type 0 where
    pub tracked : Tracked log u
    pub takeover : letter ≡ letter_k → o ≡ outcome 0 (pair_at log).plain.r

  -- ---- one call more: the world, and the ticks of the accepted packets or takes
  module _ (log : List Made) (u : Trial) (f : Tracked log u) (c : Call) where
    abbrev logged : List Made
    logged = log ++ (record { tick = u.tick; call = c } ∷ [])

    world-more : (step u.world c).next ≡ (pair_at logged).world
    world-more =
        ap (λ (w : World). (step w c).next) f.world
        ∙ sym (ap (λ (b : Both). b.world) (run_more (settings_with t).u first log (record { tick = u.tick; call = c })))

    list-more : (is : OnPackets → Bool) (k : OnPackets) (b : Bool) → on_packets c ≡ k → eqb (step u.world c).outcome.number 0 ≡ b
        → accepted_in is first.world logged ≡ accepted_in is first.world log ++ cond (is k && b) (u.tick ∷ []) []
    list-more is k b e h =
        let n : eqb (step (pair_at log).world c).outcome.number 0 ≡ b = ap (λ (w : World). eqb (step w c).outcome.number 0) (sym f.world) ∙ h in
        accepted-more (settings_with t).u is log first (record { tick = u.tick; call = c })
        ∙ ap₂ (λ (x : OnPackets) (y : Bool). accepted_in is first.world log ++ cond (is x && y) (u.tick ∷ []) []) e n

    list_same : (is : OnPackets → Bool) (k : OnPackets) (b : Bool) → on_packets c ≡ k → eqb (step u.world c).outcome.number 0 ≡ b → (is k && b) ≡ false
        → accepted_in is first.world log ≡ accepted_in is first.world logged
    list_same is k b e h z =
        sym (list-more is k b e h ∙ ap (λ (x : Bool). accepted_in is first.world log ++ cond x (u.tick ∷ []) []) z ∙ append-nil (accepted_in is first.world log))

    -- a call that changes no packets, refused ones included
    tracked-same : (k : OnPackets) (b : Bool) → on_packets c ≡ k → eqb (step u.world c).outcome.number 0 ≡ b → (is_packet k && b) ≡ false → (is_take k && b) ≡ false
        → held_count (step u.world c).next ≡ held_count u.world → Tracked logged (with_world u (step u.world c).next)
    tracked-same k b e h p q same =
        record {
          world = world-more;
          held = f.held ∙ sym same;
          kept = subst (λ (l : List ℕ). Kept l (accepted_in is_take first.world logged) u.sent u.most) (list_same is_packet k b e h p)
              (subst (λ (l : List ℕ). Kept (accepted_in is_packet first.world log) l u.sent u.most) (list_same is_take k b e h q) f.kept);
        }

  tracked-call : (c : Call) → on_packets c ≡ neither → (log : List Made) (u : Trial) → Tracked log u
      → Tracked (log ++ (record { tick = u.tick; call = c } ∷ [])) (with_world u (step u.world c).next)
  tracked-call c other log u f =
      tracked-same log u f c neither (eqb (step u.world c).outcome.number 0) other refl refl refl (ap (λ (q : Queue). q.count) (step-queue u.world c other))

  -- the plain standby stays as it is
  abbrev KeepsStandby : Call → Type 0
  KeepsStandby c = (value : ℕ) (p : Plain) → (plain_accepted (settings_with t).u c value p).activated ≡ p.activated

  inactive-call : (c : Call) → KeepsStandby c → (log : List Made) (m : Made) → m.call ≡ c → (pair_at log).plain.activated ≡ false → (pair_at (log ++ (m ∷ []))).plain.activated ≡ false
  unfolding plain_step
  inactive-call c k log m e f =
      let b = pair_at log in
      let s = step b.world c in
      ap (λ (x : Both). x.plain.activated) (run_more (settings_with t).u first log m ∙ ap (run_call steps (settings_with t).u b) e)
      ∙ pick-cases (λ (p : Plain). p.activated ≡ b.plain.activated) s.outcome.number (plain_accepted (settings_with t).u c s.outcome.value b.plain) b.plain (λ z. k s.outcome.value b.plain) (λ z. refl)
      ∙ f

  -- a call of a part by itself
  pub record Quiet (c : Call) : Type 0 where
    pub other : on_packets c ≡ neither
    pub standby : KeepsStandby c

  going-call : (c : Call) → Quiet c → (log : List Made) (u : Trial) → Going log u → Going (log ++ (record { tick = u.tick; call = c } ∷ [])) (with_world u (step u.world c).next)
  going-call c q log u f =
      record { tracked = tracked-call c q.other log u f.tracked; inactive = inactive-call c q.standby log (record { tick = u.tick; call = c }) refl f.inactive }

  pub keeps-quiet : (c : Trial → Call) → ((u : Trial) → Quiet (c u)) → Keeps Going Ended (quiet c)
  keeps-quiet c q log u f = going-call (c u) (q u) log u f

  pub keeps-must : (letter : ℕ) (c : Trial → Call) → (letter ≡ letter_k → ⊥) → ((u : Trial) → Quiet (c u)) → Keeps Going Ended (must letter c)
  keeps-must letter c l q log u f = by (eqb (step u.world (c u)).outcome.number 0)
    where
      by : (b : Bool) → After Going Ended (log ++ (record { tick = u.tick; call = c u } ∷ []))
          (cond b (course.on (with_world u (step u.world (c u)).next)) (course.ended (with_world u (step u.world (c u)).next) letter (step u.world (c u)).outcome))
      by true = going-call (c u) (q u) log u f
      by false = record { tracked = (going-call (c u) (q u) log u f).tracked; takeover = λ e. absurd (l e) }

  pub going-tick : (log : List Made) (u : Trial) → Going log u → Going log (with_tick u)
  going-tick log u f = record { tracked = record { world = f.tracked.world; held = f.tracked.held; kept = f.tracked.kept }; inactive = f.inactive }

  -- ---- a packet: accepted, its tick is kept; refused, all stays
  module _ (bytes : List ℕ) where
    abbrev packet_call : Call
    packet_call = call.packet used_port bytes

    tracked-sent : (log : List Made) (u : Trial) → Tracked log u → (step u.world packet_call).outcome.number ≡ 0
        → Tracked (log ++ (record { tick = u.tick; call = packet_call } ∷ [])) (with_sent (with_world u (step u.world packet_call).next))
    tracked-sent log u f z =
        let h = eq-eqb (step u.world packet_call).outcome.number 0 z in
        let n : length (u.sent ++ (u.tick ∷ [])) ≡ length u.sent + 1 = length-append u.sent (u.tick ∷ []) in
        let c = (step-packet u.world used_port bytes z).1 in
        record {
          world = world-more log u f packet_call;
          held = n ∙ ap (λ (m : ℕ). m + 1) f.held ∙ sym c;
          kept = subst (λ (l : List ℕ). Kept l (accepted_in is_take first.world (log ++ (record { tick = u.tick; call = packet_call } ∷ []))) (u.sent ++ (u.tick ∷ [])) u.most) (sym (list-more log u f packet_call is_packet (sends used_port) true refl h))
              (subst (λ (l : List ℕ). Kept (accepted_in is_packet first.world log ++ (u.tick ∷ [])) l (u.sent ++ (u.tick ∷ [])) u.most) (list_same log u f packet_call is_take (sends used_port) true refl h refl)
              (kept-sent u.tick (accepted_in is_packet first.world log) (accepted_in is_take first.world log) u.sent u.most f.kept));
        }

    pub keeps_send : (letter : ℕ) → (letter ≡ letter_k → ⊥) → Keeps Going Ended (must_note letter (λ u. packet_call) with_sent)
    unfolding plain_accepted
    keeps_send letter l log u f =
        ⊎_elim
        (λ (z : (step u.world packet_call).outcome.number ≡ 0).
        rw (eq-eqb _ _ z)
        (record { tracked = tracked-sent log u f.tracked z; inactive = inactive-call packet_call (λ value p. refl) log (record { tick = u.tick; call = packet_call }) refl f.inactive }))
        (λ (z : (step u.world packet_call).outcome.number ≡ 0 → ⊥).
        rw (ne_eqb _ _ z)
        (record {
          tracked = tracked-same log u f.tracked packet_call (sends used_port) false refl (ne_eqb _ _ z) refl refl (step-packet-refused u.world used_port bytes z);
          takeover = λ e. absurd (l e);
        }))
        (eq-or-ne (step u.world packet_call).outcome.number 0)

    -- ---- a take: accepted, the oldest's tick leaves; refused, all stays
    abbrev taken_call : Call
    taken_call = call.take used_port bytes

    tracked-taken : (log : List Made) (u : Trial) → Tracked log u → (step u.world taken_call).outcome.number ≡ 0
        → Tracked (log ++ (record { tick = u.tick; call = taken_call } ∷ [])) (with_taken (with_world u (step u.world taken_call).next))
    tracked-taken log u f z =
        let h = eq-eqb (step u.world taken_call).outcome.number 0 z in
        let c = step-take u.world used_port bytes z in
        let some : 0 < length u.sent = rw f.held c.0 in
        record {
          world = world-more log u f taken_call;
          held = length-drop 1 u.sent ∙ ap (λ (m : ℕ). m - 1) f.held ∙ sym c.1;
          kept = subst (λ (l : List ℕ). Kept (accepted_in is_packet first.world (log ++ (record { tick = u.tick; call = taken_call } ∷ []))) l (drop 1 u.sent) (with_taken u).most) (sym (list-more log u f taken_call is_take (takes used_port) true refl h))
              (subst (λ (l : List ℕ). Kept l (accepted_in is_take first.world log ++ (u.tick ∷ [])) (drop 1 u.sent) (with_taken u).most) (list_same log u f taken_call is_packet (takes used_port) true refl h refl)
              (kept-taken u.tick (accepted_in is_packet first.world log) (accepted_in is_take first.world log) u.sent u.most some f.kept));
        }

    pub keeps-take : (letter : ℕ) → (letter ≡ letter_k → ⊥) → Keeps Going Ended (must_note letter (λ u. taken_call) with_taken)
    unfolding plain_accepted
    keeps-take letter l log u f =
        ⊎_elim
        (λ (z : (step u.world taken_call).outcome.number ≡ 0).
        rw (eq-eqb _ _ z)
        (record { tracked = tracked-taken log u f.tracked z; inactive = inactive-call taken_call (λ value p. refl) log (record { tick = u.tick; call = taken_call }) refl f.inactive }))
        (λ (z : (step u.world taken_call).outcome.number ≡ 0 → ⊥).
        rw (ne_eqb _ _ z)
        (record {
          tracked = tracked-same log u f.tracked taken_call (takes used_port) false refl (ne_eqb _ _ z) refl refl (step-take-refused u.world used_port bytes z);
          takeover = λ e. absurd (l e);
        }))
        (eq-or-ne (step u.world taken_call).outcome.number 0)

  -- ---- a takeover
  taking : (m : Mode) → is_active m ≡ false → not (is_receiving m) ≡ true → is_taking_over m ≡ true
  taking Receiving a e = absurd (false≢true e)
  taking TakingOver a e = refl
  taking Active a e = absurd (true≢false a)

  keeps-takeover : (log : List Made) (u : Trial) → took_over u ≡ true → Going log u → After Going Ended (log ++ taken_over.made u) (taken_over.course u)
  unfolding plain_accepted
  keeps-takeover log u e f =
      let n = u.world.standby.state.slots.due in
      let m : Made = record { tick = u.tick; call = call.flush n } in
      let k : Made = record { tick = u.tick; call = call.activation } in
      let u₂ = with_world u (step u.world (call.flush n)).next in
      let b = pair_at log in
      let w = f.tracked.world in
      let off : active b.world ≡ false = (standby-right (settings_with t) b (inv_at log)).same ∙ f.inactive in
      let on : is_taking_over b.world.standby.state.mode ≡ true =
      taking b.world.standby.state.mode off (ap (λ (x : World). not (is_receiving x.standby.state.mode)) (sym w) ∙ e) in
      let due : b.world.standby.state.slots.due ≡ n = ap (λ (x : World). x.standby.state.slots.due) (sym w) in
      let o = taken-over (settings_with t) b (inv_at log) on n (omega arith) in
      let g₂ = tracked-call (call.flush n) refl log u f.tracked in
      let g₃ = tracked-call call.activation refl (log ++ (m ∷ [])) u₂ g₂ in
      let at : pair_at (log ++ (m ∷ [])) ≡ run_call steps (settings_with t).u b (call.flush n) = run_more (settings_with t).u first log m in
      let all : pair_at ((log ++ (m ∷ [])) ++ (k ∷ [])) ≡ run_call steps (settings_with t).u (run_call steps (settings_with t).u b (call.flush n)) call.activation =
      run_more (settings_with t).u first (log ++ (m ∷ [])) k ∙ ap (λ (x : Both). run_call steps (settings_with t).u x call.activation) at in
      let world : (step u.world (call.flush n)).next ≡ (run_call steps (settings_with t).u b (call.flush n)).world = ap (λ (x : World). (step x (call.flush n)).next) w in
      let number : (step u₂.world call.activation).outcome.number ≡ 0 = ap (λ (x : World). (step x call.activation).outcome.number) world ∙ o.accepted in
      let value : (step u₂.world call.activation).outcome.value ≡ b.plain.r = ap (λ (x : World). (step x call.activation).outcome.value) world ∙ o.value in
      let received : (pair_at ((log ++ (m ∷ [])) ++ (k ∷ []))).plain.r ≡ b.plain.r = ap (λ (x : Both). x.plain.r) all ∙ o.received in
      subst (λ (l : List Made). Ended l (with_world u₂ (step u₂.world call.activation).next) letter_k (step u₂.world call.activation).outcome) (append_assoc log (m ∷ []) (k ∷ []))
      (record { tracked = g₃; takeover = λ z. ap₂ outcome number (value ∙ sym received) })

  pub keeps-takeover-part : Keeps Going Ended takeover
  keeps-takeover-part = keeps-when Going Ended took_over taken_over keeps-takeover
