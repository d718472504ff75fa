-- Catching up is proved: an exchange that is enough, from its drain to the takes that it makes possible. Assumes
-- nothing.
use Prim.Native.Nat.{ℕ, ◌+◌, ◌-◌, ◌*◌, ◌/◌, ◌≤◌}
use mathlib.Core.Path.{◌≡◌, refl, sym, ap, ◌∙◌, subst}
use mathlib.Core.Bool.{Bool, true, false}
use mathlib.Core.List.{[]}
use native.Mathlib.Nat.{le_refl}
use native.Mathlib.Omega.{arith}
use lib.ListN.{length, replicate, length-replicate}
use Rattle.records.specs.Kind.{ACK, body_length, record_length, is_wide, page_kind, commit_kind}
use Rattle.settings.specs.declared.Settings.{Settings}
use Rattle.rules.specs.StandbyState.{is_receiving}
use Rattle.rules.specs.World.{World, PrimaryEnd}
use Rattle.rules.specs.World as call
use Rattle.runs.specs.Run.{Both, steps, run_call, run, start_both}
use Rattle.runs.specs.Cut.{counted_calls}
use Rattle.runs.specs.Progress.{rounds, Exchange, Enough, not_taken, CaughtUp, CatchesUp, CatchUp}
use Rattle.runs.proofs.PlainLaws.{run-append}
use Rattle.runs.proofs.Pending.{Agree}
use Rattle.runs.proofs.ProgressProved.{call-agree, run_agree, start-agree}
use Rattle.runs.proofs.TakesLaws.{drain-as-many, rounds-as-many, acks-as-many, takes-made}
use Rattle.runs.proofs.Rounds.{Drained, received_is, rounds-law, acks-law}
use Rattle.runs.proofs.ExchangeLaws.{Still, drain-still, drain-link, drain-acknowledged}

-- ---- the whole exchange: drained, read, acknowledged
module _ (g : Settings) (b : Both) (a : Agree g b) (alone : b.world.primary.state.alone ≡ false) (receives : is_receiving b.world.standby.state.mode ≡ true) (d : Exchange) (e : Enough g b.world d) where
  abbrev drained : Both
  drained = run_call steps g.u b (call.drain d.drained d.destination)

  abbrev read : Both
  read = run steps g.u drained (rounds d.turns d.budget d.given d.reply)

  abbrev acknowledged : Both
  acknowledged = run steps g.u read (replicate d.ack_turns (call.ack d.ack_given))

  caught-up : CaughtUp steps b acknowledged
  caught-up =
      let w = b.world in
      let p = w.primary.state in
      let s : Still = record { out = []; alone = p.alone; receiving = is_receiving w.standby.state.mode; epoch = p.epoch } in
      let first : Drained g s refl alone receives drained
      = record { agree = call-agree g (call.drain d.drained d.destination) b a; still = drain-still g b a d.drained d.destination e.drain } in
      let few = drain-link g b a d.drained d.destination e.drain in
      let r = rounds-law g s refl alone receives d.budget d.given d.reply e.flush e.read e.room d.turns drained first (omega (arith, e.turns)) in
      let same = ap (λ (x : PrimaryEnd). x.state.acknowledged) r.primary ∙ drain-acknowledged g b a d.drained d.destination in
      let k = acks-law g s refl alone receives d.ack_given e.ack d.ack_turns read r.drained r.none (omega (arith, e.ack_turns)) in
      let epoch = ap (λ (x : Still). x.epoch) k.drained.still in
      let v = k.drained.agree.inv.holds in
      let count = v.history.count in
      let received = received_is g s refl alone receives acknowledged k.drained k.none in
      let left : (port : ℕ) → not_taken acknowledged.plain port ≡ not_taken b.plain port
      = λ port. acks-as-many g.u d.ack_turns d.ack_given read port ∙ rounds-as-many g.u d.turns d.budget d.given d.reply drained port ∙ drain-as-many g.u b d.drained d.destination port in
      record {
        r = omega (arith, received, v.taker.received_is, epoch, count);
        a = omega (arith, k.last, v.detector.acknowledged_is, epoch, count);
        received = received;
        acknowledged = k.last;
        takes = λ destination room ports few. takes-made g destination room ports acknowledged k.drained.agree.inv (k.last ∙ sym epoch) (λ port. omega (arith, few port, left port));
      }

-- from any pair with both invariants
pub catches-up : (g : Settings) (b : Both) → Agree g b → CatchesUp steps g b
catches-up g b a alone receives d e =
    subst (CaughtUp steps b)
    (sym (run-append steps g.u (rounds d.turns d.budget d.given d.reply) (replicate d.ack_turns (call.ack d.ack_given)) (run_call steps g.u b (call.drain d.drained d.destination))))
    (caught-up g b a alone receives d e)

pub catch-up : CatchUp
catch-up g processor buffers e calls cut =
    let b = start_both g processor buffers in
    let cs = counted_calls cut calls in
    catches-up g (run steps g.u b cs) (run_agree g cs b (start-agree g processor buffers e))

-- as many COMMITs as hold so many bytes
abbrev turns_for : (wide : Bool) → ℕ → ℕ
turns_for false n = (n + 11) / 12
turns_for true n = (n + 15) / 16

turns-enough : (u : ℕ) (wide : Bool) (n : ℕ) → n ≤ record_length u (commit_kind wide) * turns_for wide n
unfolding record_length body_length
turns-enough u false n = omega arith
turns-enough u true n = omega arith

-- ---- there is always an exchange that is enough, the least
abbrev pub least_exchange : Settings → World → Exchange
least_exchange g w =
    let p = w.primary.state in
    record {
      drained = p.waiting;
      destination = replicate p.waiting 0;
      turns = turns_for (is_wide g.m) (length w.link + p.waiting);
      budget = 1;
      given = record_length g.u (page_kind (is_wide g.m));
      reply = replicate (record_length g.u ACK) 0;
      ack_turns = p.epoch - p.acknowledged - 1;
      ack_given = record_length g.u ACK;
    }

pub least-enough : (g : Settings) (w : World) → Enough g w (least_exchange g w)
unfolding record_length body_length
least-enough g w =
    record {
      drain = omega (arith, length-replicate {A = ℕ} w.primary.state.waiting 0);
      turns = turns-enough g.u (is_wide g.m) (length w.link + w.primary.state.waiting);
      flush = omega arith;
      read = le_refl _;
      room = omega (arith, length-replicate {A = ℕ} (record_length g.u ACK) 0);
      ack_turns = omega arith;
      ack = le_refl _;
    }
