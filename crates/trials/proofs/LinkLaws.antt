-- After every tick less than a record is left on the link, so that all that waits fits what is free of it. Assumes
-- nothing.
use Prim.Native.Nat.{ℕ, suc}
use mathlib.Core.Path.{◌≡◌, refl, subst, ◌∙◌}
use mathlib.Core.Bool.{Bool, true, false, cond}
use mathlib.Core.List.{List, [], ◌∷◌, ◌++◌}
use native.Mathlib.Omega.{arith}
use lib.Dec.{eqb}
use lib.ListN.{length, replicate}
use Rattle.rules.specs.World.{Call}
use Rattle.rules.specs.World as call
use Rattle.rules.specs.Step.{Outcome, step}
use Rattle.script.specs.Command.{letter_w, letter_d, letter_s, letter_c, letter_a, letter_t}
use Rattle.script.specs.Pair.{processor_of, ack_bytes, used_port}
use Rattle.trials.specs.Trial.{Trial, Course, and_then, with_world, with_sent, with_taken}
use Rattle.trials.specs.Trial as course
use Rattle.trials.specs.Part.{Made, Part, must_note, must, quiet, whilst}
use Rattle.trials.specs.Tick.{filled, write_page, write_block, send_packet, at_interval, checkpoint, flush, acks_unread, ack_turn, acks, detectors, took_over, taken_over, takeover, take_call, may_take, take_turn, takes}
use Rattle.trials.proofs.PartLaws.{After, Keeps, keeps_then, keeps-when, keeps-whilst, keeps-bounded}

-- ---- from one trial to the next
pub record Through (c : Course) (f : Trial → Course) (v : Trial) : Type 0 where
  pub at : Trial
  pub first : c ≡ course.on at
  pub next : f at ≡ course.on v

pub through : (c : Course) (f : Trial → Course) (v : Trial) → and_then c f ≡ course.on v → Through c f v
through (course.on u) f v e = record { at = u; first = refl; next = e }
through (course.ended u letter o) f v e = absurd (never e)
  where
    never : course.ended u letter o ≡ course.on v → ⊥
    never z = let y : ◌≡◌ {A = ℕ} 0 1 = cc in omega arith

-- ---- parts that leave the link as it is
module _ (l : List ℕ) where
  abbrev pub SameLink : List Made → Trial → Type 0
  SameLink log u = u.world.link ≡ l

  abbrev pub AnyEnd : List Made → Trial → ℕ → Outcome → Type 0
  AnyEnd log u letter o = Unit {0}

  -- calls that do
  must-link : (letter : ℕ) (c : Trial → Call) (f : Trial → Trial) → ((u : Trial) → (f u).world.link ≡ u.world.link) → ((u : Trial) → (step u.world (c u)).next.link ≡ u.world.link)
      → Keeps SameLink AnyEnd (must_note letter c f)
  must-link letter c f k s log u e = by (eqb (step u.world (c u)).outcome.number 0)
    where
      by : (b : Bool) → After SameLink AnyEnd (log ++ (record { tick = u.tick; call = c u } ∷ []))
          (cond b (course.on (f (with_world u (step u.world (c u)).next))) (course.ended (with_world u (step u.world (c u)).next) letter (step u.world (c u)).outcome))
      by true = k (with_world u (step u.world (c u)).next) ∙ s u ∙ e
      by false = tt

  quiet-link : (c : Trial → Call) → ((u : Trial) → (step u.world (c u)).next.link ≡ u.world.link) → Keeps SameLink AnyEnd (quiet c)
  quiet-link c s log u e = s u ∙ e

  abbrev Steps : Part → Type 0
  Steps p = Keeps SameLink AnyEnd p

  pub write-page-link : (p : ℕ) → Steps (write_page p)
  unfolding step
  write-page-link p = must-link letter_w (λ u. call.memory_write p 0 (filled ∷ [])) (λ u. u) (λ u. refl) (λ u. refl)

  pub write-block-link : (b : ℕ) → Steps (write_block b)
  unfolding step
  write-block-link b = must-link letter_d (λ u. call.disk_write b (replicate 64 filled)) (λ u. u) (λ u. refl) (λ u. refl)

  pub send-packet-link : (i : ℕ) → Steps (send_packet i)
  unfolding step
  send-packet-link i = must-link letter_s (λ u. call.packet used_port (0 ∷ [])) with_sent (λ u. refl) (λ u. refl)

  pub checkpoint-link : Steps checkpoint
  unfolding step
  checkpoint-link =
      keeps-when SameLink AnyEnd at_interval (must letter_c (λ u. call.checkpoint (processor_of filled)))
      (λ log u e f. must-link letter_c (λ v. call.checkpoint (processor_of filled)) (λ v. v) (λ v. refl) (λ v. refl) log u f)

  pub flush-link : Steps flush
  unfolding step
  flush-link = quiet-link (λ u. call.flush u.world.standby.state.slots.due) (λ u. refl)

  pub acks-link : Steps acks
  unfolding step
  acks-link =
      keeps-bounded SameLink AnyEnd (λ u. suc (length u.world.acks)) (whilst acks_unread ack_turn)
      (keeps-whilst SameLink AnyEnd acks_unread ack_turn (must-link letter_a (λ u. call.ack ack_bytes) (λ u. u) (λ u. refl) (λ u. refl)))

  pub detectors-link : Steps detectors
  unfolding step
  detectors-link =
      keeps_then SameLink AnyEnd (quiet (λ u. call.primary_tick)) (quiet (λ u. call.standby_tick)) (quiet-link (λ u. call.primary_tick) (λ u. refl)) (quiet-link (λ u. call.standby_tick) (λ u. refl))

  pub takeover-link : Steps takeover
  takeover-link =
      keeps-when SameLink AnyEnd took_over taken_over (λ log u e f. tt)

  pub takes-link : Steps takes
  unfolding step
  takes-link =
      keeps-bounded SameLink AnyEnd (λ u. suc u.world.primary.state.queue.count) (whilst may_take take_turn)
      (keeps-whilst SameLink AnyEnd may_take take_turn (must-link letter_t take_call with_taken (λ u. refl) (λ u. refl)))

-- what they keep, of a trial that goes on
pub link-same : (p : Part) → ((l : List ℕ) → Keeps (SameLink l) (AnyEnd l) p) → (u v : Trial) → p.course u ≡ course.on v → v.world.link ≡ u.world.link
link-same p k u v e = subst (After (SameLink u.world.link) (AnyEnd u.world.link) (p.made u)) e (k u.world.link [] u refl)
