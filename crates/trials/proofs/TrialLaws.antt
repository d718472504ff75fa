-- Every tick keeps what is known of a trial, part by part. Assumes nothing.
use Prim.Native.Nat.{ℕ, suc}
use mathlib.Core.Path.{◌≡◌, refl, sym, ◌∙◌}
use mathlib.Core.List.{List, [], ◌∷◌}
use native.Mathlib.Omega.{arith}
use lib.ListN.{length, replicate}
use Rattle.rules.specs.World.{start_number}
use Rattle.rules.specs.World as call
use Rattle.rules.specs.Step.{Outcome, outcome}
use Rattle.script.specs.Command.{letter_w, letter_d, letter_s, letter_c, letter_m, letter_a, letter_t, letter_k}
use Rattle.script.specs.Pair.{settings_with, zero_buffers, processor_of, most_lent, ack_bytes, link_room}
use Rattle.runs.specs.Plain.{plain_accepted}
use Rattle.trials.specs.Trial.{Trial, Course, trial_in, with_tick}
use Rattle.trials.specs.Trial as course
use Rattle.trials.specs.Part.{Made, Part, note, must, quiet, then, each, whilst}
use Rattle.trials.specs.Tick.{guest_parts, filled, write_page, write_block, send_packet, at_interval, checkpoint, drain_link, read_call, reads_on, read_turn, reading, flush, acks_unread, ack_turn, acks, detectors, takeover, may_take, take_turn, takes, tick}
use Rattle.trials.specs.Waits.{accepted_in}
use Rattle.trials.specs.Output.{first_trial}
use Rattle.trials.specs.Runs.{Row, ticks, before_link}
use Rattle.trials.proofs.PartLaws.{After, Keeps, keeps-nothing, keeps-note, keeps_then, keeps-when, keeps-order, keeps-each, keeps-whilst, keeps-bounded}
use Rattle.trials.proofs.WaitLaws.{none}
use Rattle.trials.proofs.QueueLaws.{start-held}
use Rattle.trials.proofs.RunLaws.{pair_at, Tracked, Going, Ended, keeps-quiet, keeps-must, keeps_send, keeps-take, keeps-takeover-part, going-tick}

module _ (t : ℕ) (ok : start_number (settings_with t) (zero_buffers (settings_with t)) ≡ 0) where
  -- ---- every part of a tick keeps what is known
  abbrev Kept : Part → Type 0
  Kept p = Keeps (Going t ok) (Ended t ok) p

  keeps-pages : (n : ℕ) → Kept (each write_page 0 n)
  unfolding plain_accepted
  keeps-pages n =
      keeps-each (Going t ok) (Ended t ok) write_page
      (λ p. keeps-must t ok letter_w (λ u. call.memory_write p 0 (filled ∷ [])) (λ e. omega arith) (λ u. record { other = refl; standby = λ v q. refl })) n 0

  keeps-blocks : (n : ℕ) → Kept (each write_block 0 n)
  unfolding plain_accepted
  keeps-blocks n =
      keeps-each (Going t ok) (Ended t ok) write_block
      (λ b. keeps-must t ok letter_d (λ u. call.disk_write b (replicate 64 filled)) (λ e. omega arith) (λ u. record { other = refl; standby = λ v q. refl })) n 0

  keeps-packets : (n : ℕ) → Kept (each send_packet 0 n)
  keeps-packets n = keeps-each (Going t ok) (Ended t ok) send_packet (λ i. keeps_send t ok (0 ∷ []) letter_s (λ e. omega arith)) n 0

  keeps-checkpoint : Kept checkpoint
  unfolding plain_accepted
  keeps-checkpoint =
      keeps-when (Going t ok) (Ended t ok) at_interval (must letter_c (λ u. call.checkpoint (processor_of filled)))
      (λ log u e f. keeps-must t ok letter_c (λ v. call.checkpoint (processor_of filled)) (λ z. omega arith) (λ v. record { other = refl; standby = λ w q. refl }) log u f)

  keeps-link : Kept drain_link
  unfolding plain_accepted
  keeps-link = keeps-quiet t ok (λ u. call.drain u.rate (replicate (link_room u.world) 0)) (λ u. record { other = refl; standby = λ v q. refl })

  keeps-reading : Kept reading
  unfolding plain_accepted
  keeps-reading =
      keeps-bounded (Going t ok) (Ended t ok) (λ u. suc (length u.world.link)) (whilst reads_on read_turn)
      (keeps-whilst (Going t ok) (Ended t ok) reads_on read_turn (keeps-must t ok letter_m read_call (λ e. omega arith) (λ u. record { other = refl; standby = λ v q. refl })))

  keeps-flush : Kept flush
  unfolding plain_accepted
  keeps-flush = keeps-quiet t ok (λ u. call.flush u.world.standby.state.slots.due) (λ u. record { other = refl; standby = λ v q. refl })

  keeps-acks : Kept acks
  unfolding plain_accepted
  keeps-acks =
      keeps-bounded (Going t ok) (Ended t ok) (λ u. suc (length u.world.acks)) (whilst acks_unread ack_turn)
      (keeps-whilst (Going t ok) (Ended t ok) acks_unread ack_turn (keeps-must t ok letter_a (λ u. call.ack ack_bytes) (λ e. omega arith) (λ u. record { other = refl; standby = λ v q. refl })))

  keeps-detectors : Kept detectors
  unfolding plain_accepted
  keeps-detectors =
      keeps_then (Going t ok) (Ended t ok) (quiet (λ u. call.primary_tick)) (quiet (λ u. call.standby_tick))
      (keeps-quiet t ok (λ u. call.primary_tick) (λ u. record { other = refl; standby = λ v q. refl })) (keeps-quiet t ok (λ u. call.standby_tick) (λ u. record { other = refl; standby = λ v q. refl }))

  keeps-takes : Kept takes
  keeps-takes =
      keeps-bounded (Going t ok) (Ended t ok) (λ u. suc u.world.primary.state.queue.count) (whilst may_take take_turn)
      (keeps-whilst (Going t ok) (Ended t ok) may_take take_turn (keeps-take t ok (replicate most_lent 0) letter_t (λ e. omega arith)))

  keeps-begin : Kept (note with_tick)
  keeps-begin = keeps-note (Going t ok) (Ended t ok) with_tick (going-tick t ok)

  -- up to the link's bytes, to the end of the reading, and all of them
  pub keeps-before : (r : Row) → Kept (before_link r)
  keeps-before r =
      keeps-order (Going t ok) (Ended t ok) (guest_parts r.pages r.blocks r.packets) (note with_tick) keeps-begin
      (keeps-pages r.pages, (keeps-blocks r.blocks, (keeps-packets r.packets, (keeps-checkpoint, tt))))

  pub keeps-read : (r : Row) → Kept (then (then (before_link r) drain_link) reading)
  keeps-read r =
      keeps_then (Going t ok) (Ended t ok) (then (before_link r) drain_link) reading (keeps_then (Going t ok) (Ended t ok) (before_link r) drain_link (keeps-before r) keeps-link) keeps-reading

  pub keeps-tick : (r : Row) → Kept (tick r.pages r.blocks r.packets)
  unfolding tick
  keeps-tick r =
      keeps-order (Going t ok) (Ended t ok) (flush ∷ acks ∷ detectors ∷ takeover ∷ takes ∷ []) (then (then (before_link r) drain_link) reading) (keeps-read r)
      (keeps-flush, (keeps-acks, (keeps-detectors, (keeps-takeover-part t ok, (keeps-takes, tt)))))

  pub keeps-ticks : (rows : List Row) → Keeps (Going t ok) (Ended t ok) (ticks rows)
  unfolding ticks
  keeps-ticks [] = keeps-nothing (Going t ok) (Ended t ok)
  keeps-ticks (r ∷ rows) = keeps_then (Going t ok) (Ended t ok) (tick r.pages r.blocks r.packets) (ticks rows) (keeps-tick r) (keeps-ticks rows)

  -- ---- before the first tick
  pub going-first : (interval rate : ℕ) → Going t ok [] (first_trial interval rate t)
  unfolding accepted_in
  going-first interval rate =
      record {
        tracked = record { world = refl; held = sym (start-held (settings_with t) (processor_of 0) (zero_buffers (settings_with t))); kept = none [] };
        inactive = refl;
      }

  -- ---- what is known of either course
  pub tracked-in : (log : List Made) (c : Course) → After (Going t ok) (Ended t ok) log c → Tracked t ok log (trial_in c)
  tracked-in log (course.on u) f = f.tracked
  tracked-in log (course.ended u letter o) f = f.tracked

  pub takeover-in : (log : List Made) (c : Course) (end : Trial) (o : Outcome) → After (Going t ok) (Ended t ok) log c → c ≡ course.ended end letter_k o → o ≡ outcome 0 (pair_at t ok log).plain.r
  takeover-in log (course.on u) end o f e = absurd (never e)
    where
      never : course.on u ≡ course.ended end letter_k o → ⊥
      never z = let y : ◌≡◌ {A = ℕ} 0 1 = cc in omega arith
  takeover-in log (course.ended u letter o') end o f e = sym (same e) ∙ f.takeover (is e)
    where
      same : course.ended u letter o' ≡ course.ended end letter_k o → o' ≡ o
      same z = cc

      is : course.ended u letter o' ≡ course.ended end letter_k o → letter ≡ letter_k
      is z = cc
