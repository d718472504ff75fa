-- What the code keeps of a trial, after a call of the ends. Assumes nothing.
use Prim.Native.Nat.{ℕ, ◌+◌, ◌-◌, max}
use mathlib.Core.Path.{◌≡◌, sym, ap, ap₂, ◌∙◌}
use mathlib.Core.Bool.{Bool, true, false}
use mathlib.Core.List.{List, [], ◌∷◌, ◌++◌}
use lib.ListN.{take, drop, get_or}
use lib.Seq.{get_or-take}
use borrow.Author.Tests.{eq-eqb, ne_eqb}
use Rattle.std.specs.Prelude.{None, Some}
use Rattle.queue.specs.declared.Queue.{Queue}
use Rattle.rules.specs.World.{World, Call}
use Rattle.rules.specs.World as call
use Rattle.rules.specs.Step.{Outcome, outcome, step}
use Rattle.script.specs.declared.Site.{Site}
use Rattle.script.specs.declared.Performed.{Performed}
use Rattle.script.specs.Command.{letter_k}
use Rattle.script.specs.Pair.{Done, done}
use Rattle.script.specs.Site.{world_of, done_of}
use Rattle.trials.specs.declared.TrialSite.{TrialSite}
use Rattle.trials.specs.Trial.{Trial, Course, with_world, with_sent, with_taken}
use Rattle.trials.specs.Trial as course
use Rattle.trials.specs.Part.{Part, unless_refused, must_note, must, quiet}
use Rattle.trials.specs.Tick.{detectors, taken_over}
use Rattle.trials.specs.Waits.{neither, on_packets}
use Rattle.trials.specs.Site.{trial_of, kept_with, turn}
use Rattle.trials.proofs.QueueLaws.{held_count, step-queue, step-packet, step-take, step-take-high}
use Rattle.trials.proofs.CountLaws.{taken-first}

-- ---- a call that neither sends nor takes a packet leaves their count
module _ (s : Site) (c : Call) (other : on_packets c ≡ neither) where
  pub site-count : (next : Site) → world_of next ≡ (step (world_of s) c).next → next.primary.state.queue.count ≡ s.primary.state.queue.count
  unfolding world_of
  site-count next e = ap held_count e ∙ ap (λ (q : Queue). q.count) (step-queue (world_of s) c other)

  pub done-count : (d : Performed) → done_of d ≡ done (step (world_of s) c) → d.site.primary.state.queue.count ≡ s.primary.state.queue.count
  done-count d e = site-count d.site (ap (λ (x : Done). x.next) e)

-- ---- a call, by what the code has of it
module _ (c : Trial → Call) (t : TrialSite) where
  pub must-done : (letter : ℕ) (d : Performed) (x : Course) → done_of d ≡ done (step (world_of t.site) (c (trial_of t)))
      → x ≡ unless_refused letter (λ u. u) (with_world (trial_of t) (world_of d.site)) (outcome d.number d.value) → x ≡ (must letter c).course (trial_of t)
  unfolding trial_of
  must-done letter d x e f = f ∙ ap (λ (y : Done). unless_refused letter (λ u. u) (with_world (trial_of t) y.next) y.outcome) e

  pub quiet-done : (next : TrialSite) (s : Site) → world_of s ≡ (step (world_of t.site) (c (trial_of t))).next → trial_of next ≡ with_world (trial_of t) (world_of s)
      → course.on (trial_of next) ≡ (quiet c).course (trial_of t)
  unfolding trial_of
  quiet-done next s e f = ap (λ (u : Trial). course.on u) (f ∙ ap (with_world (trial_of t)) e)

-- ---- two calls, one after the other
module _ (t next : TrialSite) (one : Site) where
  pub detectors-done : (two : Site) → world_of one ≡ (step (world_of t.site) call.primary_tick).next → world_of two ≡ (step (world_of one) call.standby_tick).next
      → trial_of next ≡ with_world (trial_of t) (world_of two) → course.on (trial_of next) ≡ detectors.course (trial_of t)
  unfolding trial_of
  detectors-done two e f g =
      let w : world_of two ≡ (step (step (world_of t.site) call.primary_tick).next call.standby_tick).next = f ∙ ap (λ (v : World). (step v call.standby_tick).next) e in
      ap (λ (u : Trial). course.on u) (g ∙ ap (with_world (trial_of t)) w)

  pub takeover-done : (x : Course) (d : Performed) → world_of one ≡ (step (world_of t.site) (call.flush (world_of t.site).standby.state.slots.due)).next
      → world_of d.site ≡ (step (world_of one) call.activation).next → outcome d.number d.value ≡ (step (world_of one) call.activation).outcome
      → trial_of next ≡ with_world (trial_of t) (world_of d.site) → x ≡ course.ended (trial_of next) letter_k (outcome d.number d.value) → x ≡ taken_over.course (trial_of t)
  unfolding trial_of
  takeover-done x d e f o g h =
      let s = (step (world_of t.site) (call.flush (world_of t.site).standby.state.slots.due)).next in
      let w : world_of d.site ≡ (step s call.activation).next = f ∙ ap (λ (v : World). (step v call.activation).next) e in
      let a : outcome d.number d.value ≡ (step s call.activation).outcome = o ∙ ap (λ (v : World). (step v call.activation).outcome) e in
      h ∙ ap₂ (λ (u : Trial) (y : Outcome). course.ended u letter_k y) (g ∙ ap (with_world (trial_of t)) w) a

-- ---- a packet and a take, by what the code has of them
module _ (t : TrialSite) (d : Performed) (x : Course) (letter : ℕ) where
  -- refused, it ends the trial
  pub refused-done : (c : Call) (f : Trial → Trial) → done_of d ≡ done (step (world_of t.site) c) → (d.number ≡ 0 → ⊥)
      → (((step (world_of t.site) c).outcome.number ≡ 0 → ⊥) → held_count (step (world_of t.site) c).next ≡ held_count (world_of t.site))
      → x ≡ course.ended (trial_of (kept_with t d.site t.sent t.most)) letter (outcome d.number d.value) → x ≡ (must_note letter (λ u. c) f).course (trial_of t)
  unfolding trial_of world_of
  refused-done c f e z same g =
      let o : outcome d.number d.value ≡ (step (world_of t.site) c).outcome = ap (λ (y : Done). y.outcome) e in
      let n : (step (world_of t.site) c).outcome.number ≡ 0 → ⊥ = λ h. z (ap (λ (y : Outcome). y.number) o ∙ h) in
      let w : world_of d.site ≡ (step (world_of t.site) c).next = ap (λ (y : Done). y.next) e in
      let k : d.site.primary.state.queue.count ≡ t.site.primary.state.queue.count = ap held_count w ∙ same n in
      rw (ne_eqb _ _ n)
      (g ∙ ap₂ (λ (v : World) (m : ℕ). course.ended (record { interval = t.interval; rate = t.rate; world = v; tick = t.tick; sent = take m t.sent; most = t.most }) letter (outcome d.number d.value)) w k
      ∙ ap (λ (y : Outcome). course.ended (with_world (trial_of t) (step (world_of t.site) c).next) letter y) o)

  -- accepted, a packet's tick stands behind the others
  pub sent-done : (port : ℕ) (bytes sent : List ℕ) → done_of d ≡ done (step (world_of t.site) (call.packet port bytes)) → d.number ≡ 0
      → take (t.site.primary.state.queue.count + 1) sent ≡ take t.site.primary.state.queue.count t.sent ++ (t.tick ∷ [])
      → x ≡ course.on (trial_of (kept_with t d.site sent t.most)) → x ≡ (must_note letter (λ u. call.packet port bytes) with_sent).course (trial_of t)
  unfolding trial_of world_of
  sent-done port bytes sent e z l g =
      let c = call.packet port bytes in
      let n : (step (world_of t.site) c).outcome.number ≡ 0 = ap (λ (y : Done). y.outcome.number) (sym e) ∙ z in
      let w : world_of d.site ≡ (step (world_of t.site) c).next = ap (λ (y : Done). y.next) e in
      let k : d.site.primary.state.queue.count ≡ t.site.primary.state.queue.count + 1 = ap held_count w ∙ (step-packet (world_of t.site) port bytes n).1 in
      rw (eq-eqb _ _ n)
      (g ∙ ap₂ (λ (v : World) (m : List ℕ). course.on (record { interval = t.interval; rate = t.rate; world = v; tick = t.tick; sent = m; most = t.most })) w (ap (λ (m : ℕ). take m sent) k ∙ l))

  -- accepted, a take's tick leaves
  pub taken-done : (port : ℕ) (destination sent : List ℕ) (most : ℕ) → done_of d ≡ done (step (world_of t.site) (call.take port destination)) → d.number ≡ 0
      → take 63 sent ≡ drop 1 t.sent → most ≡ max t.most (t.tick - get_or t.sent 0 0)
      → x ≡ course.on (trial_of (kept_with t d.site sent most)) → x ≡ (must_note letter (λ u. call.take port destination) with_taken).course (trial_of t)
  unfolding trial_of world_of
  taken-done port destination sent most e z l h g =
      let c = call.take port destination in
      let count = t.site.primary.state.queue.count in
      let n : (step (world_of t.site) c).outcome.number ≡ 0 = ap (λ (y : Done). y.outcome.number) (sym e) ∙ z in
      let w : world_of d.site ≡ (step (world_of t.site) c).next = ap (λ (y : Done). y.next) e in
      let s = step-take (world_of t.site) port destination n in
      let k : d.site.primary.state.queue.count ≡ count - 1 = ap held_count w ∙ s.1 in
      let first : get_or t.sent 0 0 ≡ get_or (take count t.sent) 0 0 = sym (get_or-take count t.sent 0 0 s.0) in
      let m : most ≡ max t.most (t.tick - get_or (take count t.sent) 0 0) = h ∙ ap (λ (i : ℕ). max t.most (t.tick - i)) first in
      let r : take d.site.primary.state.queue.count sent ≡ drop 1 (take count t.sent) =
      ap (λ (i : ℕ). take i sent) k ∙ taken-first t.sent sent count (step-take-high (world_of t.site) port destination n) l in
      rw (eq-eqb _ _ n)
      (g ∙ (λ i. course.on (record { interval = t.interval; rate = t.rate; world = w i; tick = t.tick; sent = r i; most = m i })))

-- ---- one turn, by whether the test holds
module _ (test : Trial → Bool) (part : Part) (t : Trial) where
  pub turn-made : {x : Course} → test t ≡ true → x ≡ part.course t → Some x ≡ turn test part t
  turn-made e f = rw e (ap (λ (y : Course). Some y) f)

  pub turn-none : test t ≡ false → None ≡ turn test part t
  turn-none e = rw e
