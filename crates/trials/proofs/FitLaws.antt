-- After every tick less than a record is left on the link, so that all that waits fits what is free of it; and calls whose
-- number is not looked at are accepted. Assumes nothing.
use Prim.Native.Nat.{ℕ, ◌≤◌}
use mathlib.Core.Path.{◌≡◌, refl, ap, subst, ◌∙◌}
use mathlib.Core.List.{List, [], ◌∷◌, ◌++◌}
use native.Mathlib.Omega.{arith}
use lib.ListN.{length, replicate}
use lib.Seq.{take-length}
use borrow.Author.Tests.{eqb-true, eq-eqb, not-false}
use Rattle.lists.proofs.TestLaws.{join, accepts}
use Rattle.rules.specs.PrimaryTick.{primary_tick_tests, primary_tick_refusal, primary_tick_reply}
use Rattle.rules.specs.Stream.{drain_tests, drain_refusal, drain_reply}
use Rattle.rules.specs.Flush.{flush_reply}
use Rattle.rules.specs.Takeover.{standby_tick_reply}
use Rattle.settings.specs.declared.PrimarySettings.{PrimarySettings}
use Rattle.rules.specs.World.{World, start_number}
use Rattle.rules.specs.Step.{step}
use Rattle.rules.specs.Read.{read_lent}
use Rattle.rules.proofs.PrimaryFacts.{primary-facts}
use Rattle.rules.proofs.FlushLaws.{flush-accepts}
use Rattle.rules.proofs.TakeoverLaws.{tick-accepts}
use Rattle.script.specs.Pair.{settings_with, zero_buffers, ack_bytes, link_room}
use Rattle.runs.specs.Run.{Both}
use Rattle.runs.proofs.Invariant.{Inv}
use Rattle.runs.proofs.KeptLaws.{standby-u, lent-stream, lent-marks, lent-blocks, lent-disk}
use Rattle.trials.specs.Trial.{Trial, Course}
use Rattle.trials.specs.Trial as course
use Rattle.trials.specs.Part.{Made, Part, note, then, in_order}
use Rattle.trials.specs.Trial.{with_tick}
use Rattle.trials.specs.Tick.{guest_parts, write_page, write_block, send_packet, drain_link, reading, flush, acks, detectors, takeover, takes, tick}
use Rattle.trials.specs.Runs.{Row, ticks, before_link, QuietAccepted}
use Rattle.trials.proofs.PartLaws.{After, Keeps, keeps-note, keeps-order, keeps-each}
use Rattle.trials.proofs.BoundLaws.{bounds-enough}
use Rattle.trials.proofs.ShortLaws.{read_short}
use Rattle.trials.proofs.LinkLaws.{through, SameLink, AnyEnd, link-same, write-page-link, write-block-link, send-packet-link, checkpoint-link, flush-link, acks-link, detectors-link, takeover-link, takes-link}
use Rattle.trials.proofs.RunLaws.{pair_at, inv_at, Going, Ended}
use Rattle.trials.proofs.TrialLaws.{keeps-before, keeps-read, keeps-tick}

-- ---- the parts before the link's bytes, and those behind the reading
before-link : (r : Row) (l : List ℕ) → Keeps (SameLink l) (AnyEnd l) (before_link r)
before-link r l =
    keeps-order (SameLink l) (AnyEnd l) (guest_parts r.pages r.blocks r.packets) (note with_tick)
    (keeps-note (SameLink l) (AnyEnd l) with_tick (λ log u e. e))
    (keeps-each (SameLink l) (AnyEnd l) write_page (write-page-link l) r.pages 0, (keeps-each (SameLink l) (AnyEnd l) write_block (write-block-link l) r.blocks 0, (keeps-each (SameLink l) (AnyEnd l) send_packet (send-packet-link l) r.packets 0, (checkpoint-link l, tt))))

abbrev AllSame : List Part → Type 0
AllSame [] = Unit {0}
AllSame (q ∷ qs) = ((l : List ℕ) → Keeps (SameLink l) (AnyEnd l) q) × AllSame qs

record Behind (c : Course) (v : Trial) : Type 0 where
  at : Trial
  first : c ≡ course.on at
  same : v.world.link ≡ at.world.link

behind : (qs : List Part) (p : Part) (u v : Trial) → AllSame qs → (in_order p qs).course u ≡ course.on v → Behind (p.course u) v
behind [] p u v k e = record { at = v; first = e; same = refl }
behind (q ∷ qs) p u v k e =
    let r = behind qs (then p q) u v k.1 e in
    let s = through (p.course u) q.course r.at r.first in
    record { at = s.at; first = s.first; same = r.same ∙ link-same q k.0 s.at r.at s.next }

-- ---- what a reading leaves
reading-short : (u v : Trial) → v.world.standby.state.settings.u ≡ 64 → reading.course u ≡ course.on v → length v.world.link ≤ 75
unfolding step
reading-short u v unit e =
    let off = (bounds-enough u).reading_bound.until v e in
    let s = v.world.standby in
    let l = read_lent s.memory s.staged_pages s.staged_marks s.staged_blocks (replicate ack_bytes 0) in
    let n = eqb-true _ _ (not-false _ off) in
    rw (take-length v.world.link) at (read_short s.state l _ unit n)

module _ (t : ℕ) (ok : start_number (settings_with t) (zero_buffers (settings_with t)) ≡ 0) where
  tick-short : (log : List Made) (u v : Trial) (r : Row) → Going t ok log u → (tick r.pages r.blocks r.packets).course u ≡ course.on v → length v.world.link ≤ 75
  unfolding tick
  tick-short log u v r g e =
      let q = then (then (before_link r) drain_link) reading in
      let b = behind (flush ∷ acks ∷ detectors ∷ takeover ∷ takes ∷ []) q u v (flush-link, (acks-link, (detectors-link, (takeover-link, (takes-link, tt))))) e in
      let s = through ((then (before_link r) drain_link).course u) reading.course b.at b.first in
      let f : Going t ok (log ++ q.made u) b.at = subst (After (Going t ok) (Ended t ok) (log ++ q.made u)) b.first (keeps-read t ok r log u g) in
      let unit = ap (λ (w : World). w.standby.state.settings.u) f.tracked.world ∙ standby-u (settings_with t) _ (inv_at t ok (log ++ q.made u)).holds.standby_kept in
      rw b.same (reading-short s.at b.at unit s.next)

  pub ticks-short : (rows : List Row) (log : List Made) (u v : Trial) → Going t ok log u → length u.world.link ≤ 75 → (ticks rows).course u ≡ course.on v → length v.world.link ≤ 75
  unfolding ticks
  ticks-short [] log u v g h e = subst (λ (x : Trial). length x.world.link ≤ 75) (same e) h
    where
      same : course.on u ≡ course.on v → u ≡ v
      same z = cc
  ticks-short (r ∷ rows) log u v g h e =
      let p = tick r.pages r.blocks r.packets in
      let s = through (p.course u) (ticks rows).course v e in
      let f : Going t ok (log ++ p.made u) s.at = subst (After (Going t ok) (Ended t ok) (log ++ p.made u)) s.first (keeps-tick t ok r log u g) in
      ticks-short rows (log ++ p.made u) s.at v f (tick-short log u s.at r g s.first) s.next

  -- ---- so all that waits fits
  pub all-fits : (log : List Made) (u v : Trial) (r : Row) → Going t ok log u → length u.world.link ≤ 75 → (before_link r).course u ≡ course.on v
      → v.world.primary.state.waiting ≤ link_room v.world
  all-fits log u v r g h e =
      let p = before_link r in
      let f : Going t ok (log ++ p.made u) v = subst (After (Going t ok) (Ended t ok) (log ++ p.made u)) e (keeps-before t ok r log u g) in
      let k = (inv_at t ok (log ++ p.made u)).holds.primary_kept in
      let w = f.tracked.world in
      let low = (primary-facts _ k.reached.range.in_range).waiting in
      let size : (pair_at t ok (log ++ p.made u)).world.primary.state.settings.l ≡ 1024 = ap (λ (x : PrimarySettings). x.l) k.settings in
      let wait : v.world.primary.state.waiting ≡ (pair_at t ok (log ++ p.made u)).world.primary.state.waiting = ap (λ (x : World). x.primary.state.waiting) w in
      let link : length v.world.link ≡ length u.world.link = ap length (link-same p (before-link r) u v e) in
      omega (arith, low)

-- ---- of every pair with demand 3's invariant
pub quiet-accepted : (t : ℕ) (b : Both) → Inv (settings_with t) b → QuietAccepted b.world
unfolding step drain_reply drain_refusal flush_reply primary_tick_reply primary_tick_refusal standby_tick_reply
quiet-accepted t b i =
    let p = b.world.primary in
    let s = b.world.standby in
    let k = i.holds.primary_kept in
    let l = i.holds.standby_kept in
    record {
      drain = λ n destination. accepts (drain_tests p.state (length p.stream)) (join _ _ k.reached.range.in_range (eq-eqb _ _ (lent-stream (settings_with t) p k)), tt);
      flush = λ n. flush-accepts s.state (length s.staged_blocks) (length s.disk) (record { in_range = l.reached.range.in_range; slots_lent = lent-blocks (settings_with t) s l; disk_lent = lent-disk (settings_with t) s l });
      primary_tick = accepts (primary_tick_tests p.state) (k.reached.range.in_range, tt);
      standby_tick = tick-accepts s.state (length s.staged_marks) (record { in_range = l.reached.range.in_range; marks_lent = lent-marks (settings_with t) s l });
    }
