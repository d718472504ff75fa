-- Laws of the standby's tick, of activation and of the guest's writes: what acceptance says, the tick by cases, and
-- that a state stays in range, and reached. Assumes nothing.
use mathlib.Core.Path.{◌≡◌, refl, sym, ap, ◌∙◌, subst}
use mathlib.Core.Bool.{Bool, true, false, cond, false≢true}
use Prim.Native.Nat.{ℕ, ◌+◌, ◌≤◌, ◌<◌}
use native.Mathlib.Omega.{arith}
use lib.Dec.{leb, eqb}
use lib.ListN.{length}
use borrow.Author.Tests.{eqb-true, eq-eqb, ltb-true, leb-true}
use Rattle.lists.specs.Select.{NoRepeats}
use Rattle.lists.proofs.TestLaws.{both, join, accepted, accepts}
use Rattle.records.specs.Area.{area_length}
use Rattle.staging.specs.Slot.{only_due}
use Rattle.staging.proofs.SlotLaws.{numbers-only-due, slots-only-due}
use Rattle.staging.proofs.BlockLaws.{fresh-only-due}
use Rattle.detector.specs.declared.Detector.{Detector}
use Rattle.detector.specs.Tick.{ticked, expired}
use Rattle.rules.specs.declared.Mode.{Mode}
use Rattle.rules.specs.declared.Mode.TheVariants.{TakingOver, Active}
use Rattle.rules.specs.declared.Standby.{Standby}
use Rattle.detector.specs.Range.{detector_ok}
use Rattle.pages.specs.Write.{inside_page}
use Rattle.rules.specs.StandbyState.{standby_ok, is_receiving, is_taking_over, is_active, memory_length, disk_length, marks_length, with_detector, with_mode}
use Rattle.rules.specs.Takeover.{standby_tick_tests, activation_tests, active_write_tests, standby_tick_refusal, dropped, takes_over, standby_tick_state, activation_refusal, active_memory_write_refusal, active_disk_write_refusal}
use Rattle.rules.specs.Reached.{StandbyInRange, StandbyReached}
use Rattle.rules.proofs.DetectorFacts.{detector-of, ticked-facts}
use Rattle.rules.proofs.StandbyFacts.{standby-tests, standby-tested, standby-facts, watched-in-range, watched-reached}

-- ---- acceptance: what it says, and of the calls of a takeover that it follows from that
pub record TickAccepted (s : Standby) (marks : ℕ) : Type 0 where
  pub in_range : standby_ok s ≡ true
  pub marks_lent : marks ≡ marks_length s

pub tick-accepts : (s : Standby) (marks : ℕ) → TickAccepted s marks → standby_tick_refusal s marks ≡ 0
unfolding standby_tick_refusal
tick-accepts s marks f =
    accepts (standby_tick_tests s marks) (join _ _ f.in_range (eq-eqb marks (marks_length s) f.marks_lent), tt)

pub record ActivationAccepted (s : Standby) (area : ℕ) : Type 0 where
  pub in_range : standby_ok s ≡ true
  pub area_lent : area ≡ area_length
  pub taking_over : is_taking_over s.mode ≡ true
  pub none_due : s.slots.due ≡ 0

module _ (s : Standby) (area : ℕ) where
  pub activation-accepted : activation_refusal s area ≡ 0 → ActivationAccepted s area
  unfolding activation_refusal
  activation-accepted e =
      let t = accepted (activation_tests s area) refl e in
      let k = both (standby_ok s) (eqb area area_length) t.0 in
      record { in_range = k.0; area_lent = eqb-true area area_length k.1; taking_over = t.1.0; none_due = eqb-true s.slots.due 0 t.1.1.0 }

  pub activation-accepts : ActivationAccepted s area → activation_refusal s area ≡ 0
  unfolding activation_refusal
  activation-accepts f =
      accepts (activation_tests s area) (join _ _ f.in_range (eq-eqb area area_length f.area_lent), (f.taking_over, (eq-eqb s.slots.due 0 f.none_due, tt)))

pub record ActiveMemoryWriteAccepted (s : Standby) (memory page offset n : ℕ) : Type 0 where
  pub in_range : standby_ok s ≡ true
  pub memory_lent : memory ≡ memory_length s
  pub active : is_active s.mode ≡ true
  pub page_below : page < s.settings.m
  pub some : 1 ≤ n
  pub inside : offset + n ≤ s.settings.u

pub active-memory-write-accepted : (s : Standby) (memory page offset n : ℕ) → active_memory_write_refusal s memory page offset n ≡ 0 → ActiveMemoryWriteAccepted s memory page offset n
unfolding active_memory_write_refusal
active-memory-write-accepted s memory page offset n e =
    let t = accepted (active_write_tests s memory s.settings.m page (inside_page s.settings.u offset n)) refl e in
    let k = both (standby_ok s) (eqb memory (memory_length s)) t.0 in
    let i = both (leb 1 n) (leb (offset + n) s.settings.u) t.1.1.1.0 in
    record {
      in_range = k.0;
      memory_lent = eqb-true memory (memory_length s) k.1;
      active = t.1.0;
      page_below = ltb-true page s.settings.m t.1.1.0;
      some = leb-true 1 n i.0;
      inside = leb-true (offset + n) s.settings.u i.1;
    }

pub record ActiveDiskWriteAccepted (s : Standby) (disk block n : ℕ) : Type 0 where
  pub in_range : standby_ok s ≡ true
  pub disk_lent : disk ≡ disk_length s
  pub active : is_active s.mode ≡ true
  pub block_below : block < s.settings.d
  pub size : n ≡ s.settings.u

pub active-disk-write-accepted : (s : Standby) (disk block n : ℕ) → active_disk_write_refusal s disk block n ≡ 0 → ActiveDiskWriteAccepted s disk block n
unfolding active_disk_write_refusal
active-disk-write-accepted s disk block n e =
    let t = accepted (active_write_tests s disk s.settings.d block (eqb n s.settings.u)) refl e in
    let k = both (standby_ok s) (eqb disk (disk_length s)) t.0 in
    record {
      in_range = k.0;
      disk_lent = eqb-true disk (disk_length s) k.1;
      active = t.1.0;
      block_below = ltb-true block s.settings.d t.1.1.0;
      size = eqb-true n s.settings.u t.1.1.1.0;
    }

-- ---- the tick by cases
module _ (s : Standby) where
  -- "counts while receiving"
  pub tick-rests : is_receiving s.mode ≡ false → (standby_tick_state s ≡ s) × (takes_over s ≡ false)
  unfolding standby_tick_state
  tick-rests e = rw e (refl, refl)

  -- while receiving, by the ticked detector
  pub tick-receives : is_receiving s.mode ≡ true
      → (standby_tick_state s ≡ cond (expired (ticked s.detector true)) (with_mode (dropped (with_detector s (ticked s.detector true))) TakingOver) (with_detector s (ticked s.detector true)))
      × (takes_over s ≡ expired (ticked s.detector true))
  unfolding standby_tick_state
  tick-receives e = rw e (refl, refl)

  pub tick-counts : is_receiving s.mode ≡ true → expired (ticked s.detector true) ≡ false
      → (standby_tick_state s ≡ with_detector s (ticked s.detector true)) × (takes_over s ≡ false)
  unfolding standby_tick_state
  tick-counts e x = rw (e, x) (refl, refl)

  -- "At T it takes over"
  pub tick-takes-over : is_receiving s.mode ≡ true → expired (ticked s.detector true) ≡ true
      → (standby_tick_state s ≡ with_mode (dropped (with_detector s (ticked s.detector true))) TakingOver) × (takes_over s ≡ true)
  unfolding standby_tick_state
  tick-takes-over e x = rw (e, x) (refl, refl)

-- ---- what a tick and an activation keep

module _ (s : Standby) where
  only-due-counts : ((only_due s.slots).staged ≡ s.slots.due) × ((only_due s.slots).due ≡ s.slots.due)
  unfolding only_due
  only-due-counts = (refl, refl)

  dropped-in-range : StandbyInRange s → StandbyInRange (dropped s)
  dropped-in-range r =
      let t = standby-tests s r.in_range in
      record {
        in_range = standby-tested (dropped s)
            (record {
              settings-ok = t.settings-ok;
              slots-ok = slots-only-due s.slots s.settings.s s.settings.d t.slots-ok;
              blocks-high = omega arith;
              records-high = omega arith;
              pages-high = omega arith;
              detector-ok = t.detector-ok;
            });
        numbers = ap length (numbers-only-due s.slots) ∙ r.numbers;
      }

  dropped-reached : StandbyReached s → StandbyReached (dropped s)
  dropped-reached r =
      let k = only-due-counts in
      record {
        range = dropped-in-range r.range;
        staged_processor = r.staged_processor;
        processor = r.processor;
        pages_below = omega arith;
        next_below = omega arith;
        not_due = omega (arith, k.0, k.1);
        different = subst NoRepeats (sym (fresh-only-due s.slots)) tt;
        records_high = omega arith;
      }

-- a fact of states in range that another detector and mode keep, and dropping
module _ (P : Standby → Type 0) (range : (s : Standby) → P s → standby_ok s ≡ true)
    (watched : (s : Standby) (d : Detector) (mode : Mode) → detector_ok d (is_receiving mode) ≡ true → P s → P (with_mode (with_detector s d) mode))
    (drops : (s : Standby) → P s → P (dropped s)) (s : Standby) (r : P s) where
  -- after a tick of a receiving standby, whether it still receives then or not
  ticked-ok : (still : Bool) → (still ≡ true → expired (ticked s.detector true) ≡ false) → detector_ok (ticked s.detector true) still ≡ true
  ticked-ok still below =
      detector-of (ticked s.detector true) still (ticked-facts s.detector (is_receiving s.mode) (standby-facts s (range s r)).detector true still below)

  ticked-kept : P (standby_tick_state s)
  ticked-kept =
      go (is_receiving s.mode) (expired (ticked s.detector true)) refl refl
    where
      go : (a b : Bool) → is_receiving s.mode ≡ a → expired (ticked s.detector true) ≡ b → P (standby_tick_state s)
      go false b e x = rw (tick-rests s e).0 r
      go true false e x =
          rw (tick-counts s e x).0
          (watched s (ticked s.detector true) s.mode (ticked-ok (is_receiving s.mode) (λ w. x)) r)
      go true true e x =
          rw (tick-takes-over s e x).0
          (watched (dropped s) (ticked s.detector true) TakingOver (ticked-ok false (λ w. absurd (false≢true w))) (drops s r))

  -- once active its ticks do not count
  activated-kept : P (with_mode s Active)
  activated-kept =
      let f = (standby-facts s (range s r)).detector in
      watched s s.detector Active
      (detector-of s.detector false (record { t-low = f.t-low; t-high = f.t-high; count-high = f.count-high; below = λ e. absurd (false≢true e) })) r

module _ (s : Standby) where
  pub ticked-in-range : StandbyInRange s → StandbyInRange (standby_tick_state s)
  ticked-in-range = ticked-kept StandbyInRange (λ s r. r.in_range) watched-in-range dropped-in-range s

  pub ticked-reached : StandbyReached s → StandbyReached (standby_tick_state s)
  ticked-reached = ticked-kept StandbyReached (λ s r. r.range.in_range) watched-reached dropped-reached s

  pub activated-in-range : StandbyInRange s → StandbyInRange (with_mode s Active)
  activated-in-range = activated-kept StandbyInRange (λ s r. r.in_range) watched-in-range dropped-in-range s

  pub activated-reached : StandbyReached s → StandbyReached (with_mode s Active)
  activated-reached = activated-kept StandbyReached (λ s r. r.range.in_range) watched-reached dropped-reached s
