-- Laws of flush: what its acceptance says, and that a state stays in range, and reached. Assumes nothing.
use mathlib.Core.Path.{◌≡◌, refl, sym, subst}
use mathlib.Core.Bool.{true, ◌&&◌}
use Prim.Native.Nat.{ℕ, ◌-◌, ◌≤◌}
use native.Mathlib.Omega.{arith}
use lib.Dec.{eqb}
use lib.ListN.{length}
use borrow.Author.Tests.{eqb-true, eq-eqb}
use Rattle.lists.specs.Select.{NoRepeats}
use Rattle.lists.proofs.TestLaws.{both, join, accepted, accepts}
use Rattle.settings.specs.Range.{most_slots}
use Rattle.staging.specs.Slot.{flushed}
use Rattle.staging.specs.Fits.{FlushFits}
use Rattle.staging.proofs.SlotLaws.{array-flushed, slots-flushed}
use Rattle.staging.proofs.BlockLaws.{fresh-flushed}
use Rattle.staging.proofs.StoreLaws.{flush-fits}
use Rattle.rules.specs.declared.Standby.{Standby}
use Rattle.rules.specs.StandbyState.{standby_ok, disk_length, slots_length, with_slots_blocks}
use Rattle.rules.specs.Flush.{flush_tests, flush_refusal}
use Rattle.rules.specs.Reached.{StandbyInRange, StandbyReached}
use Rattle.rules.proofs.StandbyFacts.{standby-tests, standby-facts, in-range-slots, reached-slots}

-- ---- acceptance
pub record FlushAccepted (s : Standby) (slots disk : ℕ) : Type 0 where
  pub in_range : standby_ok s ≡ true
  pub slots_lent : slots ≡ slots_length s
  pub disk_lent : disk ≡ disk_length s

module _ (s : Standby) (slots disk : ℕ) where
  pub flush-accepted : flush_refusal s slots disk ≡ 0 → FlushAccepted s slots disk
  unfolding flush_refusal
  flush-accepted e =
      let t = accepted (flush_tests s slots disk) refl e in
      let d = both (standby_ok s && eqb slots (slots_length s)) (eqb disk (disk_length s)) t.0 in
      let k = both (standby_ok s) (eqb slots (slots_length s)) d.0 in
      record { in_range = k.0; slots_lent = eqb-true slots (slots_length s) k.1; disk_lent = eqb-true disk (disk_length s) d.1 }

  pub flush-accepts : FlushAccepted s slots disk → flush_refusal s slots disk ≡ 0
  unfolding flush_refusal
  flush-accepts f =
      accepts (flush_tests s slots disk)
      (join _ _ (join _ _ f.in_range (eq-eqb slots (slots_length s) f.slots_lent)) (eq-eqb disk (disk_length s) f.disk_lent), tt)

  -- what the move of the blocks and of the bytes requires
  pub flush-room : length s.slots.numbers ≡ most_slots → FlushAccepted s slots disk → FlushFits s.settings.u s.slots slots disk
  flush-room array f =
      flush-fits s.settings.u s.settings.s s.settings.d s.slots slots disk array (standby-facts s f.in_range).settings.slots.s-high (standby-tests s f.in_range).slots-ok f.slots_lent f.disk_lent

-- ---- what a flush of this many leaves
module _ (s : Standby) (count : ℕ) where
  flushed-counts : ((flushed s.slots count).staged ≡ s.slots.staged - count) × ((flushed s.slots count).due ≡ s.slots.due - count)
  unfolding flushed
  flushed-counts = (refl, refl)

  module _ (low : count ≤ s.slots.due) where
    pub flushed-in-range : StandbyInRange s → StandbyInRange (with_slots_blocks s (flushed s.slots count) s.blocks s.records)
    flushed-in-range r =
        let t = standby-tests s r.in_range in
        let f = standby-facts s r.in_range in
        in-range-slots s (flushed s.slots count) s.blocks s.records r
        (slots-flushed s.slots s.settings.s s.settings.d r.numbers f.settings.slots.s-high count t.slots-ok low)
        (array-flushed s.slots r.numbers count (omega arith) (omega arith)) t.blocks-high t.records-high

    pub flushed-reached : StandbyReached s → StandbyReached (with_slots_blocks s (flushed s.slots count) s.blocks s.records)
    flushed-reached r =
        let k = flushed-counts in
        let f = standby-facts s r.range.in_range in
        reached-slots s (flushed s.slots count) s.blocks s.records r (flushed-in-range r.range) (omega (arith, r.not_due, k.0, k.1))
        (subst NoRepeats (sym (fresh-flushed s.slots count r.range.numbers f.slots.due_high (omega (arith, f.slots.staged-high, f.settings.slots.s-high)) low)) r.different) r.records_high
