-- Laws of start: what acceptance says, by name, and back; an accepted start gives states that are reached, and on those that a
-- refused one gives every call is refused with 1. Assumes nothing.
use mathlib.Core.Path.{◌≡◌, refl, sym, ◌∙◌}
use mathlib.Core.Bool.{true, false}
use mathlib.Core.List.{List}
use Prim.Native.Nat.{ℕ, ◌*◌}
use native.Mathlib.Omega.{arith}
use lib.Dec.{eqb}
use lib.ListN.{length}
use borrow.Author.Tests.{eqb-true, ne_eqb}
use Rattle.lists.proofs.TestLaws.{both, accepted}
use Rattle.records.specs.Kind.{processor_bytes, unit_ok}
use Rattle.records.specs.Number.{out_of_range}
use Rattle.records.specs.Area.{area_length}
use Rattle.settings.specs.declared.Settings.{Settings}
use Rattle.settings.specs.Range.{settings_ok, primary_settings_ok, standby_settings_ok, of_primary}
use Rattle.settings.proofs.RangeLaws.{settings-facts, primary-settings-facts, primary-of-settings, standby-of-settings}
use Rattle.marks.specs.Mark.{words_for}
use Rattle.queue.proofs.QueueLaws.{queue-empty}
use Rattle.staging.proofs.SlotLaws.{slots-empty}
use Rattle.rules.specs.declared.Primary.{Primary}
use Rattle.rules.specs.declared.Standby.{Standby}
use Rattle.rules.specs.declared.StartLent.{StartLent}
use Rattle.rules.specs.PrimaryState.{primary_ok}
use Rattle.rules.specs.StandbyState.{standby_ok}
use Rattle.rules.specs.Reached.{PrimaryReached, StandbyReached}
use Rattle.rules.specs.Start.{start_tests, start_lent_ok, start_refusal, opened_primary, opened_standby, no_primary, no_standby, started}
use Rattle.rules.specs.PrimaryWrites.{memory_write_refusal, memory_write_reply, disk_write_refusal, disk_write_reply}
use Rattle.rules.specs.Packets.{packet_refusal, packet_reply, take_refusal, take_reply}
use Rattle.rules.specs.Checkpoint.{checkpoint_refusal, checkpoint_reply}
use Rattle.rules.specs.Stream.{drain_refusal, drain_reply, ack_judged, ack_reply}
use Rattle.rules.specs.PrimaryTick.{primary_tick_refusal, primary_tick_reply}
use Rattle.rules.specs.Judge.{judged}
use Rattle.rules.specs.Read.{read_reply}
use Rattle.rules.specs.Flush.{flush_refusal, flush_reply}
use Rattle.rules.specs.Takeover.{standby_tick_refusal, standby_tick_reply, activation_refusal, activation_reply, active_memory_write_refusal, active_memory_write_reply, active_disk_write_refusal, active_disk_write_reply}
use Rattle.rules.specs.Sums.{primary_sum_refusal, primary_sum_reply, standby_sum_refusal, standby_sum_reply}
use Rattle.rules.specs.World as world
use Rattle.rules.specs.World.{World, Call}
use Rattle.rules.specs.Step.{outcome, step}
use Rattle.rules.proofs.DetectorFacts.{DetectorFacts, detector-of}
use Rattle.rules.proofs.PrimaryFacts.{primary-of}
use Rattle.rules.proofs.StandbyFacts.{standby-tested}

-- ---- "Lent lengths are exact"
pub record StartLentFacts (g : Settings) (l : StartLent) : Type 0 where
  pub memory-is : l.primary.memory ≡ g.m * g.u
  pub disk-is : l.primary.disk ≡ g.d * g.u
  pub dirty-is : l.primary.dirty ≡ words_for g.m
  pub held-is : l.primary.held ≡ g.q
  pub stream-is : l.primary.stream ≡ g.l
  pub standby-memory-is : l.standby.memory ≡ g.m * g.u
  pub standby-disk-is : l.standby.disk ≡ g.d * g.u
  pub pages-is : l.standby.pages ≡ g.m * g.u
  pub marks-is : l.standby.marks ≡ words_for g.m
  pub blocks_is : l.standby.blocks ≡ g.s * g.u
  pub area-is : l.standby.area ≡ area_length

module _ (g : Settings) (l : StartLent) where
  pub start-lent-facts : start_lent_ok g l ≡ true → StartLentFacts g l
  unfolding start_lent_ok
  start-lent-facts e =
      let area = both _ (eqb l.standby.area area_length) e in
      let blocks = both _ (eqb l.standby.blocks (g.s * g.u)) area.0 in
      let marks = both _ (eqb l.standby.marks (words_for g.m)) blocks.0 in
      let pages = both _ (eqb l.standby.pages (g.m * g.u)) marks.0 in
      let disk' = both _ (eqb l.standby.disk (g.d * g.u)) pages.0 in
      let memory' = both _ (eqb l.standby.memory (g.m * g.u)) disk'.0 in
      let stream = both _ (eqb l.primary.stream g.l) memory'.0 in
      let held = both _ (eqb l.primary.held g.q) stream.0 in
      let dirty = both _ (eqb l.primary.dirty (words_for g.m)) held.0 in
      let disk = both (eqb l.primary.memory (g.m * g.u)) (eqb l.primary.disk (g.d * g.u)) dirty.0 in
      record {
        memory-is = eqb-true _ _ disk.0;
        disk-is = eqb-true _ _ disk.1;
        dirty-is = eqb-true _ _ dirty.1;
        held-is = eqb-true _ _ held.1;
        stream-is = eqb-true _ _ stream.1;
        standby-memory-is = eqb-true _ _ memory'.1;
        standby-disk-is = eqb-true _ _ disk'.1;
        pages-is = eqb-true _ _ pages.1;
        marks-is = eqb-true _ _ marks.1;
        blocks_is = eqb-true _ _ blocks.1;
        area-is = eqb-true _ _ area.1;
      }

-- ---- what acceptance says
pub record StartFacts (g : Settings) (l : StartLent) : Type 0 where
  pub in_range : settings_ok g ≡ true
  pub lent : StartLentFacts g l

pub start-accepted : (g : Settings) (l : StartLent) → start_refusal g l ≡ 0 → StartFacts g l
unfolding start_refusal
start-accepted g l e =
    let h = accepted (start_tests g l) refl e in
    let r = both (settings_ok g) (start_lent_ok g l) h.0 in
    record { in_range = r.0; lent = start-lent-facts g l r.1 }

-- ---- what start gives
module _ (g : Settings) (l : StartLent) (processor : List ℕ) where
  pub started-accepted : start_refusal g l ≡ 0 → started g l processor ≡ record { primary = opened_primary g; standby = opened_standby g processor; number = 0 }
  unfolding started
  started-accepted e = rw e

  pub started-refused : (start_refusal g l ≡ 0 → ⊥) → started g l processor ≡ record { primary = no_primary; standby = no_standby; number = start_refusal g l }
  unfolding started
  started-refused e = rw (ne_eqb _ _ e)

  -- as the code makes them: n is what the refusal function gave
  pub start-accepts : (p : Primary) (s : Standby) → start_refusal g l ≡ 0 → p ≡ opened_primary g → s ≡ opened_standby g processor → record { primary = p; standby = s; number = 0 } ≡ started g l processor
  start-accepts p s e h k = rw (h, k) (sym (started-accepted e))

  pub start-refuses : (n : ℕ) (p : Primary) (s : Standby) → n ≡ start_refusal g l → (n ≡ 0 → ⊥) → p ≡ no_primary → s ≡ no_standby → record { primary = p; standby = s; number = n } ≡ started g l processor
  start-refuses n p s e z h k = rw (h, k, e) (sym (started-refused (λ q. z (e ∙ q))))

-- ---- the opened states are reached
module _ (g : Settings) (e : settings_ok g ≡ true) where
  watches : DetectorFacts (record { patience = g.t; count = 0 }) true
  watches = let s = settings-facts g e in record { t-low = s.t-low; t-high = s.t-high; count-high = omega arith; below = λ z. omega (arith, s.t-low) }

  pub opened-primary : PrimaryReached (opened_primary g)
  opened-primary =
      record {
        range = record {
          in_range = primary-of (opened_primary g)
              (record {
                settings = primary-settings-facts (of_primary g) (primary-of-settings g e);
                queue = queue-empty 1 g.q;
                acknowledged = omega arith;
                waiting = omega arith;
                blocks = omega arith;
                records = omega arith;
                detector = watches;
              });
          packets = refl;
          numbers = refl;
        };
        different = tt;
        records_high = omega arith;
      }

  pub opened-standby : (processor : List ℕ) → length processor ≡ processor_bytes → StandbyReached (opened_standby g processor)
  opened-standby processor size =
      record {
        range = record {
          in_range = standby-tested (opened_standby g processor)
              (record {
                settings-ok = standby-of-settings g e;
                slots-ok = slots-empty g.s g.d;
                blocks-high = omega arith;
                records-high = omega arith;
                pages-high = omega arith;
                detector-ok = detector-of (record { patience = g.t; count = 0 }) true watches;
              });
          numbers = refl;
        };
        staged_processor = refl;
        processor = size;
        pages_below = omega arith;
        next_below = omega arith;
        not_due = refl;
        different = tt;
        records_high = omega arith;
      }

-- "an accepted start": its states
module _ (g : Settings) (l : StartLent) (processor : List ℕ) (e : start_refusal g l ≡ 0) where
  pub started-primary : PrimaryReached (started g l processor).primary
  started-primary = rw (started-accepted g l processor e) (opened-primary g (start-accepted g l e).in_range)

  pub started-standby : length processor ≡ processor_bytes → StandbyReached (started g l processor).standby
  started-standby size = rw (started-accepted g l processor e) (opened-standby g (start-accepted g l e).in_range processor size)

-- ---- "A refused start gives the state with every setting 0, refused by every later call"
pub no-primary : primary_ok no_primary ≡ false
unfolding primary_ok primary_settings_ok unit_ok
no-primary = refl

pub no-standby : standby_ok no_standby ≡ false
unfolding standby_ok standby_settings_ok unit_ok
no-standby = refl

-- every call, whatever it is lent and told: number 1, value 0
pub zero-refuses : (w : World) (c : Call) → w.primary.state ≡ no_primary → w.standby.state ≡ no_standby → (step w c).outcome ≡ outcome out_of_range 0
unfolding step memory_write_reply memory_write_refusal disk_write_reply disk_write_refusal packet_reply packet_refusal take_reply take_refusal checkpoint_reply checkpoint_refusal drain_reply drain_refusal ack_reply ack_judged primary_tick_reply primary_tick_refusal read_reply judged flush_reply flush_refusal standby_tick_reply standby_tick_refusal activation_reply activation_refusal active_memory_write_reply active_memory_write_refusal active_disk_write_reply active_disk_write_refusal primary_sum_reply primary_sum_refusal standby_sum_reply standby_sum_refusal
zero-refuses w (world.memory_write page offset bytes) p s = rw (p, no-primary)
zero-refuses w (world.disk_write block bytes) p s = rw (p, no-primary)
zero-refuses w (world.packet port bytes) p s = rw (p, no-primary)
zero-refuses w (world.checkpoint processor) p s = rw (p, no-primary)
zero-refuses w (world.drain n destination) p s = rw (p, no-primary)
zero-refuses w (world.ack n) p s = rw (p, no-primary)
zero-refuses w (world.take port destination) p s = rw (p, no-primary)
zero-refuses w world.primary_tick p s = rw (p, no-primary)
zero-refuses w world.primary_sum p s = rw (p, no-primary)
zero-refuses w (world.read n reply) p s = rw (s, no-standby)
zero-refuses w (world.flush n) p s = rw (s, no-standby)
zero-refuses w world.standby_tick p s = rw (s, no-standby)
zero-refuses w world.activation p s = rw (s, no-standby)
zero-refuses w (world.active_memory_write page offset bytes) p s = rw (s, no-standby)
zero-refuses w (world.active_disk_write block bytes) p s = rw (s, no-standby)
zero-refuses w (world.standby_sum order) p s = rw (s, no-standby)
