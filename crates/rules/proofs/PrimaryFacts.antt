-- What number 1 of the primary's state says, by name, and back. Assumes nothing.
use mathlib.Core.Path.{◌≡◌}
use mathlib.Core.Bool.{true}
use Prim.Native.Nat.{◌≤◌, ◌<◌}
use lib.Dec.{leb, ltb}
use borrow.Author.Tests.{leb-true, le-leb, ltb-true, lt-ltb}
use Rattle.lists.proofs.TestLaws.{both}
use Rattle.settings.specs.Range.{most_records}
use Rattle.settings.proofs.RangeLaws.{PrimarySettingsFacts, primary-settings-facts, primary-settings-of}
use Rattle.queue.specs.Held.{queue_ok}
use Rattle.rules.specs.declared.Primary.{Primary}
use Rattle.detector.specs.Range.{detector_ok}
use Rattle.rules.specs.PrimaryState.{primary_ok, protected}
use Rattle.rules.proofs.DetectorFacts.{DetectorFacts, detector-facts, detector-of}

pub record PrimaryFacts (p : Primary) : Type 0 where
  pub settings : PrimarySettingsFacts p.settings
  pub queue : queue_ok p.queue p.epoch p.settings.q ≡ true
  pub acknowledged : p.acknowledged < p.epoch
  pub waiting : p.waiting ≤ p.settings.l
  pub blocks : p.blocks ≤ p.settings.b
  pub records : p.records ≤ most_records
  pub detector : DetectorFacts p.detector (protected p)

module _ (p : Primary) where
  pub primary-facts : primary_ok p ≡ true → PrimaryFacts p
  unfolding primary_ok
  primary-facts e =
      let d = both _ (detector_ok p.detector (protected p)) e in
      let r = both _ (leb p.records most_records) d.0 in
      let b = both _ (leb p.blocks p.settings.b) r.0 in
      let w = both _ (leb p.waiting p.settings.l) b.0 in
      let a = both _ (ltb p.acknowledged p.epoch) w.0 in
      let q = both _ (queue_ok p.queue p.epoch p.settings.q) a.0 in
      record {
        settings = primary-settings-facts p.settings q.0;
        queue = q.1;
        acknowledged = ltb-true p.acknowledged p.epoch a.1;
        waiting = leb-true p.waiting p.settings.l w.1;
        blocks = leb-true p.blocks p.settings.b b.1;
        records = leb-true p.records most_records r.1;
        detector = detector-facts p.detector (protected p) d.1;
      }

  pub primary-of : PrimaryFacts p → primary_ok p ≡ true
  unfolding primary_ok
  primary-of f =
      simp (
        primary-settings-of p.settings f.settings,
        f.queue,
        lt-ltb p.acknowledged p.epoch f.acknowledged,
        le-leb p.waiting p.settings.l f.waiting,
        le-leb p.blocks p.settings.b f.blocks,
        le-leb p.records most_records f.records,
        detector-of p.detector (protected p) f.detector,
      )
