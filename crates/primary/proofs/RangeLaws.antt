-- Number 1 of the primary's state in two tests: of all but the queue, and of the queue. Assumes nothing.
use mathlib.Core.Path.{◌≡◌, refl, sym, ◌∙◌}
use mathlib.Core.Bool.{Bool, true, false, ◌&&◌, not}
use Prim.Native.Nat.{◌*◌, ◌^◌, ◌<◌, ◌≤◌}
use native.Mathlib.Omega.{arith}
use lib.Dec.{leb, ltb}
use Rattle.lists.proofs.TestLaws.{and-false, both}
use Rattle.settings.proofs.RangeLaws.{memory-bytes, disk-bytes}
use Rattle.settings.specs.Range.{primary_settings_ok, most_records}
use Rattle.queue.specs.Held.{queue_ok}
use Rattle.rules.specs.declared.Primary.{Primary}
use Rattle.detector.specs.Range.{detector_ok}
use Rattle.rules.specs.PrimaryState.{primary_ok}
use Rattle.rules.proofs.PrimaryFacts.{primary-facts}

and-true : (x : Bool) → x ≡ (x && true)
and-true true = refl
and-true false = refl

-- the second of seven tests comes last
second-last : (s q a w b r d : Bool) → (s && q && a && w && b && r && d) ≡ ((s && a && w && b && r && d) && q)
second-last false q a w b r d = refl
second-last true true a w b r d = and-true (a && w && b && r && d)
second-last true false a w b r d = sym (and-false (a && w && b && r && d))

module _ (p : Primary) where
  abbrev pub numbers_ok : Bool
  numbers_ok =
      primary_settings_ok p.settings && ltb p.acknowledged p.epoch && leb p.waiting p.settings.l && leb p.blocks p.settings.b && leb p.records most_records && detector_ok p.detector (not p.alone)

  abbrev pub held_ok : Bool
  held_ok = queue_ok p.queue p.epoch p.settings.q

  pub parts : primary_ok p ≡ (numbers_ok && held_ok)
  unfolding primary_ok
  parts = second-last (primary_settings_ok p.settings) held_ok (ltb p.acknowledged p.epoch) (leb p.waiting p.settings.l) (leb p.blocks p.settings.b) (leb p.records most_records) (detector_ok p.detector (not p.alone))

  pub numbers-bad : numbers_ok ≡ false → primary_ok p ≡ false
  numbers-bad e = parts ∙ rw e refl

  pub held-bad : held_ok ≡ false → primary_ok p ≡ false
  held-bad e = parts ∙ rw e (and-false numbers_ok)

  pub both_ok : numbers_ok ≡ true → held_ok ≡ true → primary_ok p ≡ true
  both_ok e f = parts ∙ rw (e, f) refl

  -- the bytes of the memory and of the disk fit a word
  module _ (ok : primary_ok p ≡ true) where
    pub memory_fits : p.settings.m * p.settings.u < 2 ^ 64
    memory_fits = omega (arith, memory-bytes (primary-facts p ok).settings.shared)

    pub disk_fits : p.settings.d * p.settings.u < 2 ^ 64
    disk_fits = omega (arith, disk-bytes (primary-facts p ok).settings.shared)

    pub blocks_within : p.blocks ≤ 64
    blocks_within = let f = primary-facts p ok in omega arith

    -- U, M, L and what is waiting, so that the bytes of a checkpoint and of a BLOCK fit a word
    pub unit_high : p.settings.u ≤ 4096
    unit_high = (primary-facts p ok).settings.shared.u-high

    pub pages_high : p.settings.m ≤ 65536
    pages_high = (primary-facts p ok).settings.shared.m-high

    pub waiting_high : p.waiting ≤ 536870912
    waiting_high = let f = primary-facts p ok in omega arith

    -- and the queue is in its ranges
    pub queue_in_range : held_ok ≡ true
    queue_in_range = (both numbers_ok held_ok (sym parts ∙ ok)).1
