-- Laws of the ranges: what each test of the settings says, by name, and back; what the ends keep is in its ranges; the least length of the stream; lengths. Assumes nothing.
use mathlib.Core.Path.{◌≡◌, refl, sym, ◌∙◌}
use mathlib.Core.Bool.{Bool, true, false, ◌&&◌, and-true, and-false}
use Prim.Native.Nat.{ℕ, ◌+◌, ◌*◌, ◌%◌, ◌≤◌, ◌<◌}
use native.Mathlib.Nat.{mul-le-mul}
use native.Mathlib.Omega.{arith}
use lib.Dec.{eqb}
use borrow.Author.Tests.{leb-true, le-leb, eqb-true, eq-eqb}
use Rattle.lists.specs.Refusal.{within}
use Rattle.lists.proofs.TestLaws.{both, join, within-facts, within_of}
use Rattle.records.specs.Kind.{unit_ok, BLOCK, STATE, is_wide, commit_kind, body_length, record_length, number_end, counts_end}
use Rattle.records.proofs.KindLaws.{unit-le, width-range, page-length, commit-length, narrow-of, wide_of}
use Rattle.settings.specs.declared.Settings.{Settings}
use Rattle.settings.specs.declared.PrimarySettings.{PrimarySettings}
use Rattle.settings.specs.declared.StandbySettings.{StandbySettings}
use Rattle.settings.specs.Range.{memory_pages_ok, disk_blocks_ok, allowance_ok, block_slots_ok, held_bytes_ok, patience_ok, least_stream, stream_ok, settings_ok, primary_settings_ok, standby_settings_ok, of_primary, of_standby}

-- ---- the facts, each stated once

-- U, M, D and B, which begin each of the three tests
abbrev pub shared_ok : ℕ → ℕ → ℕ → ℕ → Bool
shared_ok u m d b = unit_ok u && memory_pages_ok m && disk_blocks_ok d && allowance_ok b

pub record SharedFacts (u m d b : ℕ) : Type 0 where
  pub u-low : 64 ≤ u
  pub u-high : u ≤ 4096
  pub u-whole : u % 64 ≡ 0
  pub m-low : 1 ≤ m
  pub m-high : m ≤ 65536
  pub d-high : d ≤ 4096
  pub b-high : b ≤ 64

-- S
pub record SlotsFacts (b s : ℕ) : Type 0 where
  pub s-low : b ≤ s
  pub s-high : s ≤ 64

-- Q and L
pub record StreamFacts (u m b q l : ℕ) : Type 0 where
  pub q-high : q ≤ 32768
  pub l-low : least_stream u m b ≤ l
  pub l-high : l ≤ 536870912

pub record SettingsFacts (g : Settings) : Type 0 where
  pub shared : SharedFacts g.u g.m g.d g.b
  pub slots : SlotsFacts g.b g.s
  pub stream : StreamFacts g.u g.m g.b g.q g.l
  pub t-low : 1 ≤ g.t
  pub t-high : g.t ≤ 60000

pub record PrimarySettingsFacts (g : PrimarySettings) : Type 0 where
  pub shared : SharedFacts g.u g.m g.d g.b
  pub stream : StreamFacts g.u g.m g.b g.q g.l

pub record StandbySettingsFacts (g : StandbySettings) : Type 0 where
  pub shared : SharedFacts g.u g.m g.d g.b
  pub slots : SlotsFacts g.b g.s

-- ---- from the tests to the facts, and back

-- U is in its range, as the laws of the records ask
pub shared-unit : {u m d b : ℕ} → SharedFacts u m d b → unit_ok u ≡ true
unfolding unit_ok
shared-unit {u} f = join _ _ (within_of 64 4096 u f.u-low f.u-high) (eq-eqb (u % 64) 0 f.u-whole)

unit-whole : (u : ℕ) → unit_ok u ≡ true → u % 64 ≡ 0
unfolding unit_ok
unit-whole u e = eqb-true (u % 64) 0 (both (within 64 4096 u) (eqb (u % 64) 0) e).1

module _ (u m d b : ℕ) where
  pub shared-facts : shared_ok u m d b ≡ true → SharedFacts u m d b
  shared-facts e =
      let p = both (unit_ok u && memory_pages_ok m && disk_blocks_ok d) (allowance_ok b) e in
      let q = both (unit_ok u && memory_pages_ok m) (disk_blocks_ok d) p.0 in
      let r = both (unit_ok u) (memory_pages_ok m) q.0 in
      let v = unit-le u r.0 in
      let w = within-facts 1 65536 m r.1 in
      record {
        u-low = v.0;
        u-high = v.1;
        u-whole = unit-whole u r.0;
        m-low = w.0;
        m-high = w.1;
        d-high = leb-true d 4096 q.1;
        b-high = leb-true b 64 p.1;
      }

  pub shared_of : SharedFacts u m d b → shared_ok u m d b ≡ true
  shared_of f =
      join _ _
      (join _ _ (join _ _ (shared-unit f) (within_of 1 65536 m f.m-low f.m-high)) (le-leb d 4096 f.d-high))
      (le-leb b 64 f.b-high)

module _ (b s : ℕ) where
  pub slots-facts : block_slots_ok b s ≡ true → SlotsFacts b s
  slots-facts e = let p = within-facts b 64 s e in record { s-low = p.0; s-high = p.1 }

module _ (u m b q l : ℕ) where
  pub stream-facts : held_bytes_ok q ≡ true → stream_ok u m b l ≡ true → StreamFacts u m b q l
  stream-facts h e =
      let p = within-facts (least_stream u m b) 536870912 l e in
      record { q-high = leb-true q 32768 h; l-low = p.0; l-high = p.1 }

  module _ (f : StreamFacts u m b q l) where
    pub held_of : held_bytes_ok q ≡ true
    held_of = le-leb q 32768 f.q-high

    pub stream-of : stream_ok u m b l ≡ true
    stream-of = within_of (least_stream u m b) 536870912 l f.l-low f.l-high

module _ (g : PrimarySettings) where
  pub primary-settings-facts : primary_settings_ok g ≡ true → PrimarySettingsFacts g
  unfolding primary_settings_ok
  primary-settings-facts e =
      let p = both _ _ e in
      let q = both _ _ p.0 in
      record { shared = shared-facts _ _ _ _ q.0; stream = stream-facts _ _ _ _ _ q.1 p.1 }

  pub primary-settings-of : PrimarySettingsFacts g → primary_settings_ok g ≡ true
  unfolding primary_settings_ok
  primary-settings-of f =
      join _ _ (join _ _ (shared_of _ _ _ _ f.shared) (held_of _ _ _ _ _ f.stream)) (stream-of _ _ _ _ _ f.stream)

module _ (g : StandbySettings) where
  pub standby-settings-facts : standby_settings_ok g ≡ true → StandbySettingsFacts g
  unfolding standby_settings_ok
  standby-settings-facts e =
      let p = both _ _ e in
      record { shared = shared-facts _ _ _ _ p.0; slots = slots-facts _ _ p.1 }

-- S, the second of the five, stands behind the primary's
parts : (a b c d e : Bool) → a && b && c && d && e ≡ a && c && d && b && e
parts true true c d e = rw (and-true (c && d))
parts true false c d e = rw (and-false (c && d))
parts false b c d e = refl

module _ (g : Settings) where
  -- the settings that start is told: the primary's, S and T
  pub settings-parts : settings_ok g ≡ (primary_settings_ok (of_primary g) && block_slots_ok g.b g.s && patience_ok g.t)
  unfolding settings_ok primary_settings_ok
  settings-parts = parts (shared_ok g.u g.m g.d g.b) (block_slots_ok g.b g.s) (held_bytes_ok g.q) (stream_ok g.u g.m g.b g.l) (patience_ok g.t)

  pub settings-facts : settings_ok g ≡ true → SettingsFacts g
  settings-facts e =
      let p = both _ _ (sym settings-parts ∙ e) in
      let q = both _ _ p.0 in
      let f = primary-settings-facts (of_primary g) q.0 in
      let t = within-facts 1 60000 g.t p.1 in
      record { shared = f.shared; slots = slots-facts _ _ q.1; stream = f.stream; t-low = t.0; t-high = t.1 }

-- ---- what the ends keep of settings in their ranges is in its ranges
module _ (g : Settings) (e : settings_ok g ≡ true) where
  pub primary-of-settings : primary_settings_ok (of_primary g) ≡ true
  primary-of-settings = (both _ _ (both _ _ (sym (settings-parts g) ∙ e)).0).0

  pub standby-of-settings : standby_settings_ok (of_standby g) ≡ true
  unfolding settings_ok standby_settings_ok
  standby-of-settings = (both _ _ (both _ _ (both _ _ e).0).0).0

-- ---- the least length of the stream

-- the bytes of each kind that a checkpoint sends
pub block-record : (u : ℕ) → record_length u BLOCK ≡ u + 10
unfolding record_length body_length
block-record u = omega arith

pub state-commit-records : (u : ℕ) (wide : Bool) → record_length u STATE + record_length u (commit_kind wide) ≡ 72 + counts_end wide
unfolding record_length body_length
state-commit-records u wide = omega (arith, commit-length u wide)

pub least-stream : (u m b : ℕ) → least_stream u m b ≡ m * (u + number_end (is_wide m)) + b * (u + 10) + (72 + counts_end (is_wide m))
unfolding least_stream
least-stream u m b = rw (page-length u (is_wide m), block-record u, state-commit-records u (is_wide m))

-- document 01's form, and document 02's
pub least-stream-narrow : (u m b : ℕ) → m ≤ 4096 → least_stream u m b ≡ m * (u + 10) + b * (u + 10) + 84
least-stream-narrow u m b h = least-stream u m b ∙ rw (narrow-of m h)

pub least-stream-wide : (u m b : ℕ) → 4096 < m → least_stream u m b ≡ m * (u + 12) + b * (u + 10) + 88
least-stream-wide u m b h = least-stream u m b ∙ rw (wide_of m h)

-- ---- lengths in bytes, far below 2 ^ 64
pub bytes_le : (most u n : ℕ) → u ≤ 4096 → n ≤ most → n * u ≤ most * 4096
bytes_le most u n h k = mul-le-mul k h

-- memory, and the staged pages
pub memory-bytes : {u m d b : ℕ} → SharedFacts u m d b → m * u ≤ 65536 * 4096
memory-bytes f = bytes_le 65536 _ _ f.u-high f.m-high

-- the disk
pub disk-bytes : {u m d b : ℕ} → SharedFacts u m d b → d * u ≤ 4096 * 4096
disk-bytes f = bytes_le 4096 _ _ f.u-high f.d-high

-- the staged blocks
pub slots-bytes : {u m d b s : ℕ} → SharedFacts u m d b → SlotsFacts b s → s * u ≤ 64 * 4096
slots-bytes f g = bytes_le 64 _ _ f.u-high g.s-high

-- the lower end of L: the largest is about half of its upper end
pub least-stream-le : (u m b : ℕ) (wide : Bool) → u ≤ 4096 → m ≤ 65536 → b ≤ 64
    → m * (u + number_end wide) + b * (u + 10) + (72 + counts_end wide) ≤ 65536 * 4108 + 64 * 4106 + 88
least-stream-le u m b wide h j k =
    let w = width-range wide in
    let r : u + number_end wide ≤ 4108 = omega arith in
    let q : u + 10 ≤ 4106 = omega arith in
    omega (arith, mul-le-mul j r, mul-le-mul k q)
