-- What the kept settings and lengths of the two ends give, in start's settings, and calls that change only the standby. Assumes nothing.
use Prim.Native.Nat.{ℕ, ◌*◌, ◌≤◌}
use mathlib.Core.Path.{◌≡◌, sym, ap, ◌∙◌, subst}
use mathlib.Core.Bool.{Bool, true}
use mathlib.Core.List.{List}
use native.Mathlib.Omega.{arith}
use lib.ListN.{length}
use lib.Seq.{length-take-le}
use Rattle.records.specs.Kind.{unit_ok}
use Rattle.settings.specs.declared.Settings.{Settings}
use Rattle.settings.specs.declared.PrimarySettings.{PrimarySettings}
use Rattle.settings.specs.declared.StandbySettings.{StandbySettings}
use Rattle.settings.specs.Range.{of_primary, of_standby, most_slots}
use Rattle.settings.proofs.RangeLaws.{shared-unit, PrimarySettingsFacts, StandbySettingsFacts}
use Rattle.marks.specs.Mark.{words_for}
use Rattle.staging.specs.Slot.{slots_ok, fresh_numbers}
use Rattle.staging.specs.Fits.{FlushFits}
use Rattle.staging.proofs.BlockLaws.{count-fresh}
use Rattle.rules.specs.PrimaryState.{written_numbers}
use Rattle.rules.specs.StandbyState.{memory_length, disk_length, slots_length, marks_length}
use Rattle.rules.specs.World.{PrimaryEnd, StandbyEnd}
use Rattle.rules.specs.Step.{at_standby}
use Rattle.rules.proofs.PrimaryFacts.{primary-facts}
use Rattle.rules.proofs.StandbyFacts.{StandbyFacts, standby-tests, standby-facts}
use Rattle.rules.proofs.FlushLaws.{flush-room}
use Rattle.runs.specs.Plain.{with_activated_standby_images}
use Rattle.runs.specs.Run.{Both}
use Rattle.runs.proofs.Invariant.{Taker, PrimaryKept, StandbyKept, Inv}

module _ (g : Settings) (p : PrimaryEnd) (k : PrimaryKept g p) where
  pub primary-u : p.state.settings.u ≡ g.u
  primary-u = ap (λ (x : PrimarySettings). x.u) k.settings

  pub primary-m : p.state.settings.m ≡ g.m
  primary-m = ap (λ (x : PrimarySettings). x.m) k.settings

  pub primary-d : p.state.settings.d ≡ g.d
  primary-d = ap (λ (x : PrimarySettings). x.d) k.settings

  -- "Lent lengths are exact", in the state's own settings
  pub lent-primary-memory : length p.memory ≡ p.state.settings.m * p.state.settings.u
  lent-primary-memory = k.memory ∙ ap (λ (x : PrimarySettings). x.m * x.u) (sym k.settings)

  pub lent-held : length p.held ≡ p.state.settings.q
  lent-held = k.held ∙ ap (λ (x : PrimarySettings). x.q) (sym k.settings)

  pub lent-stream : length p.stream ≡ p.state.settings.l
  lent-stream = k.stream ∙ ap (λ (x : PrimarySettings). x.l) (sym k.settings)

  pub primary-settings : PrimarySettingsFacts (of_primary g)
  primary-settings = subst PrimarySettingsFacts k.settings (primary-facts p.state k.reached.range.in_range).settings

  -- the numbers remembered are as many as the blocks counted
  pub written_count : length (written_numbers p.state) ≡ p.state.blocks
  written_count =
      let f = primary-facts p.state k.reached.range.in_range in
      length-take-le p.state.blocks p.state.numbers (omega (arith, f.blocks, f.settings.shared.b-high, k.reached.range.numbers))

module _ (g : Settings) (s : StandbyEnd) (k : StandbyKept g s) where
  pub standby-u : s.state.settings.u ≡ g.u
  standby-u = ap (λ (x : StandbySettings). x.u) k.settings

  pub standby-m : s.state.settings.m ≡ g.m
  standby-m = ap (λ (x : StandbySettings). x.m) k.settings

  pub standby-d : s.state.settings.d ≡ g.d
  standby-d = ap (λ (x : StandbySettings). x.d) k.settings

  -- "Lent lengths are exact", in the state's own settings
  pub lent-memory : length s.memory ≡ memory_length s.state
  lent-memory = k.memory ∙ ap (λ (x : StandbySettings). x.m * x.u) (sym k.settings)

  pub lent-disk : length s.disk ≡ disk_length s.state
  lent-disk = k.disk ∙ ap (λ (x : StandbySettings). x.d * x.u) (sym k.settings)

  pub lent-pages : length s.staged_pages ≡ memory_length s.state
  lent-pages = k.staged_pages ∙ ap (λ (x : StandbySettings). x.m * x.u) (sym k.settings)

  pub lent-marks : length s.staged_marks ≡ marks_length s.state
  lent-marks = k.staged_marks ∙ ap (λ (x : StandbySettings). words_for x.m) (sym k.settings)

  pub lent-blocks : length s.staged_blocks ≡ slots_length s.state
  lent-blocks = k.staged_blocks ∙ ap (λ (x : StandbySettings). x.s * x.u) (sym k.settings)

  pub standby-ranges : StandbyFacts s.state
  standby-ranges = standby-facts s.state k.reached.range.in_range

  pub standby-settings : StandbySettingsFacts (of_standby g)
  standby-settings = subst StandbySettingsFacts k.settings standby-ranges.settings

  pub standby-unit : unit_ok g.u ≡ true
  standby-unit = shared-unit standby-settings.shared

  pub slots-few : g.s ≤ most_slots
  slots-few = standby-settings.slots.s-high

  pub slots-ok : slots_ok s.state.slots g.s g.d ≡ true
  slots-ok = subst (λ (x : StandbySettings). slots_ok s.state.slots x.s x.d ≡ true) k.settings (standby-tests s.state k.reached.range.in_range).slots-ok

  -- the blocks counted are as many as the epoch's slots
  pub staged-few : s.state.slots.staged ≤ most_slots
  staged-few = omega (arith, standby-ranges.slots.staged-high, standby-ranges.settings.slots.s-high)

  pub fresh-count : length (fresh_numbers s.state.slots) ≡ s.state.blocks
  fresh-count = count-fresh s.state.slots k.reached.range.numbers staged-few ∙ sym k.reached.not_due

  -- the staged blocks stand in their buffer, and those due on the disk
  pub slots-fit : FlushFits g.u s.state.slots (length s.staged_blocks) (length s.disk)
  slots-fit =
      subst (λ (u : ℕ). FlushFits u s.state.slots (length s.staged_blocks) (length s.disk)) standby-u
      (flush-room s.state (length s.staged_blocks) (length s.disk) k.reached.range.numbers (record { in_range = k.reached.range.in_range; slots_lent = lent-blocks; disk_lent = lent-disk }))

-- ---- a call that changes only the standby, and the plain standby with it: of the invariant the two groups about it are to be shown
pub standby-inv : (g : Settings) (b : Both) (i : Inv g b) (s : StandbyEnd) (activated : Bool) (memory disk : List ℕ)
    → Taker g.u g.m s activated memory disk i.ghost.base i.ghost.consumed b.plain.r → StandbyKept g s
    → Inv g (record { world = at_standby b.world s; plain = with_activated_standby_images b.plain activated memory disk })
standby-inv g b i s activated memory disk t k =
    let v = i.holds in
    record {
      ghost = i.ghost;
      holds = record { history = v.history; link = v.link; images = v.images; detector = v.detector; packets = v.packets; taker = t; primary_kept = v.primary_kept; standby_kept = k };
    }
