-- An accepted write of the guest at an active standby keeps the invariant. Assumes nothing.
use Prim.Native.Nat.{ℕ, ◌+◌, ◌*◌, ◌≤◌, ◌<◌}
use mathlib.Core.Path.{◌≡◌, sym, ap, ◌∙◌, subst}
use mathlib.Core.Bool.{true, true≢false}
use mathlib.Core.List.{List}
use native.Mathlib.Omega.{arith}
use lib.ListN.{length}
use borrow.Author.Tests.{eq-eqb}
use Rattle.lists.specs.Part.{put}
use Rattle.lists.specs.Page.{with_page}
use Rattle.lists.proofs.PartLaws.{length-put}
use Rattle.lists.proofs.PageLaws.{page-end, length-with-page}
use Rattle.settings.specs.declared.Settings.{Settings}
use Rattle.pages.specs.Write.{written}
use Rattle.rules.specs.StandbyState.{is_receiving, is_active}
use Rattle.rules.specs.Takeover.{active_memory_write_reply, active_memory_write_memory, active_disk_write_reply, active_disk_write_disk}
use Rattle.rules.specs.World as call
use Rattle.rules.specs.Step.{at_standby, step}
use Rattle.rules.proofs.TakeoverLaws.{ActiveMemoryWriteAccepted, active-memory-write-accepted, ActiveDiskWriteAccepted, active-disk-write-accepted}
use Rattle.runs.specs.Plain.{with_activated_standby_images, plain_accepted, plain_step}
use Rattle.runs.specs.Run.{Both, steps, run_call}
use Rattle.runs.proofs.Invariant.{Inv}
use Rattle.runs.proofs.KeptLaws.{standby-u, standby-m, standby-d, standby-inv}
use Rattle.runs.proofs.ModeLaws.{receiving-not-active}
use Rattle.runs.proofs.Frame.{Accepted, KeepsAccepted}

-- ---- the standby's images and the plain standby's, replaced
abbrev after : List ℕ → List ℕ → List ℕ → List ℕ → Both → Both
after memory disk memory' disk' b =
    let e = b.world.standby in
    record {
      world = at_standby b.world (record { state = e.state; memory = memory; disk = disk; staged_pages = e.staged_pages; staged_marks = e.staged_marks; staged_blocks = e.staged_blocks; area = e.area });
      plain = with_activated_standby_images b.plain b.plain.activated memory' disk';
    }

images-inv : (g : Settings) (b : Both) (memory disk memory' disk' : List ℕ) → is_active b.world.standby.state.mode ≡ true → memory ≡ memory' → disk ≡ disk'
    → length memory ≡ g.m * g.u → length disk ≡ g.d * g.u → Inv g b → Inv g (after memory disk memory' disk' b)
images-inv g b memory disk memory' disk' on em ed lm ld i =
    let k = i.holds.standby_kept in
    let t = i.holds.taker in
    let is : b.plain.activated ≡ true = sym t.mode_is ∙ on in
    let not : is_receiving b.world.standby.state.mode ≡ true → ⊥ = λ z. true≢false (sym on ∙ receiving-not-active b.world.standby.state.mode z) in
    standby-inv g b i (after memory disk memory' disk' b).world.standby b.plain.activated memory' disk'
    (record {
      received_is = t.received_is;
      mode_is = t.mode_is;
      processor_is = t.processor_is;
      memory_is = λ z. absurd (true≢false (sym is ∙ z));
      disk_is = λ z. absurd (true≢false (sym is ∙ z));
      staged_memory = λ z. absurd (not z);
      staged_disk = λ z. absurd (not z);
      staged_processor = λ z. absurd (not z);
      active_memory = λ z. em;
      active_disk = λ z. ed;
      settled = t.settled;
      area_is = t.area_is;
    })
    (record {
      settings = k.settings;
      patience = k.patience;
      reached = k.reached;
      memory = lm;
      disk = ld;
      staged_pages = k.staged_pages;
      staged_marks = k.staged_marks;
      staged_blocks = k.staged_blocks;
      area = k.area;
    })

-- ---- memory write
module _ (page offset : ℕ) (bytes : List ℕ) where
  abbrev pub after_memory : ℕ → ℕ → Both → Both
  after_memory v u b =
      let e = b.world.standby in
      after (written v e.memory page offset bytes) e.disk (written u b.plain.standby_memory page offset bytes) b.plain.standby_disk b

  pub after-memory : (u : ℕ) (b : Both) → Accepted b (call.active_memory_write page offset bytes)
      → run_call steps u b (call.active_memory_write page offset bytes) ≡ after_memory b.world.standby.state.settings.u u b
  unfolding step active_memory_write_reply active_memory_write_memory plain_step plain_accepted
  after-memory u b e = rw (eq-eqb _ _ e)

  facts-memory : (b : Both) → Accepted b (call.active_memory_write page offset bytes) → ActiveMemoryWriteAccepted b.world.standby.state (length b.world.standby.memory) page offset (length bytes)
  unfolding step active_memory_write_reply
  facts-memory b e = active-memory-write-accepted b.world.standby.state (length b.world.standby.memory) page offset (length bytes) e

  memory-inv : (g : Settings) (b : Both) → Inv g b → is_active b.world.standby.state.mode ≡ true → page < g.m → offset + length bytes ≤ g.u → Inv g (after_memory g.u g.u b)
  unfolding written
  memory-inv g b i on below inside =
      let e = b.world.standby in
      let t = i.holds.taker in
      let k = i.holds.standby_kept in
      let at = page * g.u + offset in
      let fits : at + length bytes ≤ length e.memory = omega (arith, page-end page g.m g.u below, k.memory) in
      let is : b.plain.activated ≡ true = sym t.mode_is ∙ on in
      images-inv g b (put e.memory at bytes) e.disk (put b.plain.standby_memory at bytes) b.plain.standby_disk on
      (ap (λ (l : List ℕ). put l at bytes) (t.active_memory is)) (t.active_disk is) (length-put e.memory at bytes fits ∙ k.memory) k.disk i

pub active-memory-write-keeps : (g : Settings) (page offset : ℕ) (bytes : List ℕ) → KeepsAccepted g (call.active_memory_write page offset bytes)
active-memory-write-keeps g page offset bytes b i e =
    let k = i.holds.standby_kept in
    let f = facts-memory page offset bytes b e in
    let u = standby-u g b.world.standby k in
    let m = standby-m g b.world.standby k in
    subst (Inv g) (sym (after-memory page offset bytes g.u b e ∙ ap (λ (v : ℕ). after_memory page offset bytes v g.u b) u))
    (memory-inv page offset bytes g b i f.active (omega (arith, f.page_below)) (omega (arith, f.inside)))

-- ---- disk write
module _ (block : ℕ) (bytes : List ℕ) where
  abbrev pub after_disk : ℕ → ℕ → Both → Both
  after_disk v u b =
      let e = b.world.standby in
      after e.memory (with_page v e.disk block bytes) b.plain.standby_memory (with_page u b.plain.standby_disk block bytes) b

  pub after-disk : (u : ℕ) (b : Both) → Accepted b (call.active_disk_write block bytes)
      → run_call steps u b (call.active_disk_write block bytes) ≡ after_disk b.world.standby.state.settings.u u b
  unfolding step active_disk_write_reply active_disk_write_disk plain_step plain_accepted
  after-disk u b e = rw (eq-eqb _ _ e)

  facts-disk : (b : Both) → Accepted b (call.active_disk_write block bytes) → ActiveDiskWriteAccepted b.world.standby.state (length b.world.standby.disk) block (length bytes)
  unfolding step active_disk_write_reply
  facts-disk b e = active-disk-write-accepted b.world.standby.state (length b.world.standby.disk) block (length bytes) e

  disk-inv : (g : Settings) (b : Both) → Inv g b → is_active b.world.standby.state.mode ≡ true → block < g.d → length bytes ≡ g.u → Inv g (after_disk g.u g.u b)
  disk-inv g b i on below whole =
      let e = b.world.standby in
      let t = i.holds.taker in
      let k = i.holds.standby_kept in
      let fits : block * g.u + g.u ≤ length e.disk = omega (arith, page-end block g.d g.u below, k.disk) in
      let is : b.plain.activated ≡ true = sym t.mode_is ∙ on in
      images-inv g b e.memory (with_page g.u e.disk block bytes) b.plain.standby_memory (with_page g.u b.plain.standby_disk block bytes) on
      (t.active_memory is) (ap (λ (l : List ℕ). with_page g.u l block bytes) (t.active_disk is)) k.memory (length-with-page g.u block e.disk bytes whole fits ∙ k.disk) i

pub active-disk-write-keeps : (g : Settings) (block : ℕ) (bytes : List ℕ) → KeepsAccepted g (call.active_disk_write block bytes)
active-disk-write-keeps g block bytes b i e =
    let k = i.holds.standby_kept in
    let f = facts-disk block bytes b e in
    let u = standby-u g b.world.standby k in
    let d = standby-d g b.world.standby k in
    subst (Inv g) (sym (after-disk block bytes g.u b e ∙ ap (λ (v : ℕ). after_disk block bytes v g.u b) u))
    (disk-inv block bytes g b i f.active (omega (arith, f.block_below)) (omega (arith, f.size)))
