-- An accepted PAGE, BLOCK or STATE keeps the invariant. Assumes nothing.
use Prim.Native.Nat.{ℕ, ◌+◌, ◌*◌, ◌/◌, ◌≤◌, ◌<◌}
use mathlib.Core.Path.{◌≡◌, sym, ap, ◌∙◌, subst}
use mathlib.Core.Bool.{true}
use mathlib.Core.List.{List, [], ◌∷◌, ◌++◌}
use native.Mathlib.Omega.{arith}
use lib.ListN.{length, take, drop}
use lib.Seq.{append_snoc}
use Rattle.lists.specs.Page.{with_page}
use Rattle.lists.proofs.PageLaws.{page-end, length-with-page}
use Rattle.records.specs.Kind.{is_wide}
use Rattle.records.specs.Message.{Message, encode, encode_all}
use Rattle.records.specs.Message as message
use Rattle.settings.specs.declared.Settings.{Settings}
use Rattle.settings.specs.declared.StandbySettings.{StandbySettings}
use Rattle.marks.specs.Mark.{with_mark}
use Rattle.marks.proofs.MarkLaws.{words-cover, length-with_mark}
use Rattle.staging.specs.Slot.{slot_for, with_block_bytes}
use Rattle.staging.specs.SlotList.{store_all}
use Rattle.staging.proofs.BlockLaws.{due-same, slot-fits, stage-fits}
use Rattle.staging.proofs.ListLaws.{due-with-block}
use Rattle.staging.proofs.AgainLaws.{store-with-block}
use Rattle.rules.specs.declared.Standby.{Standby}
use Rattle.rules.specs.StandbyState.{is_receiving, with_pages_next, with_pending_seen, with_no_ticks}
use Rattle.rules.specs.Read.{staged_state}
use Rattle.rules.specs.World.{StandbyEnd}
use Rattle.rules.proofs.JudgeLaws.{PageTests, BlockTests}
use Rattle.rules.proofs.StandbyFacts.{reset-reached}
use Rattle.rules.proofs.ReadLaws.{page-reached, block-reached, state-reached}
use Rattle.runs.specs.Plain.{Checkpoint}
use Rattle.runs.specs.Run.{Both}
use Rattle.runs.proofs.Effects.{effect, effects, effects-append, All, all_append, Before, Readable}
use Rattle.runs.proofs.Invariant.{Taker, StandbyKept, Inv}
use Rattle.runs.proofs.KeptLaws.{standby-m, standby-d, slots-few, slots-ok}
use Rattle.runs.proofs.StagedPages.{installed-more}

-- the standby after a record that is staged: this state with no tick counted
abbrev pub staged_end : StandbyEnd → Standby → List ℕ → List ℕ → List ℕ → StandbyEnd
staged_end e s pages marks blocks =
    record { state = with_no_ticks s; memory = e.memory; disk = e.disk; staged_pages = pages; staged_marks = marks; staged_blocks = blocks; area = e.area }

-- the pair after it: `used` bytes leave the link
abbrev pub staged_after : Both → StandbyEnd → ℕ → Both
staged_after b e used =
    record { world = record { primary = b.world.primary; standby = e; link = drop used b.world.link; acks = b.world.acks }; plain = b.plain }

-- the next record sent, and what lies behind it
pub record Next (g : Settings) (b : Both) (i : Inv g b) (x : Message) (xs : List Message) : Type 0 where
  pub first : i.ghost.pending ≡ x ∷ xs
  pub behind : drop (length (encode (is_wide g.m) x)) b.world.link ++ (take b.world.primary.state.waiting b.world.primary.stream ++ i.ghost.lost) ≡ encode_all (is_wide g.m) xs
  pub before : Before x
  pub fits : message.Fits g.u (is_wide g.m) x
  pub receives : is_receiving b.world.standby.state.mode ≡ true

module _ (g : Settings) (b : Both) (i : Inv g b) where
  -- every group but those of the standby
  module _ (x : Message) (xs : List Message) (n : Next g b i x xs) where
    pub staged-inv : (e : StandbyEnd) → Taker g.u g.m e b.plain.activated b.plain.standby_memory b.plain.standby_disk i.ghost.base (i.ghost.consumed ++ (x ∷ [])) b.plain.r
        → StandbyKept g e → Inv g (staged_after b e (length (encode (is_wide g.m) x)))
    staged-inv e t k =
        let v = i.holds in
        let h = i.ghost in
        let readable : All (Readable g.u (is_wide g.m)) (x ∷ xs) = subst (All (Readable g.u (is_wide g.m))) n.first v.link.readable in
        record {
          ghost = record { base = h.base; ahead = h.ahead; opened = h.opened; consumed = h.consumed ++ (x ∷ []); pending = xs; lost = h.lost; acks = h.acks };
          holds = record {
            history = v.history;
            link = record {
              records = append_snoc h.consumed x xs ∙ ap (λ (l : List Message). h.consumed ++ l) (sym n.first) ∙ v.link.records;
              bytes = n.behind;
              lossless = v.link.lossless;
              readable = readable.1;
              consumed_before = all_append Before h.consumed (x ∷ []) v.link.consumed_before (n.before, tt);
              ahead_before = v.link.ahead_before;
              opened_before = v.link.opened_before;
            };
            images = v.images;
            detector = v.detector;
            packets = v.packets;
            taker = t;
            primary_kept = v.primary_kept;
            standby_kept = k;
          };
        }

    -- what the records consumed do, with this one
    done : effects g.u i.ghost.base (i.ghost.consumed ++ (x ∷ [])) ≡ effect g.u (effects g.u i.ghost.base i.ghost.consumed) x
    done = effects-append g.u i.ghost.base i.ghost.consumed (x ∷ [])

    memory_done : (effect g.u (effects g.u i.ghost.base i.ghost.consumed) x).memory ≡ (effects g.u i.ghost.base (i.ghost.consumed ++ (x ∷ []))).memory
    memory_done = ap (λ (c : Checkpoint). c.memory) (sym done)

    disk-done : (effect g.u (effects g.u i.ghost.base i.ghost.consumed) x).disk ≡ (effects g.u i.ghost.base (i.ghost.consumed ++ (x ∷ []))).disk
    disk-done = ap (λ (c : Checkpoint). c.disk) (sym done)

    processor-done : (effect g.u (effects g.u i.ghost.base i.ghost.consumed) x).processor ≡ (effects g.u i.ghost.base (i.ghost.consumed ++ (x ∷ []))).processor
    processor-done = ap (λ (c : Checkpoint). c.processor) (sym done)

  -- ---- PAGE
  abbrev pub page_end : ℕ → ℕ → List ℕ → StandbyEnd
  page_end v p bs =
      let e = b.world.standby in
      staged_end e (with_pages_next e.state (e.state.pages + 1) (p + 1)) (with_page v e.staged_pages p bs) (with_mark e.staged_marks p) e.staged_blocks

  pub page-inv : (epoch p : ℕ) (bs : List ℕ) (xs : List Message) → Next g b i (message.page epoch p bs) xs → PageTests b.world.standby.state epoch p
      → Inv g (staged_after b (page_end g.u p bs) (length (encode (is_wide g.m) (message.page epoch p bs))))
  page-inv epoch p bs xs n f =
      let x = message.page epoch p bs in
      let e = b.world.standby in
      let s = e.state in
      let t = i.holds.taker in
      let k = i.holds.standby_kept in
      let below : p < g.m = omega (arith, f.page-low, standby-m g e k) in
      let whole : length bs ≡ g.u = n.fits.2 in
      let inside : p * g.u + g.u ≤ length e.staged_pages = omega (arith, page-end p g.m g.u below, k.staged_pages) in
      let word : p / 64 < length e.staged_marks = rw k.staged_marks (words-cover g.m p below) in
      staged-inv x xs n (page_end g.u p bs)
      (record {
        received_is = t.received_is;
        mode_is = t.mode_is;
        processor_is = t.processor_is;
        memory_is = t.memory_is;
        disk_is = t.disk_is;
        staged_memory = λ z.
            installed-more e.memory e.staged_pages e.staged_marks g.u g.m k.memory k.staged_pages p bs below word whole
            ∙ ap (λ (l : List ℕ). with_page g.u l p bs) (t.staged_memory z)
            ∙ memory_done x xs n;
        staged_disk = λ z. t.staged_disk z ∙ disk-done x xs n;
        staged_processor = λ z y. t.staged_processor z y ∙ processor-done x xs n;
        active_memory = t.active_memory;
        active_disk = t.active_disk;
        settled = t.settled;
        area_is = t.area_is;
      })
      (record {
        settings = k.settings;
        patience = k.patience;
        reached = reset-reached _ (page-reached s k.reached epoch p f);
        memory = k.memory;
        disk = k.disk;
        staged_pages = length-with-page g.u p e.staged_pages bs whole inside ∙ k.staged_pages;
        staged_marks = length-with_mark e.staged_marks p ∙ k.staged_marks;
        staged_blocks = k.staged_blocks;
        area = k.area;
      })

  -- ---- BLOCK
  abbrev pub block_end : ℕ → ℕ → List ℕ → StandbyEnd
  block_end v n bs =
      let e = b.world.standby in
      staged_end e (staged_state e.state n) e.staged_pages e.staged_marks (with_block_bytes v e.state.slots n e.staged_blocks bs)

  pub block-inv : (epoch m : ℕ) (bs : List ℕ) (xs : List Message) → Next g b i (message.block epoch m bs) xs → BlockTests b.world.standby.state epoch m
      → Inv g (staged_after b (block_end g.u m bs) (length (encode (is_wide g.m) (message.block epoch m bs))))
  unfolding with_block_bytes
  block-inv epoch m bs xs n f =
      let x = message.block epoch m bs in
      let e = b.world.standby in
      let s = e.state in
      let t = i.holds.taker in
      let k = i.holds.standby_kept in
      let r = k.reached in
      let few = slots-few g e k in
      let ok = slots-ok g e k in
      let array = r.range.numbers in
      let whole : length bs ≡ g.u = n.fits.2 in
      let size = ap (λ (y : StandbySettings). y.s) k.settings in
      let below : m < g.d = omega (arith, f.block-low, standby-d g e k) in
      let low = slot-fits s.slots m g.s g.d array few ok (λ z. omega (arith, f.slot-free z)) in
      let fits = stage-fits s.slots m g.s g.d array few ok low in
      let room : slot_for s.slots m * g.u + g.u ≤ length e.staged_blocks = omega (arith, page-end (slot_for s.slots m) g.s g.u low, k.staged_blocks) in
      staged-inv x xs n (block_end g.u m bs)
      (record {
        received_is = t.received_is;
        mode_is = t.mode_is;
        processor_is = t.processor_is;
        memory_is = t.memory_is;
        disk_is = λ z. ap (store_all g.u e.disk) (due-with-block g.u s.slots e.staged_blocks m bs array fits whole room) ∙ t.disk_is z;
        staged_memory = λ z. t.staged_memory z ∙ memory_done x xs n;
        staged_disk = λ z.
            store-with-block g.u g.d m bs below whole e.disk k.disk s.slots g.s e.staged_blocks array few ok k.staged_blocks r.different low
            ∙ ap (λ (l : List ℕ). with_page g.u l m bs) (t.staged_disk z)
            ∙ disk-done x xs n;
        staged_processor = λ z y. t.staged_processor z y ∙ processor-done x xs n;
        active_memory = t.active_memory;
        active_disk = t.active_disk;
        settled = λ z. due-same s.slots m ∙ t.settled z;
        area_is = t.area_is;
      })
      (record {
        settings = k.settings;
        patience = k.patience;
        reached = reset-reached _ (block-reached s r epoch m f);
        memory = k.memory;
        disk = k.disk;
        staged_pages = k.staged_pages;
        staged_marks = k.staged_marks;
        staged_blocks = length-with-page g.u (slot_for s.slots m) e.staged_blocks bs whole room ∙ k.staged_blocks;
        area = k.area;
      })

  -- ---- STATE
  abbrev pub state_end : List ℕ → StandbyEnd
  state_end bs = let e = b.world.standby in staged_end e (with_pending_seen e.state bs) e.staged_pages e.staged_marks e.staged_blocks

  pub state-inv : (epoch : ℕ) (bs : List ℕ) (xs : List Message) → Next g b i (message.state epoch bs) xs
      → Inv g (staged_after b (state_end bs) (length (encode (is_wide g.m) (message.state epoch bs))))
  state-inv epoch bs xs n =
      let x = message.state epoch bs in
      let e = b.world.standby in
      let s = e.state in
      let t = i.holds.taker in
      let k = i.holds.standby_kept in
      staged-inv x xs n (state_end bs)
      (record {
        received_is = t.received_is;
        mode_is = t.mode_is;
        processor_is = t.processor_is;
        memory_is = t.memory_is;
        disk_is = t.disk_is;
        staged_memory = λ z. t.staged_memory z ∙ memory_done x xs n;
        staged_disk = λ z. t.staged_disk z ∙ disk-done x xs n;
        staged_processor = λ z y. processor-done x xs n;
        active_memory = t.active_memory;
        active_disk = t.active_disk;
        settled = t.settled;
        area_is = t.area_is;
      })
      (record {
        settings = k.settings;
        patience = k.patience;
        reached = reset-reached _ (state-reached s k.reached bs n.fits.1);
        memory = k.memory;
        disk = k.disk;
        staged_pages = k.staged_pages;
        staged_marks = k.staged_marks;
        staged_blocks = k.staged_blocks;
        area = k.area;
      })
