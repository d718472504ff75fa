-- After an accepted start the invariant holds. Assumes nothing.
use Prim.Native.Nat.{ℕ, zero, suc, ◌<◌}
use mathlib.Core.Path.{◌≡◌, refl, sym, ap, ◌∙◌, subst}
use mathlib.Core.Bool.{false≢true}
use mathlib.Core.List.{List, [], ◌∷◌}
use native.Mathlib.Omega.{arith}
use lib.ListN.{get_or, replicate}
use borrow.Author.Tests.{eq-eqb, lt-leb}
use Rattle.records.specs.Area.{area_length}
use Rattle.records.proofs.AreaLaws.{area-zero}
use Rattle.lists.specs.Select.{selected}
use Rattle.settings.specs.declared.Settings.{Settings}
use Rattle.settings.proofs.RangeLaws.{settings-facts}
use Rattle.marks.specs.Mark.{cleared}
use Rattle.marks.proofs.MarkLaws.{length-cleared}
use Rattle.pages.proofs.CleanLaws.{clean-clear}
use Rattle.queue.specs.HeldList.{Held}
use Rattle.queue.proofs.HeldLaws.{held-empty}
use Rattle.staging.specs.SlotList.{staged_from, slot_list, due_list, store_all}
use Rattle.rules.specs.Choose.{area_choice}
use Rattle.rules.specs.Start.{opened_primary, opened_standby, started, start_copy, start_marks, start_area}
use Rattle.rules.specs.World.{Processor, Buffers, start_lent, start_number, start_world}
use Rattle.rules.proofs.StartLaws.{StartFacts, start-accepted, opened-primary, opened-standby}
use Rattle.runs.specs.Plain.{Checkpoint, of_port, no_checkpoint, plain_start}
use Rattle.runs.specs.Run.{Both, start_both}
use Rattle.runs.proofs.FirstLaws.{FirstOf}
use Rattle.runs.proofs.Invariant.{PortPackets, Inv}
use Rattle.runs.proofs.StagedPages.{installed-none}
use Rattle.runs.proofs.Frame.{StartLaw}

-- ---- the pair that is started
abbrev pub begun : Settings → Processor → Buffers → Both
begun g processor b =
    record {
      world = record {
        primary = record { state = opened_primary g; memory = b.memory; disk = b.disk; dirty = cleared b.dirty g.m; held = b.held; stream = b.stream };
        standby = record {
          state = opened_standby g processor.bytes;
          memory = b.memory;
          disk = b.disk;
          staged_pages = b.staged_pages;
          staged_marks = cleared b.staged_marks g.m;
          staged_blocks = b.staged_blocks;
          area = replicate area_length 0;
        };
        link = [];
        acks = [];
      };
      plain = plain_start b.memory b.disk processor.bytes;
    }

pub begun-is : (g : Settings) (processor : Processor) (b : Buffers) → start_number g b ≡ 0 → start_both g processor b ≡ begun g processor b
unfolding start_world started start_copy start_marks start_area
begun-is g processor b e = rw (eq-eqb _ _ e)

module _ (g : Settings) (processor : Processor) (b : Buffers) (f : StartFacts g (start_lent b)) where
  abbrev zeroth : Checkpoint
  zeroth = record { memory = b.memory; disk = b.disk; processor = processor.bytes; packets = [] }

  first : (port j : ℕ) → j < 1 → FirstOf (of_port port (get_or (zeroth ∷ []) j no_checkpoint).packets) []
  unfolding selected
  first port zero h = ([], refl)
  first port (suc j) h = absurd (omega arith)

  packets : (port : ℕ) → PortPackets [] [] [] (zeroth ∷ []) port
  unfolding selected
  packets port = record { queued = refl; sum = refl; released = tt; unreleased = tt; first = first port }

  start-inv : Inv g (begun g processor b)
  unfolding store_all due_list slot_list staged_from
  start-inv =
      let l = f.lent in
      record {
        ghost = record { base = zeroth; ahead = []; opened = []; consumed = []; pending = []; lost = []; acks = [] };
        holds = record {
          history = record { from = refl; count = refl; high = omega arith };
          link = record { records = refl; bytes = refl; lossless = λ z. refl; readable = tt; consumed_before = tt; ahead_before = tt; opened_before = tt };
          images = record { memory_is = refl; disk_is = refl; size = l.memory-is; clean = clean-clear b.memory b.dirty g.u g.m; stored = λ z. refl };
          detector = record { acknowledged_is = refl; rising = omega arith; acks_are = refl; alone_is = sym (lt-leb g.t 0 (settings-facts g f.in_range).t-low); count_is = λ z. refl; quiet = λ z. refl };
          packets = subst (λ (h : List Held). (port : ℕ) → PortPackets h [] [] (zeroth ∷ []) port) (sym (held-empty b.held)) packets;
          taker = record {
            received_is = refl;
            mode_is = refl;
            processor_is = refl;
            memory_is = λ z. refl;
            disk_is = λ z. refl;
            staged_memory = λ z. installed-none b.memory b.staged_pages b.staged_marks g.u g.m l.memory-is l.pages-is;
            staged_disk = λ z. refl;
            staged_processor = λ z y. absurd (false≢true y);
            active_memory = λ z. absurd (false≢true z);
            active_disk = λ z. absurd (false≢true z);
            settled = λ z. refl;
            area_is = ap area_choice area-zero;
          };
          primary_kept = record {
            settings = refl;
            patience = refl;
            reached = opened-primary g f.in_range;
            memory = l.memory-is;
            disk = l.disk-is;
            dirty = length-cleared b.dirty g.m ∙ l.dirty-is;
            held = l.held-is;
            stream = l.stream-is;
          };
          standby_kept = record {
            settings = refl;
            patience = refl;
            reached = opened-standby g f.in_range processor.bytes processor.size;
            memory = l.memory-is;
            disk = l.disk-is;
            staged_pages = l.pages-is;
            staged_marks = length-cleared b.staged_marks g.m ∙ l.marks-is;
            staged_blocks = l.blocks_is;
            area = refl;
          };
        };
      }

pub start-law : (g : Settings) → StartLaw g
start-law g processor b e = subst (Inv g) (sym (begun-is g processor b e)) (start-inv g processor b (start-accepted g (start_lent b) e))
