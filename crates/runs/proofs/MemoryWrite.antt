-- An accepted memory write at the primary keeps the invariant. Assumes nothing.
use Prim.Native.Nat.{ℕ, ◌+◌, ◌*◌, ◌/◌, ◌≤◌, ◌<◌}
use mathlib.Core.Path.{◌≡◌, sym, ap, ◌∙◌, subst}
use mathlib.Core.List.{List}
use native.Mathlib.Omega.{arith}
use lib.ListN.{length}
use borrow.Author.Tests.{eq-eqb}
use Rattle.lists.specs.Part.{put}
use Rattle.lists.proofs.PartLaws.{length-put}
use Rattle.lists.proofs.PageLaws.{page-end}
use Rattle.settings.specs.declared.Settings.{Settings}
use Rattle.marks.specs.Mark.{with_mark}
use Rattle.marks.proofs.MarkLaws.{words-cover, length-with_mark}
use Rattle.pages.proofs.CleanLaws.{clean-write}
use Rattle.pages.specs.Write.{written}
use Rattle.rules.specs.PrimaryWrites.{memory_write_reply, memory_write_memory, memory_write_dirty}
use Rattle.rules.specs.World as call
use Rattle.rules.specs.Step.{at_primary, step}
use Rattle.rules.proofs.WriteLaws.{MemoryWriteRoom, memory-write-accepted}
use Rattle.runs.specs.Plain.{with_images, plain_accepted, plain_step}
use Rattle.runs.specs.Run.{Both, steps, run_call}
use Rattle.runs.proofs.Invariant.{Inv}
use Rattle.runs.proofs.KeptLaws.{primary-u, primary-m}
use Rattle.runs.proofs.Frame.{Accepted, KeepsAccepted}

module _ (page offset : ℕ) (bytes : List ℕ) where
  -- the pair after it; v is the primary's U and u start's
  abbrev pub after : ℕ → ℕ → Both → Both
  after v u b =
      let p = b.world.primary in
      record {
        world = at_primary b.world (record {
          state = p.state;
          memory = written v p.memory page offset bytes;
          disk = p.disk;
          dirty = with_mark p.dirty page;
          held = p.held;
          stream = p.stream;
        });
        plain = with_images b.plain (written u b.plain.memory page offset bytes) b.plain.disk;
      }

  pub after_is : (u : ℕ) (b : Both) → Accepted b (call.memory_write page offset bytes)
      → run_call steps u b (call.memory_write page offset bytes) ≡ after b.world.primary.state.settings.u u b
  unfolding step memory_write_reply memory_write_memory memory_write_dirty plain_step plain_accepted
  after_is u b e = rw (eq-eqb _ _ e)

  facts : (b : Both) → Accepted b (call.memory_write page offset bytes) →
      let p = b.world.primary in
      MemoryWriteRoom p.state (length p.memory) (length p.dirty) page offset (length bytes)
  unfolding step memory_write_reply
  facts b e = let p = b.world.primary in memory-write-accepted p.state (length p.memory) (length p.dirty) page offset (length bytes) e

  module _ (g : Settings) (b : Both) (i : Inv g b) (below : page < g.m) (inside : offset + length bytes ≤ g.u) where
    fits : page * g.u + offset + length bytes ≤ length b.world.primary.memory
    fits = omega (arith, page-end page g.m g.u below, i.holds.primary_kept.memory)

    word : page / 64 < length b.world.primary.dirty
    word = rw i.holds.primary_kept.dirty (words-cover g.m page below)

    after-inv : Inv g (after g.u g.u b)
    unfolding written
    after-inv =
        let p = b.world.primary in
        let v = i.holds in
        let k = v.primary_kept in
        record {
          ghost = i.ghost;
          holds = record {
            history = v.history;
            link = v.link;
            images = record {
              memory_is = ap (λ (l : List ℕ). put l (page * g.u + offset) bytes) v.images.memory_is;
              disk_is = v.images.disk_is;
              size = v.images.size;
              clean = clean-write _ p.memory p.dirty g.u g.m page offset bytes k.memory below word inside v.images.clean;
              stored = v.images.stored;
            };
            detector = v.detector;
            packets = v.packets;
            taker = v.taker;
            primary_kept = record {
              settings = k.settings;
              patience = k.patience;
              reached = k.reached;
              memory = length-put p.memory (page * g.u + offset) bytes fits ∙ k.memory;
              disk = k.disk;
              dirty = length-with_mark p.dirty page ∙ k.dirty;
              held = k.held;
              stream = k.stream;
            };
            standby_kept = v.standby_kept;
          };
        }

pub memory-write-keeps : (g : Settings) (page offset : ℕ) (bytes : List ℕ) → KeepsAccepted g (call.memory_write page offset bytes)
memory-write-keeps g page offset bytes b i e =
    let k = i.holds.primary_kept in
    let f = facts page offset bytes b e in
    let m = primary-m g b.world.primary k in
    let u = primary-u g b.world.primary k in
    subst (Inv g) (sym (after_is page offset bytes g.u b e ∙ ap (λ (v : ℕ). after page offset bytes v g.u b) u))
    (after-inv page offset bytes g b i (omega (arith, f.below)) (omega (arith, f.inside)))
