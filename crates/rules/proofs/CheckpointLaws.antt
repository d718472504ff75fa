-- Laws of the checkpoint: what acceptance says and what it needs, how many bytes are appended, and that the ranges are kept. Assumes nothing.
use mathlib.Core.Path.{◌≡◌, refl, ◌∙◌}
use mathlib.Core.Bool.{Bool, true, false, ◌&&◌}
use mathlib.Core.List.{List, ◌++◌}
use Prim.Native.Nat.{ℕ, ◌+◌, ◌*◌, ◌≤◌, ◌<◌}
use native.Mathlib.Omega.{arith}
use lib.Dec.{eqb}
use lib.ListN.{length, length-append}
use borrow.Author.Tests.{leb-true, le-leb, ltb-true, lt-ltb, eqb-true, eq-eqb}
use Rattle.lists.proofs.TestLaws.{both, join, accepted, accepts}
use Rattle.records.specs.Kind.{is_wide, number_end, counts_end, processor_bytes}
use Rattle.records.specs.Write.{state_record, commit_record}
use Rattle.records.proofs.KindLaws.{page-length}
use Rattle.records.proofs.FrameLaws.{length-state, length-commit}
use Rattle.settings.specs.Range.{most_epoch}
use Rattle.settings.proofs.RangeLaws.{state-commit-records}
use Rattle.pages.specs.Dirty.{dirty_records}
use Rattle.pages.proofs.DirtyLaws.{length-dirty}
use Rattle.queue.proofs.QueueLaws.{queue-later}
use Rattle.rules.specs.declared.Primary.{Primary}
use Rattle.rules.specs.PrimaryState.{primary_ok, protected, memory_length, marks_length}
use Rattle.rules.specs.Checkpoint.{checkpoint_tests, dirty_count, checkpoint_length, checkpoint_bytes, checkpoint_refusal, checkpoint_state}
use Rattle.rules.specs.Reached.{PrimaryInRange, PrimaryReached}
use Rattle.rules.proofs.PrimaryFacts.{primary-facts, primary-of}

pub record CheckpointRoom (p : Primary) (memory dirty stream pages : ℕ) : Type 0 where
  pub ok : primary_ok p ≡ true
  pub memory-is : memory ≡ memory_length p
  pub dirty-is : dirty ≡ marks_length p
  pub stream-is : stream ≡ p.settings.l
  pub protects : protected p ≡ true
  pub room : p.waiting + checkpoint_length p.settings.u (is_wide p.settings.m) pages ≤ p.settings.l
  pub next : p.epoch < most_epoch

module _ (p : Primary) (memory dirty stream pages : ℕ) where
  pub checkpoint-accepted : checkpoint_refusal p memory dirty stream pages ≡ 0 → CheckpointRoom p memory dirty stream pages
  unfolding checkpoint_refusal
  checkpoint-accepted e =
      let h = accepted (checkpoint_tests p memory dirty stream pages) refl e in
      let s = both (primary_ok p && eqb memory (memory_length p) && eqb dirty (marks_length p)) (eqb stream p.settings.l) h.0 in
      let d = both (primary_ok p && eqb memory (memory_length p)) (eqb dirty (marks_length p)) s.0 in
      let m = both (primary_ok p) (eqb memory (memory_length p)) d.0 in
      record {
        ok = m.0;
        memory-is = eqb-true memory (memory_length p) m.1;
        dirty-is = eqb-true dirty (marks_length p) d.1;
        stream-is = eqb-true stream p.settings.l s.1;
        protects = h.1.0;
        room = leb-true (p.waiting + checkpoint_length p.settings.u (is_wide p.settings.m) pages) p.settings.l h.1.1.0;
        next = ltb-true p.epoch most_epoch h.1.1.1.0;
      }

  module _ (f : CheckpointRoom p memory dirty stream pages) where
    pub checkpoint-accepts : checkpoint_refusal p memory dirty stream pages ≡ 0
    unfolding checkpoint_refusal
    checkpoint-accepts =
        accepts (checkpoint_tests p memory dirty stream pages) (
          join _ _
              (join _ _ (join _ _ f.ok (eq-eqb memory (memory_length p) f.memory-is)) (eq-eqb dirty (marks_length p) f.dirty-is))
              (eq-eqb stream p.settings.l f.stream-is),
          (
            f.protects,
            (le-leb (p.waiting + checkpoint_length p.settings.u (is_wide p.settings.m) pages) p.settings.l f.room, (lt-ltb p.epoch most_epoch f.next, tt)),
          ),
        )

    pub checkpoint-in-range : PrimaryInRange p → PrimaryInRange (checkpoint_state p pages)
    unfolding checkpoint_state
    checkpoint-in-range r =
        let g = primary-facts p f.ok in
        record {
          in_range = primary-of _ (record {
            settings = g.settings;
            queue = queue-later p.queue p.epoch (p.epoch + 1) p.settings.q (omega arith) g.queue;
            acknowledged = omega arith;
            waiting = f.room;
            blocks = omega arith;
            records = omega arith;
            detector = g.detector;
          });
          packets = r.packets;
          numbers = r.numbers;
        }

    -- the next epoch has no block yet
    pub checkpoint-reached : PrimaryReached p → PrimaryReached (checkpoint_state p pages)
    unfolding checkpoint_state
    checkpoint-reached r = record { range = checkpoint-in-range r.range; different = tt; records_high = omega arith }

-- the bytes in numbers, of either width
pub checkpoint-length : (u : ℕ) (wide : Bool) (pages : ℕ) → checkpoint_length u wide pages ≡ pages * (u + number_end wide) + (72 + counts_end wide)
unfolding checkpoint_length
checkpoint-length u wide pages = rw (page-length u wide, state-commit-records u wide)

pub checkpoint-length-narrow : (u pages : ℕ) → checkpoint_length u false pages ≡ pages * (u + 10) + 84
checkpoint-length-narrow u pages = checkpoint-length u false pages

pub checkpoint-length-wide : (u pages : ℕ) → checkpoint_length u true pages ≡ pages * (u + 12) + 88
checkpoint-length-wide u pages = checkpoint-length u true pages

-- the bytes appended are as many as the refusal reckons
pub length-checkpoint : (p : Primary) (memory dirty processor : List ℕ) → length memory ≡ memory_length p → length processor ≡ processor_bytes
    → length (checkpoint_bytes p memory dirty processor) ≡ checkpoint_length p.settings.u (is_wide p.settings.m) (dirty_count p dirty)
unfolding checkpoint_bytes checkpoint_length
length-checkpoint p memory dirty processor m s =
    let u = p.settings.u in
    let wide = is_wide p.settings.m in
    let records = dirty_records memory dirty wide u p.epoch p.settings.m in
    let state = state_record p.epoch processor in
    let commit = commit_record wide p.epoch (dirty_count p dirty) p.records in
    length-append records (state ++ commit)
    ∙ omega (
      arith,
      length-append state commit,
      length-dirty memory dirty wide u p.epoch p.settings.m m,
      length-state p.epoch processor,
      s,
      length-commit wide p.epoch (dirty_count p dirty) p.records,
      state-commit-records u wide,
    )
