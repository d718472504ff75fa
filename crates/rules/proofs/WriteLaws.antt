-- Laws of the guest's writes at the primary: what acceptance says, what a disk write needs, and that the ranges are kept. Assumes nothing.
use mathlib.Core.Path.{◌≡◌, refl, sym, ap, ◌∙◌, subst}
use mathlib.Core.Bool.{Bool, true, false, cond, ◌&&◌}
use mathlib.Core.Logic.{⊎_elim}
use Prim.Native.Nat.{ℕ, ◌+◌, ◌*◌, ◌≤◌, ◌<◌}
use native.Mathlib.Numerals.{add-one}
use native.Mathlib.Omega.{arith}
use lib.Dec.{leb, eqb}
use lib.ListN.{length, set, length-set}
use lib.Seq.{take-suc-set}
use borrow.Author.Tests.{leb-true, le-leb, ltb-true, lt-ltb, eqb-true, eq-eqb}
use Rattle.lists.specs.Select.{NoRepeats}
use Rattle.lists.proofs.TestLaws.{by-test, both, join, unless, or-unless, cond-true, cond-false, accepted, accepts}
use Rattle.lists.proofs.SelectLaws.{with_number, no-repeats-with}
use Rattle.lists.proofs.PageLaws.{page-end}
use Rattle.records.specs.Kind.{BLOCK, record_length}
use Rattle.settings.specs.Range.{most_allowance}
use Rattle.rules.specs.declared.Primary.{Primary}
use Rattle.rules.specs.PrimaryState.{primary_ok, written_numbers, is_written, memory_length, disk_length, marks_length}
use Rattle.rules.specs.PrimaryWrites.{memory_write_tests, disk_write_tests, memory_write_refusal, disk_write_refusal, with_block_appended, disk_write_state}
use Rattle.rules.specs.Reached.{PrimaryInRange, PrimaryReached}
use Rattle.rules.proofs.BlocksLaws.{BlockRoom, block_room, block-allowed, blocks-high, blocks-of-records}
use Rattle.rules.proofs.PrimaryFacts.{primary-facts, primary-of}

-- ---- memory write
pub record MemoryWriteRoom (p : Primary) (memory dirty page offset n : ℕ) : Type 0 where
  pub ok : primary_ok p ≡ true
  pub memory-is : memory ≡ memory_length p
  pub dirty-is : dirty ≡ marks_length p
  pub below : page < p.settings.m
  pub some : 1 ≤ n
  pub inside : offset + n ≤ p.settings.u

module _ (p : Primary) (memory dirty page offset n : ℕ) where
  pub memory-write-accepted : memory_write_refusal p memory dirty page offset n ≡ 0 → MemoryWriteRoom p memory dirty page offset n
  unfolding memory_write_refusal
  memory-write-accepted e =
      let h = accepted (memory_write_tests p memory dirty page offset n) refl e in
      let d = both (primary_ok p && eqb memory (memory_length p)) (eqb dirty (marks_length p)) h.0 in
      let m = both (primary_ok p) (eqb memory (memory_length p)) d.0 in
      let s = both (leb 1 n) (leb (offset + n) p.settings.u) h.1.1.0 in
      record {
        ok = m.0;
        memory-is = eqb-true memory (memory_length p) m.1;
        dirty-is = eqb-true dirty (marks_length p) d.1;
        below = ltb-true page p.settings.m h.1.0;
        some = leb-true 1 n s.0;
        inside = leb-true (offset + n) p.settings.u s.1;
      }

  module _ (f : MemoryWriteRoom p memory dirty page offset n) where
    -- the bytes written lie in the memory
    pub memory-write-end : page * p.settings.u + offset + n ≤ memory
    memory-write-end = omega (arith, page-end page p.settings.m p.settings.u f.below, f.memory-is, f.inside)

-- ---- disk write

-- the numbers remembered with one BLOCK more: the block's own is among them, once
module _ (p : Primary) (block : ℕ) where
  array-appended : length p.numbers ≡ most_allowance → length (with_block_appended p block).numbers ≡ most_allowance
  array-appended array =
      ⊎_elim
      (λ e. ap length (cond-true (is_written p block) p.numbers (set p.numbers p.blocks block) e) ∙ array)
      (λ e. ap length (cond-false (is_written p block) p.numbers (set p.numbers p.blocks block) e) ∙ length-set p.numbers p.blocks block ∙ array)
      (by-test (is_written p block))

  pub numbers-appended : length p.numbers ≡ most_allowance → (is_written p block ≡ false → p.blocks < most_allowance)
      → written_numbers (with_block_appended p block) ≡ with_number block (written_numbers p)
  numbers-appended array low =
      ⊎_elim
      (λ e. rw e)
      (λ e. let h = low e in rw (e, add-one) (take-suc-set p.numbers p.blocks block (omega arith)))
      (by-test (is_written p block))

pub record DiskWriteRoom (p : Primary) (disk stream block n : ℕ) : Type 0 where
  pub ok : primary_ok p ≡ true
  pub disk-is : disk ≡ disk_length p
  pub stream-is : stream ≡ p.settings.l
  pub below : block < p.settings.d
  pub size : n ≡ p.settings.u
  pub allowance : p.alone ≡ false → BlockRoom (is_written p block) p.settings.b p.blocks p.records
  pub room : p.alone ≡ false → p.waiting + record_length p.settings.u BLOCK ≤ p.settings.l

module _ (p : Primary) (disk stream block n : ℕ) where
  pub disk-write-accepted : disk_write_refusal p disk stream block n ≡ 0 → DiskWriteRoom p disk stream block n
  unfolding disk_write_refusal
  disk-write-accepted e =
      let h = accepted (disk_write_tests p disk stream block n) refl e in
      let s = both (primary_ok p && eqb disk (disk_length p)) (eqb stream p.settings.l) h.0 in
      let d = both (primary_ok p) (eqb disk (disk_length p)) s.0 in
      record {
        ok = d.0;
        disk-is = eqb-true disk (disk_length p) d.1;
        stream-is = eqb-true stream p.settings.l s.1;
        below = ltb-true block p.settings.d h.1.0;
        size = eqb-true n p.settings.u h.1.1.0;
        allowance = λ a. block_room (is_written p block) p.settings.b p.blocks p.records (unless p.alone _ h.1.1.1.0 a);
        room = λ a. leb-true (p.waiting + record_length p.settings.u BLOCK) p.settings.l (unless p.alone _ h.1.1.1.1.0 a);
      }

  module _ (f : DiskWriteRoom p disk stream block n) where
    pub disk-write-accepts : disk_write_refusal p disk stream block n ≡ 0
    unfolding disk_write_refusal
    disk-write-accepts =
        accepts (disk_write_tests p disk stream block n) (
          join _ _ (join _ _ f.ok (eq-eqb disk (disk_length p) f.disk-is)) (eq-eqb stream p.settings.l f.stream-is),
          (
            lt-ltb block p.settings.d f.below,
            (
              eq-eqb n p.settings.u f.size,
              (
                or-unless p.alone _ (λ a. block-allowed (is_written p block) p.settings.b p.blocks p.records (f.allowance a)),
                (or-unless p.alone _ (λ a. le-leb (p.waiting + record_length p.settings.u BLOCK) p.settings.l (f.room a)), tt),
              ),
            ),
          ),
        )

    -- the block lies in the disk
    pub disk-write-end : block * p.settings.u + n ≤ disk
    disk-write-end = omega (arith, page-end block p.settings.d p.settings.u f.below, f.disk-is, f.size)

    -- a BLOCK appended
    module _ (a : p.alone ≡ false) where
      pub appended-in-range : PrimaryInRange p → PrimaryInRange (with_block_appended p block)
      appended-in-range r =
          let g = primary-facts p f.ok in
          let h = f.allowance a in
          record {
            in_range = primary-of _ (record {
              settings = g.settings;
              queue = g.queue;
              acknowledged = g.acknowledged;
              waiting = f.room a;
              blocks = blocks-high (is_written p block) p.settings.b p.blocks p.records h g.blocks;
              records = omega (arith, h.records-low);
              detector = g.detector;
            });
            packets = r.packets;
            numbers = array-appended p block r.numbers;
          }

      pub appended-reached : PrimaryReached p → PrimaryReached (with_block_appended p block)
      appended-reached r =
          let g = primary-facts p f.ok in
          let h = f.allowance a in
          record {
            range = appended-in-range r.range;
            different = subst NoRepeats (sym (numbers-appended p block r.range.numbers (λ z. omega (arith, h.blocks-low z, g.settings.shared.b-high)))) (no-repeats-with block (written_numbers p) r.different);
            records_high = blocks-of-records (is_written p block) p.blocks p.records r.records_high;
          }

    -- a fact that a BLOCK appended keeps
    pub disk-write-kept : (P : Primary → Type 0) → (p.alone ≡ false → P p → P (with_block_appended p block)) → P p → P (disk_write_state p block)
    unfolding disk_write_state
    disk-write-kept P appends r = go p.alone refl
      where
        go : (a : Bool) → p.alone ≡ a → P (cond a p (with_block_appended p block))
        go true e = r
        go false e = appends e r

  pub disk-write-in-range : DiskWriteRoom p disk stream block n → PrimaryInRange p → PrimaryInRange (disk_write_state p block)
  disk-write-in-range f = disk-write-kept f PrimaryInRange (λ a. appended-in-range f a)

  pub disk-write-reached : DiskWriteRoom p disk stream block n → PrimaryReached p → PrimaryReached (disk_write_state p block)
  disk-write-reached f = disk-write-kept f PrimaryReached (λ a. appended-reached f a)
