-- Laws of appending to the outgoing buffer: the dirty pages, and the records of a checkpoint one after the other. Assumes nothing.
use mathlib.Core.Path.{◌≡◌, sym, ap, ◌∙◌}
use mathlib.Core.Bool.{Bool}
use mathlib.Core.List.{List, ◌++◌}
use Prim.Native.Nat.{ℕ, ◌+◌, ◌-◌, ◌*◌, ◌^◌, ◌≤◌, ◌<◌}
use native.Mathlib.Nat.{mul-le-mul}
use native.Mathlib.Omega.{arith}
use lib.ListN.{length}
use borrow.Rule.Slice.PartMut.{put_mid, mid_of}
use Rattle.lists.specs.Part.{put, PutDone}
use Rattle.lists.proofs.PartLaws.{part-back-front, put-done-more, put-done-length}
use Rattle.records.specs.Kind.{is_wide, page_kind, number_width, processor_bytes, record_length, number_end, counts_end}
use Rattle.records.specs.Write.{state_record, commit_record}
use Rattle.records.proofs.FrameLaws.{length-state}
use Rattle.records.proofs.KindLaws.{width-range, page-length, number_fits, two_fits}
use Rattle.marks.specs.Mark.{count_marks}
use Rattle.marks.proofs.MarkLaws.{count-le}
use Rattle.pages.specs.Dirty.{dirty_records}
use Rattle.pages.proofs.DirtyLaws.{length-dirty}
use Rattle.rules.specs.declared.Primary.{Primary}
use Rattle.rules.specs.Checkpoint.{dirty_count, checkpoint_length, checkpoint_bytes}
use Rattle.rules.proofs.PrimaryFacts.{PrimaryFacts, primary-facts}
use Rattle.rules.proofs.CheckpointLaws.{CheckpointRoom, checkpoint-length}

-- the dirty pages, written into the part from at on
pub pages-done : (memory dirty s after : List ℕ) (wide : Bool) (u epoch m at r : ℕ) → length memory ≡ m * u → at ≤ length s
    → (after ≡ put (mid_of at (length s - at) s) 0 (dirty_records memory dirty wide u epoch m)) × (r ≡ count_marks dirty m * record_length u (page_kind wide))
    → PutDone (dirty_records memory dirty wide u epoch m) s at (put_mid at (length s - at) s after) (at + r)
pages-done memory dirty s after wide u epoch m at r e h w =
    record {
      bytes = part-back-front s at after (dirty_records memory dirty wide u epoch m) h w.0;
      position = ap (λ (x : ℕ). at + x) (w.1 ∙ sym (length-dirty memory dirty wide u epoch m e));
    }

-- the bytes of a checkpoint, far below 2 ^ 64
pub checkpoint_length_le : (u : ℕ) (wide : Bool) (pages : ℕ) → u ≤ 4096 → pages ≤ 65536 → checkpoint_length u wide pages ≤ 65536 * 4108 + 88
checkpoint_length_le u wide pages h k =
    let w = width-range wide in
    let r : u + number_end wide ≤ 4108 = omega arith in
    omega (arith, checkpoint-length u wide pages, mul-le-mul k r)

-- ---- an accepted checkpoint: each part has room behind those before it
pub record CheckpointFits (p : Primary) (memory dirty stream processor : List ℕ) : Type 0 where
  pub room : CheckpointRoom p (length memory) (length dirty) (length stream) (dirty_count p dirty)
  pub size : length processor ≡ processor_bytes

module _ {p : Primary} {memory dirty stream processor : List ℕ} (fits : CheckpointFits p memory dirty stream processor) where
  abbrev f : CheckpointRoom p (length memory) (length dirty) (length stream) (dirty_count p dirty)
  f = fits.room

  facts : PrimaryFacts p
  facts = primary-facts p f.ok

  abbrev wide : Bool
  wide = is_wide p.settings.m

  room : p.waiting + (dirty_count p dirty * record_length p.settings.u (page_kind wide) + (72 + counts_end wide)) ≤ length stream
  room = rw (page-length p.settings.u wide) (omega (arith, f.room, f.stream-is, checkpoint-length p.settings.u wide (dirty_count p dirty)))

  pub pages-room : (length memory ≡ p.settings.m * p.settings.u) × (p.settings.m ≤ 256 ^ number_width (is_wide p.settings.m)) × (p.settings.u + (4 + number_width (is_wide p.settings.m)) < 2 ^ 16)
      × (p.waiting + dirty_count p dirty * record_length p.settings.u (page_kind (is_wide p.settings.m)) ≤ length stream)
  pages-room = let g = facts.settings.shared in (f.memory-is, omega (arith, number_fits p.settings.m p.settings.m g.m-high (omega arith)), omega (arith, width-range wide, g.u-high), omega (arith, room))

  -- the counts fit their fields
  pub counts-fit : (dirty_count p dirty < 256 ^ number_width (is_wide p.settings.m)) × (p.records < 256 ^ number_width (is_wide p.settings.m))
  counts-fit =
      let g = facts in
      (number_fits p.settings.m (dirty_count p dirty) g.settings.shared.m-high (count-le dirty p.settings.m), two_fits wide p.records (omega arith))

  abbrev page_records : List ℕ
  page_records = dirty_records memory dirty wide p.settings.u p.epoch p.settings.m

  abbrev state : List ℕ
  state = state_record p.epoch processor

  abbrev commit : List ℕ
  commit = commit_record wide p.epoch (dirty_count p dirty) p.records

  pages-length : length page_records ≡ dirty_count p dirty * record_length p.settings.u (page_kind wide)
  pages-length = length-dirty memory dirty wide p.settings.u p.epoch p.settings.m f.memory-is

  pages-fit : p.waiting + length page_records ≤ length stream
  pages-fit = omega (arith, room, pages-length)

  module _ (s₁ : List ℕ) (n₁ : ℕ) (d₁ : PutDone page_records stream p.waiting s₁ n₁) where
    same₁ : length s₁ ≡ length stream
    same₁ = put-done-length page_records stream s₁ p.waiting n₁ pages-fit d₁

    pub state-room : n₁ + 72 ≤ length s₁
    state-room = omega (arith, room, pages-length, d₁.position, same₁)

    state-fit : n₁ + length state ≤ length s₁
    state-fit = omega (arith, state-room, length-state p.epoch processor, fits.size)

    module _ (s₂ : List ℕ) (n₂ : ℕ) (d₂ : PutDone state s₁ n₁ s₂ n₂) where
      pub commit-room : n₂ + counts_end (is_wide p.settings.m) ≤ length s₂
      commit-room =
          omega (arith, room, pages-length, d₁.position, same₁, d₂.position, length-state p.epoch processor, fits.size, put-done-length state s₁ s₂ n₁ n₂ state-fit d₂)

      pub checkpoint-done : (s₃ : List ℕ) (n₃ : ℕ) → PutDone commit s₂ n₂ s₃ n₃ → PutDone (checkpoint_bytes p memory dirty processor) stream p.waiting s₃ n₃
      unfolding checkpoint_bytes
      checkpoint-done s₃ n₃ d₃ =
          put-done-more page_records (state ++ commit) stream s₁ s₃ p.waiting n₁ n₃ pages-fit d₁
          (put-done-more state commit s₁ s₂ s₃ n₁ n₂ n₃ state-fit d₂ d₃)
