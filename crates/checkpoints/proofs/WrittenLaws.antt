-- Writing the BLOCKs that were kept, in rising order. Assumes nothing.
use Prim.Native.Nat.{ℕ, zero, suc, ◌+◌, ◌*◌, ◌-◌, ◌^◌, ◌≤◌, ◌<◌}
use mathlib.Core.Path.{◌≡◌, refl, sym, ap, ◌∙◌}
use mathlib.Core.Bool.{Bool, true, false}
use mathlib.Core.Logic.{⊎_elim}
use mathlib.Core.List.{List, [], ◌∷◌, ◌++◌, append-nil, append_assoc}
use native.Mathlib.Nat.{le_refl, mul-le-mul}
use native.Mathlib.Numerals.{add-one}
use native.Mathlib.Omega.{arith}
use lib.ListN.{length, length-append}
use borrow.Author.Tests.{lt-ltb}
use borrow.Rule.Slice.PartMut.{put_mid, mid_of}
use Rattle.lists.specs.Part.{part, put, PutDone}
use Rattle.lists.proofs.TestLaws.{by-test, eq-or-ne, join, cond-true, cond-false}
use Rattle.lists.proofs.PartLaws.{length_part, length-put, put-done-more, put-done-length}
use Rattle.lists.proofs.PageLaws.{gather_none, gather-more}
use Rattle.records.specs.Kind.{BLOCK, commit_kind, number_end, counts_end, body_length, record_length}
use Rattle.records.proofs.KindLaws.{width-range, page-length, commit-length}
use Rattle.records.specs.Write.{block_record, fits_in, unit_fits, counts_fit, Written}
use Rattle.records.proofs.FrameLaws.{length-unit, length-commit}
use Rattle.records.proofs.WriteLaws.{written-done}
use Rattle.marks.specs.Mark.{marked}
use Rattle.marks.specs.Next.{marked_pages}
use Rattle.marks.proofs.WalkLaws.{PageOf}
use Rattle.std.specs.List.{flat_map}
use Rattle.std.proofs.lemmas.Grind.{flat_map-append}
use Rattle.checkpoints.specs.declared.Counts.{Counts}
use Rattle.checkpoints.specs.Scan.{first_of}
use Rattle.checkpoints.specs.Form.{pages_at, pages_length, kept_pages, kept_commit, kept_form, form_length, FormFits, Kept, keeps_block, place_of_block, kept_block, kept_blocks, BlocksFit, MarksKept}

-- ---- the length of a BLOCK
pub block-length : (u : ℕ) → record_length u BLOCK ≡ u + 10
unfolding record_length body_length
block-length u = omega arith

pub length-block : (u epoch n : ℕ) (bytes : List ℕ) → length bytes ≡ u → length (block_record epoch n bytes) ≡ record_length u BLOCK
length-block u epoch n bytes e = omega (arith, length-unit BLOCK 2 epoch n bytes, block-length u)

-- ---- one record: what comes back of the whole where the part from at on was lent to the writer of it
pub block_written : (file out body after : List ℕ) (at r from u epoch n : ℕ) → at + record_length u BLOCK ≤ length out → u ≤ 4096 → n < 4096 → from + u ≤ length file
    → body ≡ part from u file → Written (unit_fits 2 n body) (block_record epoch n body) (mid_of at (length out - at) out) after r
    → PutDone (block_record epoch n (part from u file)) out at (put_mid at (length out - at) out after) (at + r)
block_written file out body after at r from u epoch n room few low inside e w =
    let k : length body ≡ u = rw e (length_part from u file inside) in
    let j : length (block_record epoch n body) ≡ record_length u BLOCK = length-block u epoch n body k in
    let f : unit_fits 2 n body ≡ true = join (fits_in 2 n) (fits_in 2 (length body + (4 + 2))) (lt-ltb n (256 ^ 2) (omega arith)) (lt-ltb (length body + (4 + 2)) (256 ^ 2) (omega arith)) in
    rw (← e) (written-done (unit_fits 2 n body) (block_record epoch n body) out after at r f (omega arith) w)

-- ---- the BLOCKs below a number
module _ (u : ℕ) (t : Kept) where
  blocks-none : kept_blocks u 0 t ≡ []
  unfolding kept_blocks
  blocks-none = gather_none _

  blocks-kept : (n : ℕ) → keeps_block t n ≡ true → kept_blocks u (n + 1) t ≡ kept_blocks u n t ++ kept_block u t n
  unfolding kept_blocks
  blocks-kept n e = gather-more _ n ∙ ap (λ (l : List ℕ). kept_blocks u n t ++ l) (cond-true (keeps_block t n) (kept_block u t n) [] e)

  blocks-not : (n : ℕ) → keeps_block t n ≡ false → kept_blocks u (n + 1) t ≡ kept_blocks u n t
  unfolding kept_blocks
  blocks-not n e = gather-more _ n ∙ ap (λ (l : List ℕ). kept_blocks u n t ++ l) (cond-false (keeps_block t n) (kept_block u t n) [] e) ∙ append-nil (kept_blocks u n t)

  -- there are no fewer bytes below a larger number
  blocks-grow : (p r : ℕ) → p ≤ r → length (kept_blocks u p t) ≤ length (kept_blocks u r t)
  blocks-grow p zero h = rw (let e : p ≡ 0 = omega arith in e) (le_refl _)
  blocks-grow p (suc r) h =
      ⊎_elim
      (λ e. rw e (le_refl _))
      (λ ne. let l : p ≤ r = omega arith in omega (arith, blocks-grow p r l, step r))
      (eq-or-ne p (suc r))
    where
      step : (n : ℕ) → length (kept_blocks u n t) ≤ length (kept_blocks u (suc n) t)
      step n =
          rw (← add-one n)
          (⊎_elim
          (λ (e : keeps_block t n ≡ true). omega (arith, ap length (blocks-kept n e), length-append (kept_blocks u n t) (kept_block u t n)))
          (λ (e : keeps_block t n ≡ false). omega (arith, ap length (blocks-not n e)))
          (by-test (keeps_block t n)))

-- ---- the loop that writes them, over the marked blocks
abbrev pub blocks_of : (u : ℕ) → Kept → List ℕ → List ℕ
blocks_of u t blocks = flat_map (λ (n : ℕ). kept_block u t n) blocks

module _ (u d : ℕ) (t : Kept) (ws before : List ℕ) (fits : BlocksFit u d t) (marks : MarksKept d ws t) (room : length (kept_blocks u d t) ≤ length before) where
  blocks-of-marked : (n : ℕ) → n ≤ d → blocks_of u t (marked_pages ws n) ≡ kept_blocks u n t
  unfolding marked_pages
  blocks-of-marked zero h = sym (blocks-none u t)
  blocks-of-marked (suc n) h =
      let same = marks n (omega arith) in
      rw (← add-one n)
      (⊎_elim
      (λ e. rw (blocks-kept u t n (sym same ∙ e)) (rw e (rw (flat_map-append, blocks-of-marked n (omega arith), append-nil))))
      (λ e. rw (blocks-not u t n (sym same ∙ e)) (rw e (blocks-of-marked n (omega arith))))
      (by-test (marked ws n)))

  module _ (blocks after : List ℕ) (at : ℕ) where
    -- at the next block, block n
    module _ (n : ℕ) (block_n : PageOf ws d blocks n) (w : PutDone (blocks_of u t blocks) before 0 after at) where
      pub is-kept : keeps_block t n ≡ true
      is-kept = sym (marks n block_n.within) ∙ block_n.found

      below : blocks_of u t blocks ≡ kept_blocks u n t
      below = ap (blocks_of u t) block_n.below ∙ blocks-of-marked n (omega (arith, block_n.within))

      -- its record has room
      room-before : at + record_length u BLOCK ≤ length before
      room-before =
          omega (
            arith,
            w.position,
            ap length below,
            length-block u (first_of t.counts) n (part (place_of_block t n) u t.file) (length_part (place_of_block t n) u t.file (fits.inside n block_n.within is-kept)),
            ap length (blocks-kept u t n is-kept),
            length-append (kept_blocks u n t) (kept_block u t n),
            blocks-grow u t (n + 1) d (omega (arith, block_n.within)),
          )

      written : 0 + length (blocks_of u t blocks) ≤ length before
      written = omega (arith, w.position, room-before)

      pub next-room : at + record_length u BLOCK ≤ length after
      next-room = omega (arith, room-before, put-done-length (blocks_of u t blocks) before after 0 at written w)

      -- once it is written
      pub next-done : (then : List ℕ) (to : ℕ) → PutDone (kept_block u t n) after at then to → PutDone (blocks_of u t (blocks ++ n ∷ [])) before 0 then to
      next-done then to d =
          rw (flat_map-append, append-nil) (put-done-more (blocks_of u t blocks) (kept_block u t n) before after then 0 at to written w d)

    -- behind the last block
    pub all-done : blocks ≡ marked_pages ws d → PutDone (blocks_of u t blocks) before 0 after at → PutDone (kept_blocks u d t) before 0 after at
    all-done e w = rw (e, blocks-of-marked d (le_refl d)) at w

-- ---- lengths: of so many records, at most
pub few-records : (count most u e : ℕ) → count ≤ most → u ≤ 4096 → e ≤ 12 → count * (u + e) ≤ most * 4108
few-records count most u e a b c = mul-le-mul a (omega (arith, b, c))

-- PAGEs and STATE, and the whole
pub pages-are : (u : ℕ) (wide : Bool) (k : Counts) (n : ℕ) → n ≡ number_end wide → k.pages * (u + n) + 72 ≡ pages_length u wide k
unfolding record_length body_length
pages-are u wide k n e = ap (λ (x : ℕ). k.pages * x + 72) (ap (λ (x : ℕ). u + x) e ∙ sym (page-length u wide))

pub pages-most : (u : ℕ) (wide : Bool) (k : Counts) → u ≤ 4096 → k.pages ≤ 65536 → pages_length u wide k ≤ 65536 * 4108 + 72
pages-most u wide k a b =
    omega (
      arith,
      sym (pages-are u wide k (number_end wide) refl),
      few-records k.pages 65536 u (number_end wide) b a (omega (arith, width-range wide)),
    )

pub form-is : (u : ℕ) (wide : Bool) (k : Counts) (p c : ℕ) → p ≡ pages_length u wide k → c ≡ counts_end wide → k.blocks * (u + 10) + (p + c) ≡ form_length u wide k
form-is u wide k p c e f =
    ap (λ (x : ℕ). k.blocks * x + (p + c)) (sym (block-length u))
    ∙ ap (λ (x : ℕ). k.blocks * record_length u BLOCK + x) (ap (λ (x : ℕ). x + c) e ∙ ap (λ (x : ℕ). pages_length u wide k + x) (f ∙ sym (commit-length u wide)))

-- ---- all of it, one part behind the other: BLOCKs, the bytes copied, COMMIT
module _ (u d : ℕ) (wide : Bool) (t : Kept) (fits : FormFits u d wide t) (out : List ℕ) (room : form_length u wide t.counts ≤ length out) where
  length-pages : length (kept_pages u wide t) ≡ pages_length u wide t.counts
  length-pages = length_part (pages_at u t.counts) (pages_length u wide t.counts) t.file fits.pages

  length-end : length (kept_commit wide t) ≡ record_length u (commit_kind wide)
  length-end = length-commit wide (first_of t.counts) t.counts.pages t.counts.blocks ∙ sym (commit-length u wide)

  pub blocks-room : length (kept_blocks u d t) ≤ length out
  blocks-room = omega (arith, fits.size, room)

  module _ (out₁ : List ℕ) (at : ℕ) (first : PutDone (kept_blocks u d t) out 0 out₁ at) where
    size₁ : length out₁ ≡ length out
    size₁ = put-done-length (kept_blocks u d t) out out₁ 0 at (omega (arith, blocks-room)) first

    -- the bytes copied have room
    pub pages-room : at + length (kept_pages u wide t) ≤ length out₁
    pages-room = omega (arith, first.position, fits.size, length-pages, size₁, room)

    module _ (out₂ : List ℕ) (second : out₂ ≡ put out₁ at (kept_pages u wide t)) (n : ℕ) (long : n ≡ pages_length u wide t.counts) where
      both-done : PutDone (kept_blocks u d t ++ kept_pages u wide t) out 0 out₂ (at + n)
      both-done =
          put-done-more (kept_blocks u d t) (kept_pages u wide t) out out₁ out₂ 0 at (at + n) (omega (arith, blocks-room)) first
          (record { bytes = second; position = omega (arith, long, length-pages) })

      size₂ : length out₂ ≡ length out
      size₂ = ap length second ∙ length-put out₁ at (kept_pages u wide t) pages-room ∙ size₁

      -- and COMMIT
      pub end-room : at + n + length (kept_commit wide t) ≤ length out₂
      end-room = omega (arith, first.position, fits.size, length-end, size₂, long, room)

      pub form-done : (after : List ℕ) (r : ℕ) → Written (counts_fit wide t.counts.pages t.counts.blocks) (kept_commit wide t) (mid_of (at + n) (length out₂ - (at + n)) out₂) after r
          → put_mid (at + n) (length out₂ - (at + n)) out₂ after ≡ put out 0 (kept_form u d wide t)
      unfolding kept_form
      form-done after r w =
          let third = written-done (counts_fit wide t.counts.pages t.counts.blocks) (kept_commit wide t) out₂ after (at + n) r fits.counts end-room w in
          let front : 0 + length (kept_blocks u d t ++ kept_pages u wide t) ≤ length out = omega (arith, length-append (kept_blocks u d t) (kept_pages u wide t), first.position, fits.size, length-pages, room) in
          let all = put-done-more (kept_blocks u d t ++ kept_pages u wide t) (kept_commit wide t) out out₂ (put_mid (at + n) (length out₂ - (at + n)) out₂ after) 0 (at + n) (at + n + r) front both-done third in
          all.bytes ∙ ap (put out 0) (append_assoc (kept_blocks u d t) (kept_pages u wide t) (kept_commit wide t))
