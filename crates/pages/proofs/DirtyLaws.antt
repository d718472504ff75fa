-- Laws of the dirty records: their bytes page by page, their length, and the loop that writes them. Assumes nothing.
use mathlib.Core.Path.{◌≡◌, sym, ap, ◌∙◌}
use mathlib.Core.Logic.{⊎_elim}
use mathlib.Core.Bool.{Bool, true, false}
use mathlib.Core.List.{List, [], ◌∷◌, ◌++◌, append-nil}
use Prim.Native.Nat.{ℕ, zero, suc, ◌+◌, ◌-◌, ◌*◌, ◌^◌, ◌≤◌, ◌<◌}
use native.Mathlib.Nat.{le_refl, zero-add, zero-mul, suc-mul}
use native.Mathlib.Numerals.{add-one}
use native.Mathlib.Omega.{arith}
use lib.ListN.{length, length-append}
use borrow.Author.Tests.{lt-ltb}
use borrow.Rule.Slice.PartMut.{put_mid, mid_of}
use Rattle.lists.specs.Part.{part, put, PutDone}
use Rattle.lists.specs.Page.{page}
use Rattle.lists.proofs.TestLaws.{by-test, eq-or-ne, join}
use Rattle.lists.proofs.PartLaws.{length_part, put-done-more, put-done-length}
use Rattle.lists.proofs.PageLaws.{page-end, gather_none, gather-more, length-page}
use Rattle.records.specs.Kind.{page_kind, number_width, record_length}
use Rattle.records.specs.Write.{page_record, fits_in, unit_fits, Written}
use Rattle.records.proofs.FrameLaws.{length-unit}
use Rattle.records.proofs.KindLaws.{page-length}
use Rattle.records.proofs.WriteLaws.{written-done}
use Rattle.marks.specs.Mark.{marked, count_marks}
use Rattle.marks.specs.Next.{marked_pages}
use Rattle.std.specs.List.{flat_map}
use Rattle.std.proofs.lemmas.Grind.{flat_map-append}
use Rattle.marks.proofs.WalkLaws.{PageOf}
use Rattle.marks.proofs.MarkLaws.{count-zero, count-marked, count-unmarked, count-more}
use Rattle.pages.specs.Dirty.{dirty_record, dirty_records}

pub length-page-record : (wide : Bool) (u epoch p : ℕ) (bytes : List ℕ) → length bytes ≡ u → length (page_record wide epoch p bytes) ≡ record_length u (page_kind wide)
length-page-record wide u epoch p bytes e = omega (arith, length-unit (page_kind wide) (number_width wide) epoch p bytes, page-length u wide)

module _ (memory dirty : List ℕ) (wide : Bool) (u epoch : ℕ) where
  pub dirty-none : dirty_records memory dirty wide u epoch 0 ≡ []
  unfolding dirty_records
  dirty-none = gather_none (dirty_record memory dirty wide u epoch)

  -- one page more
  pub dirty-marked : (p : ℕ) → marked dirty p ≡ true
      → dirty_records memory dirty wide u epoch (p + 1) ≡ dirty_records memory dirty wide u epoch p ++ page_record wide epoch p (page u memory p)
  unfolding dirty_records dirty_record
  dirty-marked p e = gather-more (dirty_record memory dirty wide u epoch) p ∙ rw e

  pub dirty-unmarked : (p : ℕ) → marked dirty p ≡ false → dirty_records memory dirty wide u epoch (p + 1) ≡ dirty_records memory dirty wide u epoch p
  unfolding dirty_records dirty_record
  dirty-unmarked p e = gather-more (dirty_record memory dirty wide u epoch) p ∙ rw e (append-nil _)

  -- pages that are not dirty add nothing
  pub dirty-skip : (p r : ℕ) → p ≤ r → ((q : ℕ) → p ≤ q → q < r → marked dirty q ≡ false)
      → dirty_records memory dirty wide u epoch r ≡ dirty_records memory dirty wide u epoch p
  dirty-skip p zero h none = rw (let e : p ≡ 0 = omega arith in e)
  dirty-skip p (suc r) h none =
      ⊎_elim
      (λ e. rw e)
      (λ ne. let l : p ≤ r = omega arith in
      rw (← add-one r, dirty-unmarked r (none r l (le_refl (suc r)))) (dirty-skip p r l (λ q a b. none q a (omega arith))))
      (eq-or-ne p (suc r))

  -- a record's length for each dirty page
  pub length-dirty-part : (m : ℕ) → m * u ≤ length memory → length (dirty_records memory dirty wide u epoch m) ≡ count_marks dirty m * record_length u (page_kind wide)
  length-dirty-part zero h = rw (dirty-none, count-zero) (sym (zero-mul (record_length u (page_kind wide))))
  length-dirty-part (suc m) h =
      let inside : m * u + u ≤ length memory = rw suc-mul at h in
      let below = length-dirty-part m (omega arith) in
      rw (← add-one m)
      (⊎_elim
      (λ e. rw (dirty-marked m e, count-marked dirty m e, length-append, below, length-page-record wide u epoch m (page u memory m) (length-page u m memory inside), add-one, suc-mul))
      (λ e. rw (dirty-unmarked m e, count-unmarked dirty m e) below)
      (by-test (marked dirty m)))

  pub length-dirty : (m : ℕ) → length memory ≡ m * u → length (dirty_records memory dirty wide u epoch m) ≡ count_marks dirty m * record_length u (page_kind wide)
  length-dirty m e = length-dirty-part m (omega arith)

-- ---- one record: what comes back of the whole where the part from at on was lent to the writer of page p's record
pub one_written : (memory out body after : List ℕ) (at n : ℕ) (wide : Bool) (u epoch p : ℕ) → at + record_length u (page_kind wide) ≤ length out → p * u + u ≤ length memory → p < 256 ^ number_width wide → u + (4 + number_width wide) < 2 ^ 16
    → body ≡ part (p * u) u memory → Written (unit_fits (number_width wide) p body) (page_record wide epoch p body) (mid_of at (length out - at) out) after n
    → PutDone (page_record wide epoch p (page u memory p)) out at (put_mid at (length out - at) out after) (at + n)
unfolding page
one_written memory out body after at n wide u epoch p room inside number size e w =
    let d = number_width wide in
    let k : length body ≡ u = rw e (length_part (p * u) u memory inside) in
    let j : length (page_record wide epoch p body) ≡ record_length u (page_kind wide) = length-page-record wide u epoch p body k in
    let f : unit_fits d p body ≡ true = join (fits_in d p) (fits_in 2 (length body + (4 + d))) (lt-ltb p (256 ^ d) number) (lt-ltb (length body + (4 + d)) (2 ^ 16) (omega arith)) in
    rw (← e) (written-done (unit_fits d p body) (page_record wide epoch p body) out after at n f (omega arith) w)

-- ---- the loop that writes them, over the marked pages
abbrev pub records_of : List ℕ → (wide : Bool) → ℕ → ℕ → List ℕ → List ℕ
records_of memory wide u epoch pages = flat_map (λ (p : ℕ). page_record wide epoch p (page u memory p)) pages

module _ (memory dirty : List ℕ) (wide : Bool) (u epoch : ℕ) where
  pub records-of-marked : (m : ℕ) → records_of memory wide u epoch (marked_pages dirty m) ≡ dirty_records memory dirty wide u epoch m
  unfolding marked_pages
  records-of-marked zero = sym (dirty-none memory dirty wide u epoch)
  records-of-marked (suc m) =
      rw (← add-one m)
      (⊎_elim
      (λ e. rw (dirty-marked memory dirty wide u epoch m e) (rw e (rw (flat_map-append, records-of-marked m, append-nil))))
      (λ e. rw (dirty-unmarked memory dirty wide u epoch m e) (rw e (records-of-marked m)))
      (by-test (marked dirty m)))

module _ (memory dirty : List ℕ) (wide : Bool) (u epoch m : ℕ) (before : List ℕ) (size : length memory ≡ m * u)
    (room : count_marks dirty m * record_length u (page_kind wide) ≤ length before) (pages after : List ℕ) (at : ℕ) where
  -- at the next page, page p
  module _ (p : ℕ) (page_p : PageOf dirty m pages p) (w : PutDone (records_of memory wide u epoch pages) before 0 after at) where
    below : records_of memory wide u epoch pages ≡ dirty_records memory dirty wide u epoch p
    below = ap (records_of memory wide u epoch) page_p.below ∙ records-of-marked memory dirty wide u epoch p

    position : at ≡ count_marks dirty p * record_length u (page_kind wide)
    position =
        w.position
        ∙ zero-add _
        ∙ ap length below
        ∙ length-dirty-part memory dirty wide u epoch p (omega (arith, page-end p m u page_p.within))

    -- its record has room
    room-before : at + record_length u (page_kind wide) ≤ length before
    room-before =
        omega (arith, position, page-end (count_marks dirty p) (count_marks dirty m) (record_length u (page_kind wide)) (count-more dirty p m page_p.within page_p.found))

    written : 0 + length (records_of memory wide u epoch pages) ≤ length before
    written = omega (arith, w.position, room-before)

    pub next-room : at + record_length u (page_kind wide) ≤ length after
    next-room = omega (arith, room-before, put-done-length (records_of memory wide u epoch pages) before after 0 at written w)

    -- once it is written
    pub next-done : (then : List ℕ) (to : ℕ) → PutDone (page_record wide epoch p (page u memory p)) after at then to
        → PutDone (records_of memory wide u epoch (pages ++ p ∷ [])) before 0 then to
    next-done then to d =
        rw (flat_map-append, append-nil)
        (put-done-more (records_of memory wide u epoch pages) (page_record wide epoch p (page u memory p)) before after then 0 at to written w d)

  -- behind the last page
  pub all-done : pages ≡ marked_pages dirty m → PutDone (records_of memory wide u epoch pages) before 0 after at
      → (after ≡ put before 0 (dirty_records memory dirty wide u epoch m)) × (at ≡ count_marks dirty m * record_length u (page_kind wide))
  all-done e w =
      let all = ap (records_of memory wide u epoch) e ∙ records-of-marked memory dirty wide u epoch m in
      (w.bytes ∙ ap (put before 0) all, w.position ∙ zero-add _ ∙ ap length all ∙ length-dirty memory dirty wide u epoch m size)
