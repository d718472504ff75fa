-- The loop over the records of a file: what holds before each of them, that it can be kept, and what comes out. Assumes
-- nothing.
use Rattle.std.specs.Prelude.{None, Result, Ok, Err}
use Prim.Native.Nat.{ℕ, zero, suc, ◌+◌, ◌-◌, ◌^◌, ◌≤◌, ◌<◌}
use Rattle.std.proofs.lemmas.List.{take-map}
use mathlib.Core.Path.{◌≡◌, refl, sym, ap, ap₂, ◌∙◌, subst}
use mathlib.Core.Bool.{Bool, true, false}
use mathlib.Core.List.{List, []}
use native.Mathlib.Omega.{arith}
use lib.Dec.{ltb}
use lib.ListN.{length, take, drop, length-set, length-drop}
use lib.Seq.{length-take-le, take_all}
use Rattle.lists.specs.Select.{is_in}
use Rattle.records.specs.declared.Cursor.{Cursor}
use Rattle.records.specs.declared.Record.{Record}
use Rattle.records.specs.declared.Unread.{Unread}
use Rattle.records.specs.declared.Record.TheVariants.{Page, Block, State, Commit, Ack}
use Rattle.records.specs.declared.Unread.TheVariants.{Short, Refused}
use Rattle.records.specs.Cases.{by_kind}
use Rattle.records.specs.Read.{kind_of, cursor_of, used_of}
use Rattle.records.proofs.KindLaws.{for-test, record-ge}
use Rattle.records.proofs.ReadLaws.{RecordFacts, ReadFacts, size_of, found-facts, read-facts, read-within}
use Rattle.settings.proofs.RangeLaws.{SharedFacts, shared-facts}
use Rattle.rules.specs.Blocks.{blocks_with}
use Rattle.rules.proofs.ReplyLaws.{unless-cases}
use Rattle.rules.proofs.BlocksLaws.{blocks-high}
use Rattle.checkpoints.specs.declared.FileSettings.{FileSettings}
use Rattle.checkpoints.specs.declared.Counts.{Counts}
use Rattle.checkpoints.specs.declared.KeptBlock.{KeptBlock}
use Rattle.checkpoints.specs.Judge.{Known}
use Rattle.checkpoints.specs.File.{file_reader}
use Rattle.checkpoints.specs.Saving.{file_settings_ok}
use Rattle.checkpoints.specs.Scan.{numbers_of, known_as, known_of, judged, record_refusal, slot_in, no_counts, Scanning, counts_with, numbers_with, places_with, scanned_with, goes_on, scan_in, scan_end, scan_of}
use Rattle.checkpoints.specs.ScanFits.{BlockFits, TurnFits}
use Rattle.checkpoints.proofs.FileLaws.{head_of}
use Rattle.checkpoints.proofs.KnownLaws.{page-facts, block-facts}
use Rattle.checkpoints.proofs.PlaceLaws.{slot_low}
use Rattle.checkpoints.proofs.ScanMeaning.{goes-found, goes_before, block_room, scan-more, scan-last}

pub file-range : (g : FileSettings) → file_settings_ok g ≡ true → SharedFacts g.u g.m g.d g.b
file-range g ok = shared-facts g.u g.m g.d g.b ok

-- the rest of a slice, as it is lent
rest-whole : (at : ℕ) (l : List ℕ) → take (length l - at) (drop at l) ≡ drop at l
rest-whole at l = take_all (length l - at) (drop at l) (omega (arith, length-drop at l))

judged-used : (g : FileSettings) (k : Known) (rest : List ℕ) → used_of (judged g k rest) ≤ length rest
unfolding judged
judged-used g k rest =
    unless-cases (record_refusal g k (head_of g rest)) (head_of g rest) (λ (q : Result Record Unread). used_of q ≤ length rest) (λ z. read-within (file_reader g) g.u rest) (λ z. omega arith)

-- what is judged, of the blocks so far and of the rest, as they are lent
pub judged-rest : (g : FileSettings) (k : Counts) (blocks : List KeptBlock) (file : List ℕ) (at : ℕ) {r : Result Record Unread}
    → r ≡ judged g (known_as k (numbers_of (take k.blocks blocks))) (take (length file - at) (drop at file)) → r ≡ judged g (known_of k (numbers_of blocks)) (drop at file)
judged-rest g k blocks file at e =
    e ∙ ap₂ (λ (ns rest : List ℕ). judged g (known_as k ns) rest) (sym (take-map (λ (b : KeptBlock). b.number) k.blocks blocks)) (rest-whole at file)

-- nothing is kept before the first record
pub counts-none : (k : Counts) → k.epoch ≡ None → k.blocks ≡ 0 → k.records ≡ 0 → k.pages ≡ 0 → k.next ≡ 0 → k.seen ≡ false → k ≡ no_counts
counts-none k epoch blocks records pages next seen =
    λ i. record { epoch = epoch i; blocks = blocks i; records = records i; pages = pages i; next = next i; seen = seen i }

-- what is kept
abbrev pub keeping : Counts → (numbers places : List ℕ) → (at : ℕ) → Scanning
keeping k numbers places at = record { counts = k; numbers = numbers; places = places; at = at }

-- before a record is judged: so many steps are left, and they are enough
pub record Scans (g : FileSettings) (file numbers₀ places₀ numbers places : List ℕ) (k : Counts) (at : ℕ) : Type 0 where
  pub left : ℕ
  pub enough : length file < at + left
  pub same : scan_of g file numbers₀ places₀ ≡ scan_in left g file (keeping k numbers places at)
  pub inside : at ≤ length file
  pub numbers-size : length numbers ≡ 64
  pub places-size : length places ≡ 64
  pub blocks : k.blocks ≤ g.b
  pub records : k.records ≤ 65535
  pub pages : k.pages ≤ k.next
  pub next : k.next ≤ g.m

module _ {g : FileSettings} {file numbers₀ places₀ : List ℕ} where
  -- before the first
  pub scans-start : length numbers₀ ≡ 64 → length places₀ ≡ 64 → Scans g file numbers₀ places₀ numbers₀ places₀ no_counts 0
  scans-start ns ps =
      record {
        left = length file + 1;
        enough = omega arith;
        same = refl;
        inside = omega arith;
        numbers-size = ns;
        places-size = ps;
        blocks = omega arith;
        records = omega arith;
        pages = omega arith;
        next = omega arith;
      }

  module _ {numbers places : List ℕ} {k : Counts} {at : ℕ} (ok : file_settings_ok g ≡ true) (s : Scans g file numbers₀ places₀ numbers places k at)
      {r : Result Record Unread} (head : r ≡ judged g (known_of k numbers) (drop at file)) where
    -- the blocks counted are in the array
    pub scans-low : k.blocks ≤ length numbers
    scans-low = omega (arith, s.blocks, (file-range g ok).b-high, s.numbers-size)

    -- the last record
    pub scans-end : goes_on r ≡ false → scan_of g file numbers₀ places₀ ≡ scan_end (keeping k numbers places at) r
    scans-end off = s.same ∙ go s.left s.enough
      where
        go : (left : ℕ) → length file < at + left → scan_in left g file (keeping k numbers places at) ≡ scan_end (keeping k numbers places at) r
        go zero h = absurd (let i = s.inside in omega arith)
        go (suc left) h = scan-last left g file (keeping k numbers places at) r (sym head) off

    -- any record's bytes stand in the file
    pub scans-used : at + used_of r ≤ length file
    scans-used =
        let i = s.inside in
        omega (arith, ap used_of head, judged-used g (known_of k numbers) (drop at file), length-drop at file)

    -- ---- a record that goes on
    module _ (on : goes_on r ≡ true) where
      abbrev known : Known
      known = known_of k numbers

      abbrev rest : List ℕ
      rest = drop at file

      found : (r ≡ head_of g rest) × (record_refusal g known r ≡ 0)
      found =
          let f = goes-found g known rest (ap goes_on (sym head) ∙ on) in
          let e : r ≡ head_of g rest = head ∙ f.0 in
          (e, ap (record_refusal g known) e ∙ f.1)

      facts : RecordFacts (file_reader g) g.u rest (kind_of r) (size_of g.u r) (cursor_of r)
      facts =
          found-facts (file_reader g) g.u rest r (goes_before rest r on).0
          (subst (ReadFacts (file_reader g) g.u rest) (sym found.0) (read-facts (file_reader g) g.u rest))

      -- it has 8 bytes or more, which stand in the file
      pub turn-used : (8 ≤ used_of r) × (at + used_of r ≤ length file)
      turn-used =
          let f = facts in
          let least = record-ge g.u (kind_of r) (for-test (file_reader g) (kind_of r) f.for-reader) in
          let size : length rest ≡ length file - at = length-drop at file in
          let inside = s.inside in
          (omega (arith, f.used, least), omega (arith, f.inside, size))

      -- a BLOCK has a slot
      block-slot : (e n : ℕ) (c : Cursor) → record_refusal g known (Ok (Block e n c)) ≡ 0 → slot_in k.blocks numbers n < 64
      block-slot e n c z =
          let w = file-range g ok in
          let size = s.numbers-size in
          let few = s.blocks in
          let fits : k.blocks ≤ length numbers = omega (arith, w.b-high) in
          let low = slot_low k.blocks numbers n fits (λ t. omega (arith, w.b-high, block_room g k numbers fits e n [] z t)) in
          omega arith

      -- it can be kept
      pub turn-fits : length file < 2 ^ 64 → TurnFits k numbers places at r
      turn-fits small =
          let w = file-range g ok in
          record {
            blocks = omega (arith, s.blocks, w.b-high);
            records = omega (arith, s.records);
            pages = omega (arith, s.pages, s.next, w.m-high);
            fits = go r on found.1 (omega (arith, turn-used.1, facts.ordered));
          }
        where
          go : (q : Result Record Unread) → goes_on q ≡ true → record_refusal g known q ≡ 0 → at + (cursor_of q).start ≤ length file
              → by_kind q (λ e p c. p + 1 < 2 ^ 64) (λ e n c. BlockFits k numbers places n (at + c.start)) (λ e c. Unit {0}) (λ e p b c. Unit {0}) (Unit {0})
          go (Ok (Page w e p c)) h z i = let f = page-facts g known e p [] z in omega (arith, f.low, (file-range g ok).m-high)
          go (Ok (Block e n c)) h z i =
              let low = block-slot e n c z in
              (omega (arith, s.blocks, (file-range g ok).b-high, s.numbers-size), omega (arith, low, s.numbers-size), omega (arith, low, s.places-size), omega arith)
          go (Ok (State e c)) h z i = tt
          go (Ok (Commit w e p b c)) h z i = tt
          go (Ok (Ack e c)) h z i = tt
          go (Err (Short n)) h z i = tt
          go (Err (Refused n)) h z i = tt

      -- the arrays keep their lengths
      pub turn-sizes : (length (numbers_with k.blocks numbers r) ≡ 64) × (length (places_with k.blocks numbers places at r) ≡ 64)
      turn-sizes = go r
        where
          go : (q : Result Record Unread) → (length (numbers_with k.blocks numbers q) ≡ 64) × (length (places_with k.blocks numbers places at q) ≡ 64)
          go (Ok (Page w e p c)) = (s.numbers-size, s.places-size)
          go (Ok (Block e n c)) = (length-set numbers _ n ∙ s.numbers-size, length-set places _ (at + c.start) ∙ s.places-size)
          go (Ok (State e c)) = (s.numbers-size, s.places-size)
          go (Ok (Commit w e p b c)) = (s.numbers-size, s.places-size)
          go (Ok (Ack e c)) = (s.numbers-size, s.places-size)
          go (Err (Short n)) = (s.numbers-size, s.places-size)
          go (Err (Refused n)) = (s.numbers-size, s.places-size)

      -- the counts stay in their ranges
      turn-counts : let c = counts_with k numbers r in (c.blocks ≤ g.b) × (c.records ≤ 65535) × (c.pages ≤ c.next) × (c.next ≤ g.m)
      turn-counts = go r found.1
        where
          go : (q : Result Record Unread) → record_refusal g known q ≡ 0 → let c = counts_with k numbers q in (c.blocks ≤ g.b) × (c.records ≤ 65535) × (c.pages ≤ c.next) × (c.next ≤ g.m)
          go (Ok (Page w e p c)) z = let f = page-facts g known e p [] z in (s.blocks, s.records, omega (arith, s.pages, f.rising), omega (arith, f.low))
          go (Ok (Block e n c)) z =
              let f = block-facts g known e n [] z in
              let size = length-take-le k.blocks numbers (omega (arith, s.blocks, (file-range g ok).b-high, s.numbers-size)) in
              let room = f.allowed in (
                subst (λ (t : Bool). blocks_with t k.blocks ≤ g.b) (ap (ltb (slot_in k.blocks numbers n)) size)
                    (blocks-high (is_in n (take k.blocks numbers)) g.b k.blocks k.records (record { records-low = room.records-low; blocks-low = λ t. omega (arith, room.blocks-low t, size) }) s.blocks),
                omega (arith, room.records-low),
                s.pages,
                s.next,
              )
          go (Ok (State e c)) z = (s.blocks, s.records, s.pages, s.next)
          go (Ok (Commit w e p b c)) z = (s.blocks, s.records, s.pages, s.next)
          go (Ok (Ack e c)) z = (s.blocks, s.records, s.pages, s.next)
          go (Err (Short n)) z = (s.blocks, s.records, s.pages, s.next)
          go (Err (Refused n)) z = (s.blocks, s.records, s.pages, s.next)

      abbrev numbers' : List ℕ
      numbers' = numbers_with k.blocks numbers r

      abbrev places' : List ℕ
      places' = places_with k.blocks numbers places at r

      abbrev counts' : Counts
      counts' = counts_with k numbers r

      more : (left : ℕ) → scan_in (suc left) g file (keeping k numbers places at) ≡ scan_in left g file (keeping (counts_with k numbers r) (numbers_with k.blocks numbers r) (places_with k.blocks numbers places at r) (at + used_of r))
      unfolding scanned_with
      more left = scan-more left g file (keeping k numbers places at) r (sym head) on

      -- the next record
      pub scans-more : Scans g file numbers₀ places₀ (numbers_with k.blocks numbers r) (places_with k.blocks numbers places at r) (counts_with k numbers r) (at + used_of r)
      scans-more = go s.left s.enough s.same
        where
          go : (left : ℕ) → length file < at + left → scan_of g file numbers₀ places₀ ≡ scan_in left g file (keeping k numbers places at)
              → Scans g file numbers₀ places₀ numbers' places' counts' (at + used_of r)
          go zero e f = absurd (let i = s.inside in omega arith)
          go (suc left) e f =
              let c = turn-counts in
              let u = turn-used in
              record {
                left = left;
                enough = omega (arith, u.0);
                same = f ∙ more left;
                inside = u.1;
                numbers-size = turn-sizes.0;
                places-size = turn-sizes.1;
                blocks = c.0;
                records = c.1;
                pages = c.2;
                next = c.3;
              }

      -- the same, of what the code then has
      pub scans-next : (ns ps : List ℕ) (c : Counts) (n : ℕ) → ns ≡ numbers_with k.blocks numbers r → ps ≡ places_with k.blocks numbers places at r → c ≡ counts_with k numbers r → n ≡ used_of r → Scans g file numbers₀ places₀ ns ps c (at + n)
      scans-next ns ps c n e₀ e₁ e₂ e₃ = rw (e₀, e₁, e₂, e₃) scans-more
