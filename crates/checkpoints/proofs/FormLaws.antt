-- What the code writes of a file that holds a whole checkpoint is the bytes of its normal form, by what it kept of the
-- file; and it can be written so. Assumes nothing.
use mathlib.Core.Path.{◌≡◌, sym, ap, ap₂, ◌∙◌, subst}
use mathlib.Core.Bool.{Bool, true, false, cond}
use mathlib.Core.Logic.{⊎_elim}
use mathlib.Core.List.{List, [], ◌∷◌, ◌++◌, append-nil}
use Prim.Native.Nat.{ℕ, ◌+◌, ◌*◌, ◌^◌, ◌≤◌}
use native.Mathlib.Omega.{arith}
use lib.ListN.{length, take, length-append}
use lib.Seq.{length-take-le}
use borrow.Author.Tests.{lt-ltb}
use Rattle.lists.specs.Part.{part}
use Rattle.lists.specs.Select.{is_in}
use Rattle.lists.proofs.TestLaws.{by-test, join, cond-true, cond-false}
use Rattle.lists.proofs.PageLaws.{gather_ext}
use Rattle.records.specs.Kind.{BLOCK, STATE, is_wide, page_kind, number_width, record_length}
use Rattle.records.specs.Write.{block_record, commit_record}
use Rattle.records.specs.Message.{Message, block, encode, encode_all}
use Rattle.records.proofs.KindLaws.{number_fits, two_fits}
use Rattle.settings.proofs.RangeLaws.{SharedFacts}
use Rattle.staging.specs.SlotList.{Staged}
use Rattle.runs.proofs.Effects.{All, Readable}
use Rattle.checkpoints.specs.declared.FileSettings.{FileSettings}
use Rattle.checkpoints.specs.declared.Counts.{Counts}
use Rattle.checkpoints.specs.Content.{is_block, named, last_of}
use Rattle.checkpoints.specs.Normal.{once, normal_blocks}
use Rattle.checkpoints.specs.Judge.{Known, none_known, epoch_of}
use Rattle.checkpoints.specs.Scan.{first_of, known_of}
use Rattle.checkpoints.specs.Form.{Kept, keeps_block, kept_block, kept_blocks, pages_at, pages_length, kept_pages, kept_commit, kept_form, form_length, FormFits}
use Rattle.checkpoints.specs.Saving.{normal_bytes}
use Rattle.checkpoints.proofs.KnownLaws.{known_after}
use Rattle.checkpoints.proofs.NumberLaws.{named-numbers}
use Rattle.checkpoints.proofs.ShapeLaws.{block_messages, Shape}
use Rattle.checkpoints.proofs.NormalLaws.{normal_staged, normal-blocks-are, rises-length}
use Rattle.checkpoints.proofs.NormalShapeLaws.{normal-staged-count, normal-form}
use Rattle.checkpoints.proofs.NormalReadLaws.{normal-readable}
use Rattle.checkpoints.proofs.EncodeLaws.{part-middle, encode-gather, block_part, page_part, commit_part, checkpoint-bytes, checkpoint-behind, PartLengths, part-lengths}
use Rattle.checkpoints.proofs.ReadTo.{LastAt}

-- the file is the bytes of these records, which are not refused, and others behind; and this is kept of them
pub record KeptOf (g : FileSettings) (ms : List Message) (rest : List ℕ) (t : Kept) : Type 0 where
  pub settings : SharedFacts g.u g.m g.d g.b
  pub shape : Shape g ms
  pub readable : All (Readable g.u (is_wide g.m)) ms
  pub bytes : encode_all (is_wide g.m) ms ++ rest ≡ t.file
  pub known : known_of t.counts t.numbers ≡ known_after none_known ms
  pub numbers : length t.numbers ≡ 64
  pub places : length t.places ≡ 64
  pub few : t.counts.blocks ≤ g.b
  pub last : (n : ℕ) → LastAt g.u t.file t.counts.blocks t.numbers t.places ms n

module _ (g : FileSettings) (ms : List Message) (rest : List ℕ) (t : Kept) (h : KeptOf g ms rest t) where
  -- U, the width, the epoch, the counts and the shape
  abbrev u : ℕ
  u = g.u

  abbrev wide : Bool
  wide = is_wide g.m

  abbrev e : ℕ
  e = epoch_of ms

  abbrev k : Counts
  k = t.counts

  abbrev s : Shape g ms
  s = h.shape

  -- the BLOCKs of the normal form
  abbrev bs : List Staged
  bs = normal_staged is_block g.d ms

  -- ---- the counts are those of the records
  same-epoch : first_of k ≡ e
  same-epoch = ap (λ (n : Known). n.epoch) h.known ∙ s.known-epoch

  same-records : k.records ≡ length s.bs
  same-records = ap (λ (n : Known). n.records) h.known ∙ s.known-records

  same-pages : k.pages ≡ length s.ps
  same-pages = ap (λ (n : Known). n.pages) h.known ∙ s.known-pages

  same_numbers : take k.blocks t.numbers ≡ (known_after none_known ms).numbers
  same_numbers = ap (λ (n : Known). n.numbers) h.known

  -- there are at most 64 different blocks
  low-blocks : k.blocks ≤ 64
  low-blocks = omega (arith, h.few, h.settings.b-high)

  -- as many as BLOCKs in the normal form
  same_blocks : length bs ≡ k.blocks
  same_blocks =
      normal-staged-count g ms s ∙ ap length (sym same_numbers) ∙ length-take-le k.blocks t.numbers (omega (arith, low-blocks, h.numbers))

  -- no more pages than M
  pages-few : k.pages ≤ g.m
  pages-few = omega (arith, same-pages, rises-length 0 g.m s.ps (omega arith) s.rises)

  -- so they are at most 65,536
  pub pages-high : k.pages ≤ 65536
  pages-high = omega (arith, pages-few, h.settings.m-high)

  -- the BLOCK records are at most 65,535
  pub records-high : k.records ≤ 65535
  records-high = omega (arith, same-records, s.records)

  -- ---- the parts of the file
  abbrev file_blocks : List ℕ
  file_blocks = block_part wide e s.bs s.ps s.x

  abbrev file_pages : List ℕ
  file_pages = page_part wide e s.bs s.ps s.x

  abbrev behind_pages : List ℕ
  behind_pages = commit_part wide e s.bs s.ps s.x ++ rest

  -- BLOCKs, PAGEs with the STATE, and what is behind them
  file-parts : t.file ≡ file_blocks ++ (file_pages ++ behind_pages)
  file-parts =
      sym h.bytes ∙ ap (λ (l : List Message). encode_all wide l ++ rest) s.are ∙ checkpoint-behind wide e s.bs s.ps s.x rest

  -- their lengths
  file-lengths : PartLengths wide e s.bs s.ps s.x u
  file-lengths = part-lengths wide e s.bs s.ps s.x u (subst (All (Readable u wide)) s.are h.readable)

  -- by the counts
  blocks-length : length file_blocks ≡ pages_at u k
  blocks-length = file-lengths.block-part ∙ ap (λ (n : ℕ). n * record_length u BLOCK) (sym same-records)

  pages-length : length file_pages ≡ pages_length u wide k
  pages-length = file-lengths.page-part ∙ ap (λ (n : ℕ). n * record_length u (page_kind wide) + record_length u STATE) (sym same-pages)

  -- PAGEs and STATE stand there as they are in the normal form
  kept-pages : kept_pages u wide t ≡ file_pages
  kept-pages =
      ap (part (pages_at u k) (pages_length u wide k)) file-parts
      ∙ part-middle file_blocks file_pages behind_pages (pages_at u k) (pages_length u wide k) blocks-length pages-length

  -- they are inside the file
  pages-inside : pages_at u k + pages_length u wide k ≤ length t.file
  pages-inside =
      omega (arith, ap length file-parts, length-append file_blocks (file_pages ++ behind_pages), length-append file_pages behind_pages, blocks-length, pages-length)

  -- ---- the BLOCKs
  -- the blocks kept are those named
  keeps : (n : ℕ) → keeps_block t n ≡ named (is_block n) ms
  keeps n = ap (is_in n) same_numbers ∙ named-numbers ms n

  -- each with its last bytes
  kept-once : (n : ℕ) → cond (keeps_block t n) (kept_block u t n) [] ≡ encode_all wide (once (is_block n) (block e n) ms)
  kept-once n =
      let x = block e n (last_of (is_block n) [] ms) in
      ⊎_elim
      (λ (w : named (is_block n) ms ≡ true).
      cond-true (keeps_block t n) (kept_block u t n) [] (keeps n ∙ w)
      ∙ ap₂ (λ (a : ℕ) (l : List ℕ). block_record a n l) same-epoch (h.last n (keeps n ∙ w)).0
      ∙ sym (append-nil (encode wide x))
      ∙ ap (encode_all wide) (sym (cond-true (named (is_block n) ms) (x ∷ []) [] w)))
      (λ (w : named (is_block n) ms ≡ false).
      cond-false (keeps_block t n) (kept_block u t n) [] (keeps n ∙ w) ∙ ap (encode_all wide) (sym (cond-false (named (is_block n) ms) (x ∷ []) [] w)))
      (by-test (named (is_block n) ms))

  -- so all of them
  kept-blocks : kept_blocks u g.d t ≡ encode_all wide (block_messages e bs)
  unfolding kept_blocks normal_blocks
  kept-blocks =
      gather_ext (λ n. cond (keeps_block t n) (kept_block u t n) []) (λ n. encode_all wide (once (is_block n) (block e n) ms)) g.d (λ n l. kept-once n)
      ∙ sym (encode-gather wide (λ n. once (is_block n) (block e n) ms) g.d)
      ∙ ap (encode_all wide) (normal-blocks-are e ms g.d)

  -- ---- the normal form
  abbrev form_blocks : List ℕ
  form_blocks = block_part wide e bs s.ps s.x

  abbrev form_commit : List ℕ
  form_commit = commit_part wide e bs s.ps s.x

  -- its BLOCKs, the file's PAGEs with the STATE, and its COMMIT
  normal-parts : normal_bytes g ms ≡ form_blocks ++ (file_pages ++ form_commit)
  unfolding normal_bytes
  normal-parts = ap (encode_all wide) (normal-form g ms s) ∙ checkpoint-bytes wide e bs s.ps s.x

  -- their lengths
  normal-lengths : PartLengths wide e bs s.ps s.x u
  normal-lengths =
      part-lengths wide e bs s.ps s.x u
      (subst (All (Readable u wide)) (normal-form g ms s)
      (normal-readable g ms s h.settings.m-high h.settings.d-high h.settings.b-high h.readable))

  -- by the counts
  form-blocks-length : length form_blocks ≡ k.blocks * record_length u BLOCK
  form-blocks-length = normal-lengths.block-part ∙ ap (λ (n : ℕ). n * record_length u BLOCK) same_blocks

  -- the COMMIT has the new counts
  kept-commit : kept_commit wide t ≡ form_commit
  kept-commit =
      ap (λ (a : ℕ). commit_record wide a k.pages k.blocks) same-epoch ∙ ap₂ (λ (p b : ℕ). commit_record wide e p b) same-pages (sym same_blocks)

  -- what is written is the normal form's bytes
  pub form-bytes : kept_form u g.d wide t ≡ normal_bytes g ms
  unfolding kept_form
  form-bytes = ap₂ (λ (a b : List ℕ). a ++ b) kept-blocks (ap₂ (λ (a b : List ℕ). a ++ b) kept-pages kept-commit) ∙ sym normal-parts

  -- their count
  pub form-length : length (normal_bytes g ms) ≡ form_length u wide k
  form-length =
      ap length normal-parts
      ∙ length-append form_blocks (file_pages ++ form_commit)
      ∙ ap₂ ◌+◌ form-blocks-length (length-append file_pages form_commit ∙ ap₂ ◌+◌ pages-length normal-lengths.commit-part)

  -- it can be written
  pub form-fits : FormFits u g.d wide t
  form-fits =
      record {
        blocks = record {
          unit = h.settings.u-high;
          disk = h.settings.d-high;
          slots = low-blocks;
          numbers = h.numbers;
          places = h.places;
          inside = λ n l w. (h.last n w).1;
        };
        size = ap length kept-blocks ∙ form-blocks-length;
        pages = pages-inside;
        counts = join _ _
            (lt-ltb k.pages (256 ^ number_width wide) (number_fits g.m k.pages h.settings.m-high pages-few))
            (lt-ltb k.blocks (256 ^ number_width wide) (two_fits wide k.blocks (omega (arith, low-blocks))));
      }
