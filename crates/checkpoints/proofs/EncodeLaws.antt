-- Laws of the bytes of the records of a checkpoint: of what is gathered, of BLOCKs, PAGEs, STATE and COMMIT in turn,
-- and their lengths. Assumes nothing.
use mathlib.Core.Path.{◌≡◌, refl, sym, ap, ap₂, ◌∙◌}
use mathlib.Core.Bool.{Bool}
use mathlib.Core.List.{List, [], ◌∷◌, ◌++◌, append_assoc, append-nil}
use Prim.Native.Nat.{ℕ, zero, suc, ◌+◌, ◌*◌}
use native.Mathlib.Nat.{suc-mul, zero-mul}
use native.Mathlib.Omega.{arith}
use lib.ListN.{length, take, length-append}
use lib.Seq.{drop_at, take_at}
use Rattle.lists.specs.Part.{part}
use Rattle.lists.specs.Page.{gather}
use Rattle.records.specs.Kind.{BLOCK, STATE, page_kind, commit_kind, record_length}
use Rattle.records.specs.Write.{state_record, commit_record}
use Rattle.records.specs.Message.{Message, page, block, state, commit, encode, encode_all}
use Rattle.records.proofs.MessageLaws.{length-message, encode_all-append}
use Rattle.staging.specs.SlotList.{Staged}
use Rattle.runs.proofs.Effects.{All, Readable}
use Rattle.checkpoints.proofs.ShapeLaws.{block_messages, page_messages, checkpoint_of}

-- the bytes between others
pub part-middle : (a b c : List ℕ) (at n : ℕ) → length a ≡ at → length b ≡ n → part at n (a ++ (b ++ c)) ≡ b
unfolding part
part-middle a b c at n e f = ap (take n) (drop_at a (b ++ c) at e) ∙ take_at b c n f

-- what holds of all records of two lists holds of those of each
pub all-parts : (P : Message → Type 0) (xs ys : List Message) → All P (xs ++ ys) → All P xs × All P ys
all-parts P [] ys a = (tt, a)
all-parts P (x ∷ xs) ys a = let r = all-parts P xs ys a.1 in ((a.0, r.0), r.1)

-- the bytes of what is gathered
pub encode-gather : (wide : Bool) (h : ℕ → List Message) (d : ℕ) → encode_all wide (gather h d) ≡ gather (λ n. encode_all wide (h n)) d
unfolding gather
encode-gather wide h zero = refl
encode-gather wide h (suc d) = encode_all-append wide (gather h d) (h d) ∙ ap (λ (l : List ℕ). l ++ encode_all wide (h d)) (encode-gather wide h d)

module _ (u : ℕ) (wide : Bool) (e : ℕ) where
  -- BLOCKs have as many bytes as so many records of their kind
  pub blocks-bytes : (bs : List Staged) → All (Readable u wide) (block_messages e bs) → length (encode_all wide (block_messages e bs)) ≡ length bs * record_length u BLOCK
  blocks-bytes [] a = sym (zero-mul (record_length u BLOCK))
  blocks-bytes (b ∷ bs) a =
      let x = block e b.number b.bytes in
      length-append (encode wide x) (encode_all wide (block_messages e bs))
      ∙ omega (arith, length-message u wide x a.0.0, blocks-bytes bs a.1, suc-mul (length bs) (record_length u BLOCK))

  -- so have PAGEs
  pub pages-bytes : (ps : List Staged) → All (Readable u wide) (page_messages e ps) → length (encode_all wide (page_messages e ps)) ≡ length ps * record_length u (page_kind wide)
  pages-bytes [] a = sym (zero-mul (record_length u (page_kind wide)))
  pages-bytes (p ∷ ps) a =
      let x = page e p.number p.bytes in
      length-append (encode wide x) (encode_all wide (page_messages e ps))
      ∙ omega (arith, length-message u wide x a.0.0, pages-bytes ps a.1, suc-mul (length ps) (record_length u (page_kind wide)))

-- ---- a checkpoint
module _ (wide : Bool) (e : ℕ) (bs ps : List Staged) (x : List ℕ) where
  -- the bytes of its BLOCKs, of its PAGEs and its STATE, and of its COMMIT
  abbrev pub block_part : List ℕ
  block_part = encode_all wide (block_messages e bs)

  abbrev pub page_part : List ℕ
  page_part = encode_all wide (page_messages e ps) ++ state_record e x

  abbrev pub commit_part : List ℕ
  commit_part = commit_record wide e (length ps) (length bs)

  -- are all of them
  pub checkpoint-bytes : encode_all wide (checkpoint_of e bs ps x) ≡ block_part ++ (page_part ++ commit_part)
  checkpoint-bytes =
      let ends = state e x ∷ commit e (length ps) (length bs) ∷ [] in
      let pages = encode_all wide (page_messages e ps) in
      encode_all-append wide (block_messages e bs) (page_messages e ps ++ ends)
      ∙ ap (λ (l : List ℕ). block_part ++ l)
      (encode_all-append wide (page_messages e ps) ends
      ∙ ap (λ (l : List ℕ). pages ++ (state_record e x ++ l)) (append-nil commit_part)
      ∙ sym (append_assoc pages (state_record e x) commit_part))

  -- with bytes behind
  pub checkpoint-behind : (rest : List ℕ) → encode_all wide (checkpoint_of e bs ps x) ++ rest ≡ block_part ++ (page_part ++ (commit_part ++ rest))
  checkpoint-behind rest =
      ap (λ (l : List ℕ). l ++ rest) checkpoint-bytes
      ∙ append_assoc block_part (page_part ++ commit_part) rest
      ∙ ap (λ (l : List ℕ). block_part ++ l) (append_assoc page_part commit_part rest)

  -- their lengths
  pub record PartLengths (u : ℕ) : Type 0 where
    pub block-part : length block_part ≡ length bs * record_length u BLOCK
    pub page-part : length page_part ≡ length ps * record_length u (page_kind wide) + record_length u STATE
    pub commit-part : length commit_part ≡ record_length u (commit_kind wide)

  -- which they have where a standby reads the records back
  pub part-lengths : (u : ℕ) → All (Readable u wide) (checkpoint_of e bs ps x) → PartLengths u
  part-lengths u a =
      let b = all-parts (Readable u wide) (block_messages e bs) (page_messages e ps ++ (state e x ∷ commit e (length ps) (length bs) ∷ [])) a in
      let p = all-parts (Readable u wide) (page_messages e ps) (state e x ∷ commit e (length ps) (length bs) ∷ []) b.1 in
      record {
        block-part = blocks-bytes u wide e bs b.0;
        page-part = length-append (encode_all wide (page_messages e ps)) (state_record e x)
            ∙ ap₂ ◌+◌ (pages-bytes u wide e ps p.0) (length-message u wide (state e x) p.1.0.0);
        commit-part = length-message u wide (commit e (length ps) (length bs)) p.1.1.0.0;
      }
