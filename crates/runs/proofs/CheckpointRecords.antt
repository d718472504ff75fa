-- The records that a checkpoint appends: its bytes are theirs, and a standby of the same M reads each of them back
-- (document 02, Job 7). Assumes nothing.
use Prim.Native.Nat.{ℕ, ◌*◌, ◌^◌, ◌≤◌, ◌<◌}
use mathlib.Core.Path.{◌≡◌, ap₂, ◌∙◌}
use mathlib.Core.Bool.{Bool}
use mathlib.Core.List.{List, [], ◌∷◌, ◌++◌, append-nil, append_assoc}
use native.Mathlib.Omega.{arith}
use lib.ListN.{length}
use Rattle.records.specs.Kind.{is_wide, number_width, processor_bytes}
use Rattle.records.specs.Write.{state_record, commit_record}
use Rattle.records.specs.declared.Reader.TheVariants as reader
use Rattle.records.specs.Read.{read_record}
use Rattle.records.specs.Message.{Message, encode, encode_all, read_as}
use Rattle.records.specs.Message as message
use Rattle.records.proofs.KindLaws.{for-state, for-commit, number_fits, two_fits}
use Rattle.records.proofs.MessageLaws.{read-message, encode_all-append}
use Rattle.settings.proofs.RangeLaws.{shared-unit}
use Rattle.marks.specs.Mark.{count_marks}
use Rattle.marks.proofs.MarkLaws.{count-le}
use Rattle.pages.specs.Dirty.{dirty_records}
use Rattle.pages.specs.DirtyMessages.{dirty_messages}
use Rattle.pages.proofs.DirtyMessagesLaws.{dirty-encode, messages-fit}
use Rattle.rules.specs.declared.Primary.{Primary}
use Rattle.rules.specs.Checkpoint.{checkpoint_number, checkpoint_bytes}
use Rattle.rules.proofs.PrimaryFacts.{primary-facts}
use Rattle.rules.proofs.CheckpointLaws.{checkpoint-accepted}
use Rattle.runs.proofs.Effects.{All, all_append, Readable}
use Rattle.runs.proofs.LinkLaws.{all-readable}
use Rattle.runs.proofs.DirtyEffects.{dirty-before}

module _ (memory dirty processor : List ℕ) (u epoch m : ℕ) where
  -- every dirty page and the STATE
  abbrev pub before_commit : List Message
  before_commit = dirty_messages memory dirty u epoch m ++ (message.state epoch processor ∷ [])

  -- and the COMMIT with the counts
  abbrev pub checkpoint_records : ℕ → List Message
  checkpoint_records blocks = before_commit ++ (message.commit epoch (count_marks dirty m) blocks ∷ [])

  module _ (blocks : ℕ) where
    pub records-bytes : (wide : Bool)
        → encode_all wide (checkpoint_records blocks) ≡ dirty_records memory dirty wide u epoch m ++ (state_record epoch processor ++ commit_record wide epoch (count_marks dirty m) blocks)
    records-bytes wide =
        let st = message.state epoch processor in
        let commit = message.commit epoch (count_marks dirty m) blocks in
        encode_all-append wide before_commit (commit ∷ [])
        ∙ ap₂ ◌++◌ (encode_all-append wide (dirty_messages memory dirty u epoch m) (st ∷ []) ∙ ap₂ ◌++◌ (dirty-encode memory dirty u epoch wide m) (append-nil (encode wide st))) (append-nil (encode wide commit))
        ∙ append_assoc (dirty_records memory dirty wide u epoch m) (encode wide st) (encode wide commit)

    pub records-readable : epoch < 2 ^ 32 → m ≤ 65536 → blocks < 2 ^ 16 → length memory ≡ m * u → length processor ≡ processor_bytes
        → All (Readable u (is_wide m)) (checkpoint_records blocks)
    records-readable low high few long size =
        let wide = is_wide m in
        let fits : (n : ℕ) → n ≤ m → n < 256 ^ number_width wide = λ n h. number_fits m n high h in
        let pages = messages-fit memory dirty u epoch wide low m (omega (arith, fits m (omega arith))) long in
        all_append (Readable u wide) before_commit _
        (all_append (Readable u wide) (dirty_messages memory dirty u epoch m) _
        (all-readable u wide (dirty_messages memory dirty u epoch m) pages (dirty-before memory dirty u epoch m))
        (((low, size), for-state wide), tt))
        (((low, fits (count_marks dirty m) (count-le dirty m), two_fits wide blocks few), for-commit wide), tt)

-- a record that a standby of the same width reads back from its bytes, whatever follows
abbrev pub ReadsBack : ℕ → (wide : Bool) → Message → Type 0
ReadsBack u wide x = (rest : List ℕ) → read_record (reader.Standby wide) u (encode wide x ++ rest) ≡ read_as u wide x

all_map : {P Q : Message → Type 0} → ((x : Message) → P x → Q x) → (xs : List Message) → All P xs → All Q xs
all_map f [] a = tt
all_map f (x ∷ xs) a = (f x a.0, all_map f xs a.1)

-- the bytes of an accepted checkpoint are those of records, each of which a standby of the same U and M reads back
pub writer-kinds : (p : Primary) (memory dirty stream processor : List ℕ) → checkpoint_number p memory dirty stream ≡ 0 → length processor ≡ processor_bytes
    → let g = p.settings in
    let ms = checkpoint_records memory dirty processor g.u p.epoch g.m p.records in
    (encode_all (is_wide g.m) ms ≡ checkpoint_bytes p memory dirty processor) × All (ReadsBack g.u (is_wide g.m)) ms
unfolding checkpoint_bytes
writer-kinds p memory dirty stream processor e size =
    let g = p.settings in
    let wide = is_wide g.m in
    let f = checkpoint-accepted p _ _ _ _ e in
    let r = primary-facts p f.ok in
    let ms = checkpoint_records memory dirty processor g.u p.epoch g.m p.records in
    let readable = records-readable memory dirty processor g.u p.epoch g.m p.records (omega (arith, f.next)) r.settings.shared.m-high (omega arith) f.memory-is size in (
      records-bytes memory dirty processor g.u p.epoch g.m p.records wide,
      all_map (λ x k. read-message (reader.Standby wide) g.u (shared-unit r.settings.shared) wide x k.0 k.1) ms readable,
    )
