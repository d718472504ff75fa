-- A disk write and a checkpoint keep the second invariant: the records that they append are those that the standby will ask for. Assumes nothing.
use Prim.Native.Nat.{ℕ, zero, suc, ◌+◌, ◌≤◌, ◌<◌}
use mathlib.Core.Path.{◌≡◌, refl, sym, ap, ap₂, ◌∙◌, subst}
use mathlib.Core.Logic.{⊎_elim}
use mathlib.Core.Bool.{true, false}
use mathlib.Core.List.{List, [], ◌∷◌, ◌++◌, append_assoc, append-nil}
use native.Mathlib.Nat.{le_refl}
use native.Mathlib.Numerals.{add-one}
use native.Mathlib.Omega.{arith}
use lib.ListN.{length, take}
use borrow.Author.Tests.{not-true}
use Rattle.lists.specs.Part.{put}
use Rattle.lists.specs.Page.{page}
use Rattle.lists.proofs.TestLaws.{by-test}
use Rattle.records.specs.Kind.{is_wide}
use Rattle.records.specs.Message.{Message, encode, encode_all}
use Rattle.records.specs.Message as message
use Rattle.settings.specs.declared.Settings.{Settings}
use Rattle.settings.specs.declared.PrimarySettings.{PrimarySettings}
use Rattle.marks.specs.Mark.{marked, count_marks}
use Rattle.marks.proofs.MarkLaws.{count-zero, count-marked, count-unmarked}
use Rattle.pages.specs.DirtyMessages.{dirty_messages}
use Rattle.pages.proofs.DirtyMessagesLaws.{messages-none, messages-marked, messages-unmarked}
use Rattle.rules.specs.PrimaryState.{written_numbers, is_written}
use Rattle.rules.specs.World.{Processor}
use Rattle.rules.specs.World as call
use Rattle.rules.proofs.PrimaryFacts.{primary-facts}
use Rattle.rules.proofs.BlocksLaws.{block-allowed}
use Rattle.rules.proofs.WriteLaws.{numbers-appended}
use Rattle.runs.specs.Run.{Both}
use Rattle.runs.proofs.Effects.{All, Readable}
use Rattle.runs.proofs.KeptLaws.{primary-u, primary-d, written_count}
use Rattle.runs.proofs.LinkLaws.{readable-before, take-put-end}
use Rattle.runs.proofs.DiskWrite as disk-write
use Rattle.runs.proofs.CheckpointCall as checkpoint
use Rattle.runs.proofs.Walk.{Counts, blocks_only, Walk, walk-append}
use Rattle.runs.proofs.Pending.{view_of, Pending, KeepsPending, with_sender, sending, pending-appended}
use Rattle.runs.proofs.PendingCalls.{pending-after}

-- ---- records put behind the bytes waiting: `bytes` are theirs, and `more` as many
pub pending-put : (g : Settings) (b : Both) → Pending g (view_of b.world) → (ms : List Message) (bytes : List ℕ) (more epoch : ℕ) (numbers : List ℕ) (records : ℕ) → encode_all (is_wide g.m) ms ≡ bytes → length (encode_all (is_wide g.m) ms) ≡ more
    → b.world.primary.state.waiting ≤ length b.world.primary.stream → b.world.primary.state.alone ≡ false → All (Readable g.u (is_wide g.m)) ms
    → Walk g (blocks_only b.world.primary.state.epoch (written_numbers b.world.primary.state) b.world.primary.state.records) ms (blocks_only epoch numbers records)
    → Pending g (with_sender (view_of b.world) (sending (view_of b.world).sender (take (b.world.primary.state.waiting + more) (put b.world.primary.stream b.world.primary.state.waiting bytes)) epoch numbers records))
pending-put g b p ms bytes more epoch numbers records are long waits on readable walk =
    let q = b.world.primary in
    let v = view_of b.world in
    let out : take (q.state.waiting + more) (put q.stream q.state.waiting bytes) ≡ v.sender.out ++ encode_all (is_wide g.m) ms
    = ap₂ (λ (n : ℕ) (l : List ℕ). take (q.state.waiting + n) (put q.stream q.state.waiting l)) (sym long) (sym are) ∙ take-put-end q.stream q.state.waiting (encode_all (is_wide g.m) ms) waits in
    subst (λ (l : List ℕ). Pending g (with_sender v (sending v.sender l epoch numbers records))) (sym out) (pending-appended g v p ms epoch numbers records on readable walk)

-- ---- disk write: nothing while alone, else one BLOCK
pub disk-write-pending : (g : Settings) (block : ℕ) (bytes : List ℕ) → KeepsPending g (call.disk_write block bytes)
disk-write-pending g block bytes b i e p =
    let q = b.world.primary in
    let k = i.holds.primary_kept in
    let f = disk-write.facts block bytes b e in
    let below : block < g.d = omega (arith, f.below, primary-d g q k) in
    let whole : length bytes ≡ g.u = f.size ∙ primary-u g q k in
    let x = message.block q.state.epoch block bytes in
    let most = ap (λ (y : PrimarySettings). y.b) k.settings in
    let array = k.reached.range.numbers in
    let ranges = primary-facts q.state f.ok in
    ⊎_elim
    (λ (a : b.world.primary.state.alone ≡ true). pending-after g (call.disk_write block bytes) b _ (disk-write.after_is block bytes g.u b true a e) p)
    (λ (a : b.world.primary.state.alone ≡ false).
    pending-after g (call.disk_write block bytes) b _ (disk-write.after_is block bytes g.u b false a e)
    (pending-put g b p (x ∷ []) _ _ _ _ _ (append-nil (encode (is_wide g.m) x)) (disk-write.long-record block bytes g b i below whole) (omega (arith, f.room a, f.stream-is)) a
    (readable-before g.u (is_wide g.m) x (disk-write.fits block bytes g b i below whole) tt, tt) (
      (below, refl, refl, refl, block-allowed (is_written q.state block) g.b (length (written_numbers q.state)) q.state.records (record { records-low = (f.allowance a).records-low; blocks-low = λ z. omega (arith, (f.allowance a).blocks-low z, written_count g q k, most) })),
      ap (λ (ns : List ℕ). blocks_only q.state.epoch ns (q.state.records + 1)) (sym (numbers-appended q.state block array (λ z. omega (arith, (f.allowance a).blocks-low z, ranges.settings.shared.b-high)))),
    )))
    (by-test b.world.primary.state.alone)

-- ---- the records of a checkpoint: PAGEs that rise, as many as its COMMIT says
module _ (g : Settings) (memory dirty : List ℕ) (epoch : ℕ) (numbers : List ℕ) (records : ℕ) where
  abbrev pages_came : ℕ → ℕ → Counts
  pages_came pages next = record { epoch = epoch; numbers = numbers; records = records; pages = pages; next = next; seen = false }

  record Paged (k : ℕ) : Type 0 where
    next : ℕ
    low : next ≤ k
    walk : Walk g (blocks_only epoch numbers records) (dirty_messages memory dirty g.u epoch k) (pages_came (count_marks dirty k) next)

  paged-more : (k : ℕ) → k < g.m → Paged k → Paged (k + 1)
  paged-more k h x =
      ⊎_elim
      (λ (z : marked dirty k ≡ true).
      record {
        next = k + 1;
        low = le_refl (k + 1);
        walk = rw (messages-marked memory dirty g.u epoch k z, count-marked dirty k z)
            (walk-append g (blocks_only epoch numbers records) (dirty_messages memory dirty g.u epoch k) (pages_came (count_marks dirty k) x.next) (message.page epoch k (page g.u memory k) ∷ [])
            (pages_came (count_marks dirty k + 1) (k + 1)) x.walk ((h, refl, x.low, refl), refl));
      })
      (λ (z : marked dirty k ≡ false).
      record { next = x.next; low = omega (arith, x.low); walk = rw (messages-unmarked memory dirty g.u epoch k z, count-unmarked dirty k z) x.walk })
      (by-test (marked dirty k))

  paged : (k : ℕ) → k ≤ g.m → Paged k
  paged zero h = record { next = 0; low = le_refl 0; walk = rw (messages-none, count-zero) refl }
  paged (suc k) h = rw (← add-one) (paged-more k h (paged k (omega arith)))

  closing-walk : (processor : List ℕ) → Walk g (blocks_only epoch numbers records)
      ((dirty_messages memory dirty g.u epoch g.m ++ (message.state epoch processor ∷ [])) ++ (message.commit epoch (count_marks dirty g.m) records ∷ [])) (blocks_only (epoch + 1) [] 0)
  closing-walk processor =
      let x = paged g.m (le_refl g.m) in
      let st = message.state epoch processor in
      let co = message.commit epoch (count_marks dirty g.m) records in
      rw append_assoc
      (walk-append g (blocks_only epoch numbers records) (dirty_messages memory dirty g.u epoch g.m) (pages_came (count_marks dirty g.m) x.next) (st ∷ co ∷ []) (blocks_only (epoch + 1) [] 0) x.walk
      ((refl, refl), ((refl, refl, refl, refl), refl)))

pub checkpoint-pending : (g : Settings) (processor : Processor) → KeepsPending g (call.checkpoint processor)
checkpoint-pending g processor b i e p =
    let q = b.world.primary in
    let k = i.holds.primary_kept in
    let f = checkpoint.facts processor b e in
    let is = checkpoint.bytes-are processor g b i f in
    pending-after g (call.checkpoint processor) b _ (checkpoint.after_is processor g.u b e ∙ ap (checkpoint.after processor b) k.settings)
    (pending-put g b p (checkpoint.closing processor g b i f ++ (checkpoint.commit processor g b i f ∷ [])) _ _ _ _ _ is (ap length is ∙ checkpoint.long processor g b i f)
    (omega (arith, f.room, f.stream-is)) (not-true _ f.protects) (checkpoint.readable processor g b i f) (closing-walk g q.memory q.dirty q.state.epoch (written_numbers q.state) q.state.records processor.bytes))
