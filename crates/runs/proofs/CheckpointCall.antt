-- An accepted checkpoint keeps the invariant. Assumes nothing.
use Prim.Native.Nat.{ℕ, ◌+◌, ◌≤◌}
use mathlib.Core.Path.{◌≡◌, refl, sym, ap, ap₂, ◌∙◌, subst}
use mathlib.Core.Bool.{false}
use mathlib.Core.List.{List, [], ◌∷◌, ◌++◌}
use native.Mathlib.Omega.{arith}
use lib.ListN.{length, length-append}
use lib.Seq.{drop-append-le}
use borrow.Author.Tests.{not-true, eq-eqb}
use Rattle.lists.specs.Part.{put}
use Rattle.lists.proofs.PartLaws.{length-put}
use Rattle.records.specs.Kind.{is_wide}
use Rattle.records.specs.Write.{state_record, commit_record}
use Rattle.records.specs.Message.{Message, encode_all}
use Rattle.records.specs.Message as message
use Rattle.settings.specs.declared.Settings.{Settings}
use Rattle.settings.specs.declared.PrimarySettings.{PrimarySettings}
use Rattle.settings.specs.Range.{of_primary}
use Rattle.marks.specs.Mark.{count_marks, cleared}
use Rattle.marks.proofs.MarkLaws.{length-cleared}
use Rattle.pages.specs.Clean.{Clean}
use Rattle.pages.specs.Dirty.{dirty_records}
use Rattle.pages.specs.DirtyMessages.{dirty_messages}
use Rattle.pages.proofs.CleanLaws.{clean-clear}
use Rattle.rules.specs.PrimaryState.{with_epoch_waiting}
use Rattle.rules.specs.Checkpoint.{dirty_count, checkpoint_length, checkpoint_bytes, checkpoint_state, checkpoint_reply, checkpoint_dirty, checkpoint_stream}
use Rattle.rules.specs.Reached.{PrimaryReached}
use Rattle.rules.specs.World.{Processor}
use Rattle.rules.specs.World as call
use Rattle.rules.specs.Step.{at_primary, step}
use Rattle.rules.proofs.PrimaryFacts.{primary-facts}
use Rattle.rules.proofs.CheckpointLaws.{CheckpointRoom, checkpoint-accepted, checkpoint-reached, length-checkpoint}
use Rattle.runs.specs.Plain.{Checkpoint, with_checkpoint, plain_accepted, plain_step}
use Rattle.runs.specs.Run.{Both, steps, run_call}
use Rattle.runs.proofs.Effects.{effects, effects-append, Epoch, closed, checkpoints_after, last_after, checkpoints-more, last_more, All, all_append, Before, Readable}
use Rattle.runs.proofs.Invariant.{Link, Images, Inv}
use Rattle.runs.proofs.Conclusions.{received-exists, acknowledged-received}
use Rattle.runs.proofs.PacketsLaws.{packets-checkpoint}
use Rattle.runs.proofs.LinkLaws.{sent-closed, before_more, link-append}
use Rattle.runs.proofs.DirtyEffects.{effects-dirty, dirty-before}
use Rattle.runs.proofs.CheckpointRecords.{before_commit, records-bytes, records-readable}
use Rattle.runs.proofs.KeptLaws.{primary-settings}
use Rattle.runs.proofs.Frame.{Accepted, KeepsAccepted}

abbrev pub Facts : Both → Type 0
Facts b = let p = b.world.primary in CheckpointRoom p.state (length p.memory) (length p.dirty) (length p.stream) (dirty_count p.state p.dirty)

-- ---- the pair after it; x is the primary's settings
module _ (processor : Processor) where
  -- the bytes appended
  abbrev pub bytes_of : Both → PrimarySettings → List ℕ
  bytes_of b x =
      let p = b.world.primary in
      let e = p.state.epoch in
      let wide = is_wide x.m in
      dirty_records p.memory p.dirty wide x.u e x.m ++ (state_record e processor.bytes ++ commit_record wide e (count_marks p.dirty x.m) p.state.records)

  abbrev new : Both → Checkpoint
  new b = record { memory = b.plain.memory; disk = b.plain.disk; processor = processor.bytes; packets = b.plain.accepted }

  abbrev pub after : Both → PrimarySettings → Both
  after b x =
      let p = b.world.primary in
      record {
        world = at_primary b.world (record {
          state = with_epoch_waiting p.state (p.state.epoch + 1) (p.state.waiting + checkpoint_length x.u (is_wide x.m) (count_marks p.dirty x.m));
          memory = p.memory;
          disk = p.disk;
          dirty = cleared p.dirty x.m;
          held = p.held;
          stream = put p.stream p.state.waiting (bytes_of b x);
        });
        plain = with_checkpoint b.plain (new b);
      }

  pub after_is : (u : ℕ) (b : Both) → Accepted b (call.checkpoint processor) → run_call steps u b (call.checkpoint processor) ≡ after b b.world.primary.state.settings
  unfolding step checkpoint_reply checkpoint_state checkpoint_dirty checkpoint_stream checkpoint_bytes plain_step plain_accepted
  after_is u b e = rw (eq-eqb _ _ e)

  pub facts : (b : Both) → Accepted b (call.checkpoint processor) → Facts b
  unfolding step checkpoint_reply
  facts b e = let p = b.world.primary in checkpoint-accepted p.state (length p.memory) (length p.dirty) (length p.stream) (dirty_count p.state p.dirty) e

  module _ (g : Settings) (b : Both) (i : Inv g b) (f : Facts b) where
    abbrev pub epoch : ℕ
    epoch = b.world.primary.state.epoch

    abbrev pub count : ℕ
    count = count_marks b.world.primary.dirty g.m

    abbrev pub dirties : List Message
    dirties = dirty_messages b.world.primary.memory b.world.primary.dirty g.u b.world.primary.state.epoch g.m

    -- the records before the COMMIT, and the epoch that it closes
    abbrev pub closing : List Message
    closing = before_commit b.world.primary.memory b.world.primary.dirty processor.bytes g.u b.world.primary.state.epoch g.m

    abbrev pub commit : Message
    commit = message.commit epoch count b.world.primary.state.records

    abbrev shut : Epoch
    shut = record { records = i.ghost.opened ++ closing; number = epoch; pages = count; blocks = b.world.primary.state.records; packets = b.plain.accepted }

    abbrev last : Checkpoint
    last = last_after g.u i.ghost.base i.ghost.ahead

    alone : b.world.primary.state.alone ≡ false
    alone = not-true _ f.protects

    -- "the dirty pages give the next checkpoint's memory"
    new_is : closed g.u last shut ≡ new b
    new_is =
        let p = b.world.primary in
        let v = i.holds in
        let now = effects g.u last i.ghost.opened in
        let done : effects g.u last shut.records ≡ record { memory = p.memory; disk = now.disk; processor = processor.bytes; packets = now.packets }
        = effects-append g.u last i.ghost.opened closing
        ∙ effects-append g.u now dirties (message.state epoch processor.bytes ∷ [])
        ∙ ap (λ (c : Checkpoint). effects g.u c (message.state epoch processor.bytes ∷ []))
        (effects-dirty now p.memory p.dirty g.u epoch g.m v.images.size v.primary_kept.memory v.images.clean) in
        ap (λ (c : Checkpoint). record { memory = c.memory; disk = c.disk; processor = c.processor; packets = b.plain.accepted }) done
        ∙ ap₂ (λ (x y : List ℕ). record { memory = x; disk = y; processor = processor.bytes; packets = b.plain.accepted }) v.images.memory_is (v.images.stored alone ∙ v.images.disk_is)

    -- the bytes appended are those of its records
    pub bytes-are : encode_all (is_wide g.m) (closing ++ (commit ∷ [])) ≡ bytes_of b (of_primary g)
    bytes-are = let p = b.world.primary in records-bytes p.memory p.dirty processor.bytes g.u epoch g.m p.state.records (is_wide g.m)

    -- in start's settings: their length, the room, and the state
    pub long : length (bytes_of b (of_primary g)) ≡ checkpoint_length g.u (is_wide g.m) count
    unfolding checkpoint_bytes
    long =
        let p = b.world.primary in
        subst (λ (x : PrimarySettings). length (bytes_of b x) ≡ checkpoint_length x.u (is_wide x.m) (count_marks p.dirty x.m)) i.holds.primary_kept.settings
        (length-checkpoint p.state p.memory p.dirty processor.bytes f.memory-is processor.size)

    room : b.world.primary.state.waiting + checkpoint_length g.u (is_wide g.m) count ≤ g.l
    room =
        let p = b.world.primary in
        subst (λ (x : PrimarySettings). p.state.waiting + checkpoint_length x.u (is_wide x.m) (count_marks p.dirty x.m) ≤ x.l) i.holds.primary_kept.settings f.room

    reached : PrimaryReached (with_epoch_waiting b.world.primary.state (b.world.primary.state.epoch + 1) (b.world.primary.state.waiting + checkpoint_length g.u (is_wide g.m) count))
    unfolding checkpoint_state
    reached =
        let p = b.world.primary in
        let k = i.holds.primary_kept in
        subst (λ (x : PrimarySettings). PrimaryReached (with_epoch_waiting p.state (p.state.epoch + 1) (p.state.waiting + checkpoint_length x.u (is_wide x.m) (count_marks p.dirty x.m)))) k.settings
        (checkpoint-reached p.state (length p.memory) (length p.dirty) (length p.stream) (dirty_count p.state p.dirty) f k.reached)

    pub readable : All (Readable g.u (is_wide g.m)) (closing ++ (commit ∷ []))
    readable =
        let p = b.world.primary in
        let k = i.holds.primary_kept in
        let s = primary-settings g p k in
        let few = (primary-facts p.state f.ok).records in
        records-readable p.memory p.dirty processor.bytes g.u epoch g.m p.state.records (omega (arith, f.next)) s.shared.m-high (omega arith) k.memory processor.size

    closing-before : All Before (i.ghost.opened ++ closing)
    closing-before =
        let p = b.world.primary in
        all_append Before i.ghost.opened closing i.holds.link.opened_before
        (all_append Before dirties (message.state epoch processor.bytes ∷ []) (dirty-before p.memory p.dirty g.u epoch g.m) (tt, tt))

    waits : b.world.primary.state.waiting ≤ length b.world.primary.stream
    waits = omega (arith, room, i.holds.primary_kept.stream)

    link : Link g.u (is_wide g.m) (i.ghost.ahead ++ (shut ∷ [])) [] i.ghost.consumed (i.ghost.pending ++ (closing ++ (commit ∷ []))) b.world.link
        (put b.world.primary.stream b.world.primary.state.waiting (bytes_of b (of_primary g))) i.ghost.lost
        (b.world.primary.state.waiting + checkpoint_length g.u (is_wide g.m) count) b.world.primary.state.alone
    link =
        let p = b.world.primary in
        let h = i.ghost in
        let ms = closing ++ (commit ∷ []) in
        let v = i.holds in
        let more : Link g.u (is_wide g.m) (h.ahead ++ (shut ∷ [])) [] h.consumed (h.pending ++ ms) b.world.link (put p.stream p.state.waiting (encode_all (is_wide g.m) ms)) h.lost (p.state.waiting + length (encode_all (is_wide g.m) ms)) p.state.alone
        = link-append g.u (is_wide g.m) h.ahead (h.ahead ++ (shut ∷ [])) h.opened [] h.consumed h.pending b.world.link p.stream h.lost p.state.waiting ms p.state.alone alone
        (sym (sent-closed h.ahead h.opened closing shut refl)) (before_more h.ahead shut v.link.ahead_before closing-before) tt readable waits v.link in
        subst (λ (n : ℕ). Link g.u (is_wide g.m) (h.ahead ++ (shut ∷ [])) [] h.consumed (h.pending ++ ms) b.world.link (put p.stream p.state.waiting (bytes_of b (of_primary g))) h.lost (p.state.waiting + n) p.state.alone) long
        (subst (λ (l : List ℕ). Link g.u (is_wide g.m) (h.ahead ++ (shut ∷ [])) [] h.consumed (h.pending ++ ms) b.world.link (put p.stream p.state.waiting l) h.lost (p.state.waiting + length l) p.state.alone) bytes-are more)

    after-inv : Inv g (after b (of_primary g))
    after-inv =
        let p = b.world.primary in
        let v = i.holds in
        let k = v.primary_kept in
        let h = i.ghost in
        let cks = b.plain.checkpoints in
        let now-is : last_after g.u h.base (h.ahead ++ (shut ∷ [])) ≡ new b = last_more g.u h.base h.ahead shut ∙ new_is in
        record {
          ghost = record { base = h.base; ahead = h.ahead ++ (shut ∷ []); opened = []; consumed = h.consumed; pending = h.pending ++ (closing ++ (commit ∷ [])); lost = h.lost; acks = h.acks };
          holds = record {
            history = record {
              from =
                  drop-append-le b.plain.r cks (new b ∷ []) (omega (arith, received-exists g b i))
                  ∙ ap (λ (l : List Checkpoint). l ++ (new b ∷ [])) v.history.from
                  ∙ ap (λ (l : List Checkpoint). h.base ∷ l)
                  (ap (λ (c : Checkpoint). checkpoints_after g.u h.base h.ahead ++ (c ∷ [])) (sym new_is) ∙ sym (checkpoints-more g.u h.base h.ahead shut));
              count = simp length-append (omega (arith, v.history.count));
              high = omega (arith, f.next);
            };
            link = link;
            images = subst (λ (c : Checkpoint). Images g.u g.m p.memory (cleared p.dirty g.m) p.disk b.plain.memory b.plain.disk p.state.alone c) (sym now-is)
                (record {
                  memory_is = v.images.memory_is;
                  disk_is = v.images.disk_is;
                  size = ap length (sym v.images.memory_is) ∙ k.memory;
                  clean = subst (λ (l : List ℕ). Clean l p.memory (cleared p.dirty g.m) g.u g.m) v.images.memory_is (clean-clear p.memory p.dirty g.u g.m);
                  stored = λ z. sym v.images.disk_is;
                });
            detector = record {
              acknowledged_is = v.detector.acknowledged_is;
              rising = v.detector.rising;
              acks_are = v.detector.acks_are;
              alone_is = v.detector.alone_is;
              count_is = v.detector.count_is;
              quiet = λ z. absurd (omega (arith, acknowledged-received g b i, received-exists g b i, simp length-append at z));
            };
            packets = λ port. packets-checkpoint cks (new b) port _ _ _ refl (v.packets port);
            taker = v.taker;
            primary_kept = record {
              settings = k.settings;
              patience = k.patience;
              reached = reached;
              memory = k.memory;
              disk = k.disk;
              dirty = length-cleared p.dirty g.m ∙ k.dirty;
              held = k.held;
              stream = length-put p.stream p.state.waiting (bytes_of b (of_primary g)) (omega (arith, long, room, k.stream)) ∙ k.stream;
            };
            standby_kept = v.standby_kept;
          };
        }

pub checkpoint-keeps : (g : Settings) (processor : Processor) → KeepsAccepted g (call.checkpoint processor)
checkpoint-keeps g processor b i e =
    subst (Inv g) (sym (after_is processor g.u b e ∙ ap (after processor b) i.holds.primary_kept.settings)) (after-inv processor g b i (facts processor b e))
