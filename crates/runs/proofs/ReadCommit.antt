-- An accepted COMMIT keeps the invariant. Assumes nothing.
use Prim.Native.Nat.{ℕ, ◌+◌}
use mathlib.Core.Path.{◌≡◌, refl, sym, ap, ap₂, ◌∙◌, subst}
use mathlib.Core.Bool.{true, false, true≢false, false≢true}
use mathlib.Core.List.{List, [], ◌∷◌, ◌++◌, map, append-nil, map-append}
use native.Mathlib.Omega.{arith}
use lib.ListN.{length, take, drop}
use lib.Seq.{drop-drop}
use Rattle.records.specs.Kind.{is_wide}
use Rattle.records.specs.Write.{ack_record}
use Rattle.records.specs.Message.{Message, encode, encode_all}
use Rattle.records.specs.Message as message
use Rattle.records.proofs.MessageLaws.{encode_all-append}
use Rattle.settings.specs.declared.Settings.{Settings}
use Rattle.settings.specs.declared.StandbySettings.{StandbySettings}
use Rattle.settings.specs.Range.{of_standby}
use Rattle.marks.specs.Mark.{cleared}
use Rattle.marks.proofs.MarkLaws.{length-cleared}
use Rattle.pages.specs.Dirty.{installed}
use Rattle.pages.proofs.InstallLaws.{length-installed}
use Rattle.staging.specs.SlotList.{slot_list, store_all}
use Rattle.staging.proofs.ListLaws.{list-all-due, due-all-due}
use Rattle.rules.specs.declared.Standby.{Standby}
use Rattle.rules.specs.StandbyState.{is_receiving, with_no_ticks}
use Rattle.rules.specs.Read.{sealed_state, installed_state}
use Rattle.rules.specs.World.{StandbyEnd}
use Rattle.rules.proofs.StandbyFacts.{reset-reached}
use Rattle.rules.proofs.ReadLaws.{commit-reached}
use Rattle.runs.specs.Plain.{Checkpoint, with_counts}
use Rattle.runs.specs.Run.{Both}
use Rattle.runs.proofs.Effects.{effects, Epoch, closed, sent, All, Before, Readable}
use Rattle.runs.proofs.Invariant.{ack_bytes, Rising, InvAt, Inv}
use Rattle.runs.proofs.KeptLaws.{slots-fit}
use Rattle.runs.proofs.StagedPages.{installed-none}
use Rattle.runs.proofs.ModeLaws.{receiving-not-active}

-- ---- what precedes the first COMMIT of a list is settled by the list
record Split (xs ys a b : List Message) : Type 0 where
  front : xs ≡ a
  back : ys ≡ b

module _ (ys : List Message) (e n k e' n' k' : ℕ) (b : List Message) where
  split-commit : (xs a : List Message) → All Before xs → All Before a → xs ++ (message.commit e n k ∷ ys) ≡ a ++ (message.commit e' n' k' ∷ b) → Split xs ys a b
  split-commit [] [] o q h = record { front = refl; back = cc }
  split-commit [] (y ∷ a) o q h = let z : y ≡ message.commit e n k = cc in absurd (rw z at q.0)
  split-commit (x ∷ xs) [] o q h = let z : x ≡ message.commit e' n' k' = cc in absurd (rw z at o.0)
  split-commit (x ∷ xs) (y ∷ a) o q h =
      let t : xs ++ (message.commit e n k ∷ ys) ≡ a ++ (message.commit e' n' k' ∷ b) = cc in
      let s = split-commit xs a o.1 q.1 t in
      record { front = cc; back = s.back }

no-commit : (xs ys : List Message) (e n k : ℕ) (a : List Message) → All Before a → xs ++ (message.commit e n k ∷ ys) ≡ a → ⊥
no-commit [] ys e n k a o h = let z : All Before (message.commit e n k ∷ ys) = subst (All Before) (sym h) o in z.0
no-commit (x ∷ xs) ys e n k a o h =
    let z : All Before (x ∷ (xs ++ (message.commit e n k ∷ ys))) = subst (All Before) (sym h) o in
    no-commit xs ys e n k (xs ++ (message.commit e n k ∷ ys)) z.1 refl

-- ---- one ACK more
rising-more : (a r : ℕ) (es : List ℕ) → Rising a r es → Rising a (r + 1) (es ++ ((r + 1) ∷ []))
rising-more a r [] h = (omega arith, omega arith)
rising-more a r (e ∷ es) h = (h.0, rising-more e r es h.1)

pub acks-more : (es : List ℕ) (e : ℕ) → ack_bytes (es ++ (e ∷ [])) ≡ ack_bytes es ++ ack_record e
acks-more es e =
    ap (encode_all false) (map-append message.ack es (e ∷ [])) ∙ encode_all-append false (map message.ack es) (message.ack e ∷ []) ∙ ap (λ (l : List ℕ). ack_bytes es ++ l) (append-nil (ack_record e))

-- ---- the pair after a COMMIT of an epoch
abbrev pub commit_state : Standby → ℕ → Standby
commit_state s epoch = with_no_ticks (installed_state (sealed_state s) epoch)

abbrev pub commit_end : StandbyEnd → ℕ → StandbySettings → StandbyEnd
commit_end e epoch x =
    record {
      state = commit_state e.state epoch;
      memory = installed e.memory e.staged_pages e.staged_marks x.u x.m;
      disk = e.disk;
      staged_pages = e.staged_pages;
      staged_marks = cleared e.staged_marks x.m;
      staged_blocks = e.staged_blocks;
      area = e.area;
    }

abbrev pub commit_after : Both → ℕ → StandbySettings → ℕ → List ℕ → Both
commit_after b epoch x used ack =
    let w = b.world in
    record {
      world = record { primary = w.primary; standby = commit_end w.standby epoch x; link = drop used w.link; acks = w.acks ++ ack };
      plain = with_counts b.plain (b.plain.r + 1) b.plain.a b.plain.count;
    }

module _ (g : Settings) (b : Both) (epoch p n : ℕ) (xs : List Message) (on : is_receiving b.world.standby.state.mode ≡ true)
    (seen : b.world.standby.state.seen ≡ true) (next : epoch ≡ b.world.standby.state.received + 1) where
  commit-inv-at : (base : Checkpoint) (ahead : List Epoch) (opened consumed pending : List Message) (lost : List ℕ) (acks : List ℕ)
      → InvAt g (record { base = base; ahead = ahead; opened = opened; consumed = consumed; pending = pending; lost = lost; acks = acks }) b
      → pending ≡ message.commit epoch p n ∷ xs
      → drop (length (encode (is_wide g.m) (message.commit epoch p n))) b.world.link ++ (take b.world.primary.state.waiting b.world.primary.stream ++ lost) ≡ encode_all (is_wide g.m) xs
      → Inv g (commit_after b epoch (of_standby g) (length (encode (is_wide g.m) (message.commit epoch p n))) (ack_record epoch))
  commit-inv-at base [] opened consumed pending lost acks v first behind =
      absurd (no-commit consumed xs epoch p n opened v.link.opened_before (ap (λ (l : List Message). consumed ++ l) (sym first) ∙ v.link.records))
  commit-inv-at base (c ∷ cs) opened consumed pending lost acks v first behind =
      let e = b.world.standby in
      let s = e.state in
      let t = v.taker in
      let k = v.standby_kept in
      let r = b.plain.r in
      let split : Split consumed xs c.records (sent cs opened)
      = split-commit xs epoch p n c.number c.pages c.blocks (sent cs opened) consumed c.records v.link.consumed_before v.link.ahead_before.0
      (ap (λ (l : List Message). consumed ++ l) (sym first) ∙ v.link.records) in
      let now = effects g.u base c.records in
      let same : effects g.u base consumed ≡ now = ap (effects g.u base) split.front in
      let off : b.plain.activated ≡ false = sym t.mode_is ∙ receiving-not-active s.mode on in
      let readable : All (Readable g.u (is_wide g.m)) (message.commit epoch p n ∷ xs) = subst (All (Readable g.u (is_wide g.m))) first v.link.readable in
      let few = (slots-fit g e k).few in
      let is-next : epoch ≡ r + 1 = next ∙ ap (λ (m : ℕ). m + 1) t.received_is in
      let memory : installed e.memory e.staged_pages e.staged_marks g.u g.m ≡ now.memory = t.staged_memory on ∙ ap (λ (y : Checkpoint). y.memory) same in
      let long = length-installed e.memory e.staged_pages e.staged_marks g.u g.m k.memory k.staged_pages in
      let disk : store_all g.u e.disk (slot_list g.u s.slots e.staged_blocks) ≡ now.disk = t.staged_disk on ∙ ap (λ (y : Checkpoint). y.disk) same in
      record {
        ghost = record { base = closed g.u base c; ahead = cs; opened = opened; consumed = []; pending = xs; lost = lost; acks = acks ++ ((r + 1) ∷ []) };
        holds = record {
          history = record {
            from = sym (drop-drop 1 r b.plain.checkpoints) ∙ ap (drop 1) v.history.from;
            count = v.history.count;
            high = v.history.high;
          };
          link = record {
            records = split.back;
            bytes = behind;
            lossless = v.link.lossless;
            readable = readable.1;
            consumed_before = tt;
            ahead_before = v.link.ahead_before.1;
            opened_before = v.link.opened_before;
          };
          images = v.images;
          detector = record {
            acknowledged_is = v.detector.acknowledged_is;
            rising = rising-more b.plain.a r acks v.detector.rising;
            acks_are = ap₂ (λ (l : List ℕ) (m : ℕ). l ++ ack_record m) v.detector.acks_are is-next ∙ sym (acks-more acks (r + 1));
            alone_is = v.detector.alone_is;
            count_is = v.detector.count_is;
            quiet = v.detector.quiet;
          };
          packets = v.packets;
          taker = record {
            received_is = is-next;
            mode_is = t.mode_is;
            processor_is = t.staged_processor on seen ∙ ap (λ (y : Checkpoint). y.processor) same;
            memory_is = λ z. memory;
            disk_is = λ z. ap (store_all g.u e.disk) (due-all-due g.u s.slots e.staged_blocks (omega (arith, k.reached.range.numbers))) ∙ disk;
            staged_memory = λ z.
                installed-none (installed e.memory e.staged_pages e.staged_marks g.u g.m) e.staged_pages e.staged_marks g.u g.m long k.staged_pages ∙ memory;
            staged_disk = λ z. ap (store_all g.u e.disk) (list-all-due g.u s.slots e.staged_blocks) ∙ disk;
            staged_processor = λ z y. absurd (false≢true y);
            active_memory = λ z. absurd (true≢false (sym z ∙ off));
            active_disk = λ z. absurd (true≢false (sym z ∙ off));
            settled = λ z. absurd (true≢false (sym z ∙ off));
            area_is = t.area_is;
          };
          primary_kept = v.primary_kept;
          standby_kept = record {
            settings = k.settings;
            patience = k.patience;
            reached = reset-reached _ (commit-reached s k.reached epoch);
            memory = long;
            disk = k.disk;
            staged_pages = k.staged_pages;
            staged_marks = length-cleared e.staged_marks g.m ∙ k.staged_marks;
            staged_blocks = k.staged_blocks;
            area = k.area;
          };
        };
      }

  pub commit-inv : (i : Inv g b) → i.ghost.pending ≡ message.commit epoch p n ∷ xs
      → drop (length (encode (is_wide g.m) (message.commit epoch p n))) b.world.link ++ (take b.world.primary.state.waiting b.world.primary.stream ++ i.ghost.lost) ≡ encode_all (is_wide g.m) xs
      → Inv g (commit_after b epoch (of_standby g) (length (encode (is_wide g.m) (message.commit epoch p n))) (ack_record epoch))
  commit-inv i first behind =
      let h = i.ghost in
      commit-inv-at h.base h.ahead h.opened h.consumed h.pending h.lost h.acks i.holds first behind
