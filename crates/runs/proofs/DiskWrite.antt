-- An accepted disk write at the primary keeps the invariant. Assumes nothing.
use Prim.Native.Nat.{ℕ, ◌+◌, ◌*◌, ◌≤◌, ◌<◌}
use mathlib.Core.Path.{◌≡◌, sym, ap, ◌∙◌, subst}
use mathlib.Core.Logic.{⊎_elim}
use mathlib.Core.Bool.{Bool, true, false, cond, true≢false}
use mathlib.Core.List.{List, [], ◌∷◌, ◌++◌, append-nil}
use native.Mathlib.Omega.{arith}
use lib.ListN.{length}
use borrow.Author.Tests.{eq-eqb}
use Rattle.lists.specs.Part.{put}
use Rattle.lists.specs.Page.{with_page}
use Rattle.lists.proofs.TestLaws.{by-test}
use Rattle.lists.proofs.PartLaws.{length-put}
use Rattle.lists.proofs.PageLaws.{page-end, length-with-page}
use Rattle.records.specs.Kind.{BLOCK, record_length, is_wide}
use Rattle.records.specs.Write.{block_record}
use Rattle.records.specs.Message.{Message, encode, encode_all}
use Rattle.records.specs.Message as message
use Rattle.records.proofs.MessageLaws.{length-message}
use Rattle.settings.specs.declared.Settings.{Settings}
use Rattle.settings.specs.declared.PrimarySettings.{PrimarySettings}
use Rattle.rules.specs.declared.Primary.{Primary}
use Rattle.rules.specs.PrimaryWrites.{with_block_appended, disk_write_state, disk_write_reply, disk_write_disk, disk_write_stream}
use Rattle.rules.specs.World as call
use Rattle.rules.specs.Step.{at_primary, step}
use Rattle.rules.proofs.WriteLaws.{DiskWriteRoom, disk-write-accepted, appended-reached}
use Rattle.runs.specs.Plain.{Checkpoint, with_images, plain_accepted, plain_step}
use Rattle.runs.specs.Run.{Both, steps, run_call}
use Rattle.runs.proofs.Effects.{effects-append, last_after, all_append, Before}
use Rattle.runs.proofs.Invariant.{Link, Images, Inv}
use Rattle.runs.proofs.LinkLaws.{sent-more, readable-before, link-append}
use Rattle.runs.proofs.KeptLaws.{primary-u, primary-d, primary-settings}
use Rattle.runs.proofs.Frame.{Accepted, KeepsAccepted}

module _ (block : ℕ) (bytes : List ℕ) where
  abbrev pub Facts : Both → Type 0
  Facts b = let p = b.world.primary in DiskWriteRoom p.state (length p.disk) (length p.stream) block (length bytes)

  -- the pair after it; v is the primary's U and u start's
  abbrev pub after : Primary → List ℕ → ℕ → ℕ → Both → Both
  after s stream v u b =
      let p = b.world.primary in
      record {
        world = at_primary b.world (record { state = s; memory = p.memory; disk = with_page v p.disk block bytes; dirty = p.dirty; held = p.held; stream = stream });
        plain = with_images b.plain b.plain.memory (with_page u b.plain.disk block bytes);
      }

  abbrev pub stream_after : Both → List ℕ
  stream_after b = let p = b.world.primary in put p.stream p.state.waiting (block_record p.state.epoch block bytes)

  abbrev pub state_after : Both → Primary
  state_after b = with_block_appended b.world.primary.state block

  pub after_is : (u : ℕ) (b : Both) (a : Bool) → b.world.primary.state.alone ≡ a → Accepted b (call.disk_write block bytes)
      → run_call steps u b (call.disk_write block bytes)
      ≡ after (cond a b.world.primary.state (state_after b)) (cond a b.world.primary.stream (stream_after b)) b.world.primary.state.settings.u u b
  unfolding step disk_write_reply disk_write_state disk_write_disk disk_write_stream plain_step plain_accepted
  after_is u b a z e = rw (eq-eqb _ _ e) (ap (λ (x : Bool). after (cond x b.world.primary.state (state_after b)) (cond x b.world.primary.stream (stream_after b)) b.world.primary.state.settings.u u b) z)

  pub facts : (b : Both) → Accepted b (call.disk_write block bytes) → Facts b
  unfolding step disk_write_reply
  facts b e = let p = b.world.primary in disk-write-accepted p.state (length p.disk) (length p.stream) block (length bytes) e

  module _ (g : Settings) (b : Both) (i : Inv g b) (below : block < g.d) (whole : length bytes ≡ g.u) where
    long : length (with_page g.u b.world.primary.disk block bytes) ≡ g.d * g.u
    long =
        let k = i.holds.primary_kept in
        length-with-page g.u block b.world.primary.disk bytes whole (omega (arith, page-end block g.d g.u below, k.disk)) ∙ k.disk

    same : with_page g.u b.world.primary.disk block bytes ≡ with_page g.u b.plain.disk block bytes
    same = ap (λ (l : List ℕ). with_page g.u l block bytes) i.holds.images.disk_is

    -- alone: "disk writes append nothing"
    alone-inv : b.world.primary.state.alone ≡ true → Inv g (after b.world.primary.state b.world.primary.stream g.u g.u b)
    alone-inv a =
        let v = i.holds in
        let k = v.primary_kept in
        record {
          ghost = i.ghost;
          holds = record {
            history = v.history;
            link = v.link;
            images = record {
              memory_is = v.images.memory_is;
              disk_is = same;
              size = v.images.size;
              clean = v.images.clean;
              stored = λ z. absurd (true≢false (sym a ∙ z));
            };
            detector = v.detector;
            packets = v.packets;
            taker = v.taker;
            primary_kept = record {
              settings = k.settings;
              patience = k.patience;
              reached = k.reached;
              memory = k.memory;
              disk = long;
              dirty = k.dirty;
              held = k.held;
              stream = k.stream;
            };
            standby_kept = v.standby_kept;
          };
        }

    -- protected: one BLOCK more
    abbrev pub added : Message
    added = message.block b.world.primary.state.epoch block bytes

    pub fits : message.Fits g.u (is_wide g.m) added
    fits =
        let h = i.holds.history in
        let s = primary-settings g b.world.primary i.holds.primary_kept in
        (omega (arith, h.high), omega (arith, s.shared.d-high), whole)

    pub long-record : length (encode_all (is_wide g.m) (added ∷ [])) ≡ record_length b.world.primary.state.settings.u BLOCK
    long-record =
        ap length (append-nil (encode (is_wide g.m) added)) ∙ length-message g.u (is_wide g.m) added fits
        ∙ ap (λ (u : ℕ). record_length u BLOCK) (sym (primary-u g b.world.primary i.holds.primary_kept))

    protected-inv : b.world.primary.state.alone ≡ false → Facts b → Inv g (after (state_after b) (stream_after b) g.u g.u b)
    protected-inv al f =
        let p = b.world.primary in
        let v = i.holds in
        let k = v.primary_kept in
        let h = i.ghost in
        let l = ap (λ (x : PrimarySettings). x.l) k.settings in
        let room = f.room al in
        let opened' = h.opened ++ (added ∷ []) in
        let last = last_after g.u h.base h.ahead in
        let bytes-are : encode_all (is_wide g.m) (added ∷ []) ≡ block_record p.state.epoch block bytes = append-nil (encode (is_wide g.m) added) in
        let wait : p.state.waiting ≤ length p.stream = omega (arith, k.stream) in
        let more : Link g.u (is_wide g.m) h.ahead opened' h.consumed (h.pending ++ (added ∷ [])) b.world.link (put p.stream p.state.waiting (encode_all (is_wide g.m) (added ∷ []))) h.lost (p.state.waiting + length (encode_all (is_wide g.m) (added ∷ []))) p.state.alone
        = link-append g.u (is_wide g.m) h.ahead h.ahead h.opened opened' h.consumed h.pending b.world.link p.stream h.lost p.state.waiting (added ∷ []) p.state.alone al
        (sym (sent-more h.ahead h.opened (added ∷ []))) v.link.ahead_before (all_append Before h.opened (added ∷ []) v.link.opened_before (tt, tt))
        (readable-before g.u (is_wide g.m) added fits tt, tt) wait v.link in
        record {
          ghost = record { base = h.base; ahead = h.ahead; opened = opened'; consumed = h.consumed; pending = h.pending ++ (added ∷ []); lost = h.lost; acks = h.acks };
          holds = record {
            history = v.history;
            link = subst (λ (x : List ℕ). Link g.u (is_wide g.m) h.ahead opened' h.consumed (h.pending ++ (added ∷ [])) b.world.link (put p.stream p.state.waiting x) h.lost (p.state.waiting + record_length p.state.settings.u BLOCK) p.state.alone) bytes-are
                (subst (λ (n : ℕ). Link g.u (is_wide g.m) h.ahead opened' h.consumed (h.pending ++ (added ∷ [])) b.world.link (put p.stream p.state.waiting (encode_all (is_wide g.m) (added ∷ []))) h.lost (p.state.waiting + n) p.state.alone) long-record more);
            images = subst (λ (c : Checkpoint). Images g.u g.m p.memory p.dirty (with_page g.u p.disk block bytes) b.plain.memory (with_page g.u b.plain.disk block bytes) p.state.alone c)
                (sym (effects-append g.u last h.opened (added ∷ [])))
                (record {
                  memory_is = v.images.memory_is;
                  disk_is = same;
                  size = v.images.size;
                  clean = v.images.clean;
                  stored = λ z. ap (λ (x : List ℕ). with_page g.u x block bytes) (v.images.stored z);
                });
            detector = v.detector;
            packets = v.packets;
            taker = v.taker;
            primary_kept = record {
              settings = k.settings;
              patience = k.patience;
              reached = appended-reached p.state (length p.disk) (length p.stream) block (length bytes) f al k.reached;
              memory = k.memory;
              disk = long;
              dirty = k.dirty;
              held = k.held;
              stream = length-put p.stream p.state.waiting (block_record p.state.epoch block bytes) (omega (arith, ap length bytes-are, long-record, k.stream)) ∙ k.stream;
            };
            standby_kept = v.standby_kept;
          };
        }

pub disk-write-keeps : (g : Settings) (block : ℕ) (bytes : List ℕ) → KeepsAccepted g (call.disk_write block bytes)
disk-write-keeps g block bytes b i e =
    let k = i.holds.primary_kept in
    let p = b.world.primary in
    let f = facts block bytes b e in
    let u = primary-u g p k in
    let d = primary-d g p k in
    let below : block < g.d = omega (arith, f.below) in
    let whole : length bytes ≡ g.u = f.size ∙ u in
    ⊎_elim
    (λ (a : p.state.alone ≡ true).
    subst (Inv g) (sym (after_is block bytes g.u b true a e ∙ ap (λ (v : ℕ). after block bytes p.state p.stream v g.u b) u)) (alone-inv block bytes g b i below whole a))
    (λ (a : p.state.alone ≡ false).
    subst (Inv g) (sym (after_is block bytes g.u b false a e ∙ ap (λ (v : ℕ). after block bytes (state_after block bytes b) (stream_after block bytes b) v g.u b) u))
    (protected-inv block bytes g b i below whole a f))
    (by-test p.state.alone)
