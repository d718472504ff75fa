-- An accepted read at a standby that receives a checkpoint: the record at the head of the link is not refused by those
-- before it, and leads to what is known with it. Assumes nothing.
use Rattle.std.specs.Prelude.{Result, Ok, Err}
use Prim.Native.Nat.{ℕ, ◌+◌}
use mathlib.Core.Path.{◌≡◌, refl, sym, ap, ◌∙◌, subst}
use mathlib.Core.Bool.{true}
use mathlib.Core.List.{List, [], ◌∷◌, ◌++◌}
use native.Mathlib.Omega.{arith}
use lib.ListN.{length, take, drop, length-take}
use Rattle.lists.specs.Select.{is_in}
use Rattle.records.specs.declared.Cursor.{Cursor}
use Rattle.records.specs.declared.Record.{Record}
use Rattle.records.specs.declared.Unread.{Unread}
use Rattle.records.specs.declared.Record.TheVariants.{Page, Block, State, Commit, Ack}
use Rattle.records.specs.declared.Unread.TheVariants.{Short, Refused}
use Rattle.records.specs.Read.{read_record, used_of}
use Rattle.records.specs.Message.{Message, page, block, state, commit, ack}
use Rattle.records.proofs.ReadLaws.{RecordFacts, is_found}
use Rattle.settings.specs.declared.StandbySettings.{StandbySettings}
use Rattle.rules.specs.declared.ReadLent.{ReadLent}
use Rattle.rules.specs.declared.Standby.{Standby}
use Rattle.rules.specs.Reply.{number_of, answer_of}
use Rattle.rules.specs.Judge.{reader_of, judged}
use Rattle.rules.specs.Read.{bytes_at, read_lent}
use Rattle.rules.specs.World.{StandbyEnd, World}
use Rattle.rules.specs.World as call
use Rattle.rules.specs.Step.{Stepped, step}
use Rattle.rules.proofs.JudgeLaws.{JudgedFacts, judged-cases, judged-facts}
use Rattle.rules.proofs.ReadLaws.{bytes-length}
use Rattle.runs.specs.Plain.{Checkpoint}
use Rattle.runs.proofs.RecordSteps.{read_by, read_step}
use Rattle.checkpoints.specs.Judge.{Known, known_with, message_refusal}
use Rattle.checkpoints.proofs.ByteLaws.{message_of}
use Rattle.checkpoints.proofs.PrefixLaws.{read-prefix, bytes-prefix}
use Rattle.checkpoints.proofs.KnownLaws.{page-of, block_of, state-of, commit-of, message_epoch}
use Rattle.checkpoints.proofs.Standing.{file_settings, Standing, Taken}
use Rattle.checkpoints.proofs.StandingSteps.{page_end, block_end, state_end, page-standing, block-standing, state-standing, commit-taken}

-- the standby after it: still receiving the checkpoint, or done with it
abbrev pub After : StandbySettings → Checkpoint → (r : ℕ) → Known → List Message → StandbyEnd → Message → Type 0
After x base r k ms e (page n p bs) = Standing x base r (known_with k (page n p bs)) (ms ++ (page n p bs ∷ [])) e
After x base r k ms e (block n m bs) = Standing x base r (known_with k (block n m bs)) (ms ++ (block n m bs ∷ [])) e
After x base r k ms e (state n bs) = Standing x base r (known_with k (state n bs)) (ms ++ (state n bs ∷ [])) e
After x base r k ms e (commit n p b) = Taken x base r (ms ++ (commit n p b ∷ [])) e
After x base r k ms e (ack n) = ⊥

-- a read of the link `s` found the record q, and led to t
pub record ReadDone (x : StandbySettings) (base : Checkpoint) (r : ℕ) (k : Known) (ms : List Message) (s : List ℕ) (t : Stepped) (q : Result Record Unread) : Type 0 where
  pub link : t.next.link ≡ drop (used_of q) s
  pub epoch : message_epoch (message_of q s) ≡ r + 1
  pub accepted : message_refusal (file_settings x) k (message_of q s) ≡ 0
  pub after : After x base r k ms t.next.standby (message_of q s)

-- an accepted record is the one found
judged-same : (s : Standby) (l : ReadLent) (bytes : List ℕ) → number_of (answer_of (judged s l bytes)) ≡ 0 → judged s l bytes ≡ read_record (reader_of s) s.settings.u bytes
judged-same s l bytes =
    judged-cases s l bytes (λ (q : Result Record Unread). number_of (answer_of q) ≡ 0 → q ≡ read_record (reader_of s) s.settings.u bytes) (λ n h z. absurd (omega arith)) (λ ready z h. refl)

-- and is neither cut short nor refused
judged-found : (s : Standby) (l : ReadLent) (bytes : List ℕ) (q : Result Record Unread) → JudgedFacts s l bytes q → number_of (answer_of q) ≡ 0 → is_found q ≡ true
judged-found s l bytes (Ok (Page w e p c)) f z = refl
judged-found s l bytes (Ok (Block e n c)) f z = refl
judged-found s l bytes (Ok (State e c)) f z = refl
judged-found s l bytes (Ok (Commit w e p b c)) f z = refl
judged-found s l bytes (Ok (Ack e c)) f z = absurd f
judged-found s l bytes (Err (Short n)) f z = absurd (omega arith)
judged-found s l bytes (Err (Refused n)) f z = absurd (omega arith)

module _ (base : Checkpoint) (r : ℕ) (k : Known) (ms : List Message) (w : World) (h : Standing w.standby.state.settings base r k ms w.standby) (n : ℕ) (reply : List ℕ) where
  abbrev s : Standby
  s = w.standby.state

  abbrev x : StandbySettings
  x = w.standby.state.settings

  abbrev bytes : List ℕ
  bytes = take n w.link

  abbrev lent : ReadLent
  lent = let e = w.standby in read_lent e.memory e.staged_pages e.staged_marks e.staged_blocks reply

  -- the field of a record found in the bytes given
  module _ (kind size : ℕ) (c : Cursor) (f : RecordFacts (reader_of w.standby.state) w.standby.state.settings.u (take n w.link) kind size c) where
    field-size : length (bytes_at c bytes) ≡ size
    field-size = bytes-length c bytes size f.span f.inside

    field-same : bytes_at c bytes ≡ bytes_at c w.link
    field-same = bytes-prefix x.u n w.link c (omega (arith, f.inside, length-take n w.link))

  -- the epoch is the next one, and the one known
  is-next : (epoch : ℕ) → epoch ≡ s.received + 1 → epoch ≡ r + 1
  is-next epoch e = e ∙ ap (λ (v : ℕ). v + 1) h.received

  same-epoch : (epoch : ℕ) → epoch ≡ s.received + 1 → k.begun ≡ true → epoch ≡ k.epoch
  same-epoch epoch e z = is-next epoch e ∙ sym (h.epoch z)

  -- by the record that was judged
  by-record : (q : Result Record Unread) → JudgedFacts s lent bytes q → number_of (answer_of q) ≡ 0 → ReadDone x base r k ms w.link (read_by w bytes reply q) q
  by-record (Ok (Page v e p c)) f z =
      let t = f.tests in
      record {
        link = refl;
        epoch = is-next e t.epoch-next;
        accepted = page-of (file_settings x) k e p (bytes_at c w.link)
            (record { low = t.page-low; same-epoch = same-epoch e t.epoch-next; rising = omega (arith, t.rising, h.next); before-state = sym h.seen ∙ t.before-state });
        after =
            subst (λ (bs : List ℕ). Standing x base r (known_with k (page e p bs)) (ms ++ (page e p bs ∷ [])) (page_end w.standby p (bytes_at c bytes))) (field-same _ _ c f.field)
            (page-standing base r k ms w.standby h e p (bytes_at c bytes) t (field-size _ _ c f.field));
      }
  by-record (Ok (Block e m c)) f z =
      let t = f.tests in
      record {
        link = refl;
        epoch = is-next e t.epoch-next;
        accepted = block_of (file_settings x) k e m (bytes_at c w.link)
            (record {
              low = t.block-low;
              same-epoch = same-epoch e t.epoch-next;
              before-pages = sym h.pages ∙ t.no-pages;
              before-state = sym h.seen ∙ t.before-state;
              allowed = record {
                records-low = omega (arith, t.allowed.records-low, h.records);
                blocks-low = λ y. omega (arith, t.allowed.blocks-low (ap (is_in m) h.numbers ∙ y), h.blocks);
              };
            });
        after =
            subst (λ (bs : List ℕ). Standing x base r (known_with k (block e m bs)) (ms ++ (block e m bs ∷ [])) (block_end w.standby m (bytes_at c bytes))) (field-same _ _ c f.field)
            (block-standing base r k ms w.standby h e m (bytes_at c bytes) t (field-size _ _ c f.field));
      }
  by-record (Ok (State e c)) f z =
      let t = f.tests in
      record {
        link = refl;
        epoch = is-next e t.epoch-next;
        accepted = state-of (file_settings x) k e (bytes_at c w.link) (record { same-epoch = same-epoch e t.epoch-next; first = sym h.seen ∙ t.first });
        after =
            subst (λ (bs : List ℕ). Standing x base r (known_with k (state e bs)) (ms ++ (state e bs ∷ [])) (state_end w.standby (bytes_at c bytes))) (field-same _ _ c f.field)
            (state-standing base r k ms w.standby h e (bytes_at c bytes) t);
      }
  by-record (Ok (Commit v e p b c)) f z =
      let t = f.tests in
      record {
        link = refl;
        epoch = is-next e t.epoch-next;
        accepted = commit-of (file_settings x) k e p b
            (record {
              same-epoch = same-epoch e t.epoch-next;
              after-state = sym h.seen ∙ t.after-state;
              pages-same = t.pages-same ∙ h.pages;
              records-same = t.records-same ∙ h.records;
            });
        after = commit-taken base r k ms w.standby h (length reply) e p b t;
      }
  by-record (Ok (Ack e c)) f z = absurd f
  by-record (Err (Short m)) f z = absurd (omega arith)
  by-record (Err (Refused m)) f z = absurd (omega arith)

  -- the law of an accepted read
  pub read_done : (step w (call.read n reply)).outcome.number ≡ 0
      → ReadDone w.standby.state.settings base r k ms w.link (step w (call.read n reply)) (read_record (reader_of w.standby.state) w.standby.state.settings.u w.link)
  read_done accepted =
      let q = judged s lent bytes in
      let z : number_of (answer_of q) ≡ 0 = sym (ap (λ (t : Stepped). t.outcome.number) (read_step w n reply)) ∙ accepted in
      let facts = judged-facts s lent bytes in
      let same : q ≡ read_record (reader_of s) x.u bytes = judged-same s lent bytes z in
      let found : is_found (read_record (reader_of s) x.u bytes) ≡ true = subst (λ (y : Result Record Unread). is_found y ≡ true) same (judged-found s lent bytes q facts z) in
      let whole : q ≡ read_record (reader_of s) x.u w.link = same ∙ sym (read-prefix x.u n w.link (reader_of s) found) in
      subst (λ (t : Stepped). ReadDone x base r k ms w.link t (read_record (reader_of s) x.u w.link)) (sym (read_step w n reply))
      (subst (ReadDone x base r k ms w.link (read_by w bytes reply q)) whole (by-record q facts z))
