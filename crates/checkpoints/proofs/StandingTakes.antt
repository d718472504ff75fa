-- The other direction: a record that is not refused by those before it, of the epoch asked for, is accepted by a
-- standby with no block due, given its bytes and room for an ACK. Assumes nothing.
use Prim.Native.Nat.{ℕ, ◌+◌, ◌≤◌, ◌<◌}
use mathlib.Core.Path.{◌≡◌, refl, sym, ap, ◌∙◌, subst}
use mathlib.Core.Bool.{Bool, true}
use mathlib.Core.List.{List, ◌++◌}
use native.Mathlib.Omega.{arith}
use lib.ListN.{length, take, drop, length-append}
use Rattle.lists.specs.Select.{is_in}
use Rattle.records.specs.declared.Reader.TheVariants as reader
use Rattle.records.specs.Kind.{ACK, unit_ok, is_wide, body_length, record_length}
use Rattle.records.specs.Read.{read_record, used_of}
use Rattle.records.specs.Message.{Message, page, block, state, commit, ack, encode, read_as}
use Rattle.records.proofs.MessageLaws.{whole-message}
use Rattle.settings.specs.declared.StandbySettings.{StandbySettings}
use Rattle.settings.proofs.RangeLaws.{shared-unit}
use Rattle.staging.proofs.BlockLaws.{count-fresh, due-same}
use Rattle.rules.specs.declared.ReadLent.{ReadLent}
use Rattle.rules.specs.declared.Standby.{Standby}
use Rattle.rules.specs.Reply.{number_of, answer_of}
use Rattle.rules.specs.Judge.{free_for, record_refusal, judged}
use Rattle.rules.specs.Read.{read_lent, read_state}
use Rattle.rules.specs.World.{World}
use Rattle.rules.specs.World as call
use Rattle.rules.specs.Step.{Stepped, step}
use Rattle.rules.proofs.StandbyFacts.{standby-facts}
use Rattle.rules.proofs.JudgeLaws.{page-accepts, block-accepts, state-accepts, commit-accepts, read-lent-of, judged-number}
use Rattle.runs.specs.Plain.{Checkpoint}
use Rattle.runs.proofs.Effects.{Before, Readable}
use Rattle.runs.proofs.RecordSteps.{read_by, read_step}
use Rattle.checkpoints.specs.Judge.{Known, message_refusal}
use Rattle.checkpoints.proofs.ByteLaws.{message_of}
use Rattle.checkpoints.proofs.FileBytes.{message-read, message-rest}
use Rattle.checkpoints.proofs.KnownLaws.{page-facts, block-facts, state-facts, commit-facts, message_epoch}
use Rattle.checkpoints.proofs.Standing.{file_settings, Standing}
use Rattle.checkpoints.proofs.StandingRead.{After, read_done}

-- a message read back is no refusal
read_number_lem : (u : ℕ) (wide : Bool) (y : Message) → number_of (answer_of (read_as u wide y)) ≡ 0
read_number_lem u wide (page e p bs) = refl
read_number_lem u wide (block e n bs) = refl
read_number_lem u wide (state e bs) = refl
read_number_lem u wide (commit e p b) = refl
read_number_lem u wide (ack e) = refl

-- the blocks due stay so many
due-kept : (s : Standby) (bytes : List ℕ) (u : ℕ) (wide : Bool) (y : Message) → Before y → (read_state s bytes (read_as u wide y)).slots.due ≡ s.slots.due
due-kept s bytes u wide (page e p bs) b = refl
due-kept s bytes u wide (block e n bs) b = due-same s.slots n
due-kept s bytes u wide (state e bs) b = refl
due-kept s bytes u wide (commit e p n) b = absurd b
due-kept s bytes u wide (ack e) b = absurd b

-- what such a read leads to: t from the link that begins with y
pub record Takes (x : StandbySettings) (base : Checkpoint) (r : ℕ) (k : Known) (ms : List Message) (rest : List ℕ) (t : Stepped) (y : Message) : Type 0 where
  pub number : t.outcome.number ≡ 0
  pub link : t.next.link ≡ rest
  pub free : Before y → t.next.standby.state.slots.due ≡ 0
  pub after : After x base r k ms t.next.standby y

module _ (base : Checkpoint) (r : ℕ) (k : Known) (ms : List Message) (w : World) (h : Standing w.standby.state.settings base r k ms w.standby)
    (free : w.standby.state.slots.due ≡ 0) (n : ℕ) (reply : List ℕ) (room : record_length w.standby.state.settings.u ACK ≤ length reply) where
  abbrev s : Standby
  s = w.standby.state

  abbrev x : StandbySettings
  x = w.standby.state.settings

  abbrev wide : Bool
  wide = is_wide w.standby.state.settings.m

  abbrev lent : ReadLent
  lent = let e = w.standby in read_lent e.memory e.staged_pages e.staged_marks e.staged_blocks reply

  -- the epoch asked for
  asked : (epoch : ℕ) → epoch ≡ r + 1 → epoch ≡ s.received + 1
  asked epoch e = e ∙ ap (λ (v : ℕ). v + 1) (sym h.received)

  -- fewer than B blocks of the epoch, and none due: a slot is free
  slot-free : length k.numbers < x.b → 0 < free_for s
  slot-free few =
      let t = standby-facts s h.range.in_range in
      let count = count-fresh s.slots h.range.numbers (omega (arith, t.slots.staged-high, t.settings.slots.s-high)) in
      omega (arith, count, ap length h.numbers, t.settings.slots.s-low, free)

  -- its tests at the standby hold
  not-refused : (y : Message) → message_epoch y ≡ r + 1 → message_refusal (file_settings x) k y ≡ 0 → record_refusal s (length reply) (read_as x.u wide y) ≡ 0
  unfolding record_length body_length
  not-refused (page e p bs) epoch z =
      let f = page-facts (file_settings x) k e p bs z in
      page-accepts s e p
      (record { page-low = f.low; epoch-next = asked e epoch; rising = omega (arith, f.rising, h.next); not-below = omega (arith, f.rising, h.pages, h.pages_low); before-state = h.seen ∙ f.before-state })
  not-refused (block e m bs) epoch z =
      let f = block-facts (file_settings x) k e m bs z in
      block-accepts s e m
      (record {
        block-low = f.low;
        epoch-next = asked e epoch;
        before-pages = h.next ∙ h.no_pages f.before-pages;
        no-pages = h.pages ∙ f.before-pages;
        before-state = h.seen ∙ f.before-state;
        allowed = record {
          records-low = omega (arith, f.allowed.records-low, h.records);
          blocks-low = λ c. omega (arith, f.allowed.blocks-low (sym (ap (is_in m) h.numbers) ∙ c), h.blocks);
        };
        slot-free = λ c. slot-free (f.allowed.blocks-low (sym (ap (is_in m) h.numbers) ∙ c));
      })
  not-refused (state e bs) epoch z =
      let f = state-facts (file_settings x) k e bs z in
      state-accepts s e (record { epoch-next = asked e epoch; first = h.seen ∙ f.first })
  not-refused (commit e p b) epoch z =
      let f = commit-facts (file_settings x) k e p b z in
      commit-accepts s (length reply) e p b
      (record { room = room; epoch-next = asked e epoch; after-state = h.seen ∙ f.after-state; pages-same = f.pages-same ∙ sym h.pages; records-same = f.records-same ∙ sym h.records })
  not-refused (ack e) epoch z = absurd (omega arith)

  -- U is in its range
  unit : unit_ok x.u ≡ true
  unit = shared-unit (standby-facts s h.range.in_range).settings.shared

  -- the link begins with y, and the read is given all of it
  module _ (y : Message) (rest : List ℕ) (f : Readable w.standby.state.settings.u (is_wide w.standby.state.settings.m) y)
      (begins : w.link ≡ encode (is_wide w.standby.state.settings.m) y ++ rest) (enough : length w.link ≤ n) (epoch : message_epoch y ≡ r + 1)
      (z : message_refusal (file_settings w.standby.state.settings) k y ≡ 0) where
    -- it is read
    read_is : read_record (reader.Standby wide) x.u (take n w.link) ≡ read_as x.u wide y
    read_is =
        ap (λ (l : List ℕ). read_record (reader.Standby wide) x.u (take n l)) begins
        ∙ whole-message (reader.Standby wide) x.u unit wide y f.0 f.1 n rest (omega (arith, ap length begins, length-append (encode wide y) rest))

    -- it is judged accepted
    judged-is : judged s lent (take n w.link) ≡ read_as x.u wide y
    judged-is =
        judged-number s lent (take n w.link) h.range.in_range
        (read-lent-of s lent (record { memory-is = h.memory; pages-is = h.staged_pages; marks-is = h.staged_marks; blocks_is = h.staged_blocks }))
        h.receiving (read_as x.u wide y) (sym read_is) 0 (sym (not-refused y epoch z))

    -- and the call goes by it
    step_is : step w (call.read n reply) ≡ read_by w (take n w.link) reply (read_as x.u wide y)
    step_is = read_step w n reply ∙ ap (read_by w (take n w.link) reply) judged-is

    -- with number 0
    accepted : (step w (call.read n reply)).outcome.number ≡ 0
    accepted = ap (λ (t : Stepped). t.outcome.number) step_is ∙ read_number_lem x.u wide y

    -- the law of such a read
    pub read-takes : Takes w.standby.state.settings base r k ms rest (step w (call.read n reply)) y
    read-takes =
        let d = read_done base r k ms w h n reply accepted in
        let message : message_of (read_record (reader.Standby wide) x.u w.link) w.link ≡ y
        = ap (λ (l : List ℕ). message_of (read_record (reader.Standby wide) x.u l) l) begins ∙ message-read x.u wide unit y f rest in
        record {
          number = accepted;
          link = d.link ∙ ap (λ (l : List ℕ). drop (used_of (read_record (reader.Standby wide) x.u l)) l) begins ∙ message-rest x.u wide unit y f rest;
          free = λ b. ap (λ (t : Stepped). t.next.standby.state.slots.due) step_is ∙ due-kept s (take n w.link) x.u wide y b ∙ free;
          after = subst (After x base r k ms (step w (call.read n reply)).next.standby) message d.after;
        }
